-- Every outcome that is not refused has the shape that the writer asks for.
-- Assumes nothing.
use Rattle.std.specs.Prelude.{◌≡◌, ℕ}
use Rattle.std.proofs.Common.{subst}
use Rattle.rules.specs.Objective.{Objective}
use Rattle.rules.specs.Run.{ended}
use Rattle.rules.specs.Outcome.{outcome_of, outcome}
use Rattle.rules.specs.Refuse.{reduce_refusal}
use Rattle.accepted_laws.specs.Accept.{Fit, accept}
use Rattle.sound_laws.specs.SoundStart.{states_from}
use Rattle.sound_laws.proofs.SoundEnded.{ended_n}
use Rattle.run_laws.proofs.InOrderLaws.{ended_room}
use Rattle.demand_laws.specs.RunEnds.{end_steps, end_fine, end_taken}
use Rattle.run_record_laws.specs.RunRecord.{steps_narrow}
use Rattle.write_text.specs.OutcomeLaws.{Reported, outcome_reported}

of_fit : (o : Objective) → Fit o → Reported o.n (outcome o)
unfolding outcome
of_fit o fit =
    subst (λ (n : ℕ). Reported n (outcome_of (ended o))) (ended_n o fit) (outcome_reported (ended o) (ended_room o fit).n (end_fine o fit).shaped.states_long (ended_room o fit).steps
    (steps_narrow o.n (states_from o.n o.fixings) (end_steps o) (end_taken o fit)))

pub reported_shape : (o : Objective) → reduce_refusal o 64 4096 ≡ 0 → Reported o.n (outcome o)
reported_shape o h = of_fit o (accept o 64 4096 h).fit
