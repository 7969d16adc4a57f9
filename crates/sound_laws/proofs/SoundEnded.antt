-- The whole run of an objective that is not refused is sound, from the start to its end.
-- Assumes nothing.
use Rattle.std.specs.Prelude.{◌≡◌}
use Rattle.std.proofs.Common.{◌∙◌}
use Rattle.rules.specs.Options.{asked}
use Rattle.rules.specs.Objective.{Objective}
use Rattle.rules.specs.Fixing.{start}
use Rattle.rules.specs.Run.{ended}
use Rattle.accepted_laws.specs.Accept.{Fit}
use Rattle.sound_laws.specs.Sound.{Sound}
use Rattle.sound_laws.specs.SoundRun.{begin_sound}
use Rattle.sound_laws.proofs.SoundRun.{run_sound}
use Rattle.sound_laws.specs.SoundStart.{start_stands}

module _ (o : Objective) (fit : Fit o) where
  pub ended_sound : Sound (start o) (ended o).state.steps (ended o).state.graph
  unfolding ended
  ended_sound = run_sound (start o) o.budget (asked o) _ (begin_sound (start o) (asked o) (start_stands o fit).fine)

  pub ended_n : (ended o).state.graph.n ≡ o.n
  ended_n = ended_sound.stands.size ∙ (start_stands o fit).size
