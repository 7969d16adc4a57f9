-- 01, "Size rule": "At that size the reduced constant and each linear weight stay within ±2^40 and each edge within ±2^41 at the end of every reduction,
-- because the reduced cost only takes values the original takes."
-- Assumes nothing.
use Rattle.std.proofs.Common.{sym, arith}
use Rattle.std.specs.Prelude.{List, ℕ, ◌≤◌, ◌<◌}
use Rattle.whole.specs.Tests.{refuse}
use Rattle.rules.specs.Options.{asked}
use Rattle.rules.specs.Objective.{Objective}
use Rattle.rules.specs.Graph.{Graph, active}
use Rattle.rules.specs.Fixing.{start}
use Rattle.rules.specs.Size.{Within}
use Rattle.rules.specs.Eliminate.{Step}
use Rattle.rules.specs.Run.{run, begin, ended}
use Rattle.cost_laws.specs.BlockSteps.{played_back}
use Rattle.cost_laws.specs.Stands.{Fine}
use Rattle.accepted_laws.specs.Accept.{Fit}
use Rattle.sound_laws.specs.Sound.{Sound}
use Rattle.sound_laws.specs.SoundRun.{begin_sound}
use Rattle.sound_laws.proofs.SoundRun.{run_sound}
use Rattle.sound_laws.specs.SoundStart.{start_stands}
use Rattle.sound_laws.proofs.SoundEnded.{ended_sound}
use Rattle.size_laws.specs.Values.{Narrow, TakenFrom}
use Rattle.size_laws.specs.ValueLaws.{start_narrow, taken_narrow}
use Rattle.size_laws.proofs.NarrowWithin.{narrow_within}

-- "the reduced cost only takes values the original takes"
sound_taken : {g g' : Graph} {steps : List Step} → Sound g steps g' → TakenFrom g g'
sound_taken {steps = steps} s = record { plan = played_back steps; same = λ x. sym (s.exact x) }

fine_within : (g : Graph) → Fine g → Narrow g → Within g
fine_within g f w = narrow_within g f.shaped w f.neat (λ i h. f.light i (refuse (active g i) (λ a. beyond i h (f.inside i a))))
  where
    beyond : (i : ℕ) → g.n ≤ i → i < g.n → ⊥
    beyond i h l = omega arith

-- of every objective that is not refused
module _ (o : Objective) (fit : Fit o) where
  -- whatever is soundly reduced from it
  pub reduced_within : {steps : List Step} {g : Graph} → Sound (start o) steps g → Within g
  reduced_within {g = g} s = fine_within g s.stands.fine (taken_narrow (sound_taken s) (start_narrow o fit))

  -- "at the end of every reduction": each state of the run is its state at some budget
  pub run_within : (b : ℕ) → Within (run b (asked o) (begin (asked o) (start o))).state.graph
  run_within b =
      reduced_within (run_sound (start o) b (asked o) (begin (asked o) (start o)) (begin_sound (start o) (asked o) (start_stands o fit).fine))

  pub ended_within : Within (ended o).state.graph
  ended_within = reduced_within (ended_sound o fit)
