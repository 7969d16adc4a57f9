-- Soundness composes: so it holds of a whole run.
-- Assumes nothing.
use Rattle.std.specs.Prelude.{List, ◌++◌}
use Rattle.std.proofs.Common.{◌∙◌}
use Rattle.whole.specs.Cmp.{≤ℤ_trans}
use Rattle.rules.specs.Graph.{Graph}
use Rattle.rules.specs.Eliminate.{Step}
use Rattle.cost_laws.specs.BlockCost.{cost_ext}
use Rattle.cost_laws.specs.BlockSteps.{played_back}
use Rattle.sound_laws.specs.Sound.{Sound, decisions, decisions_append, marked_append, steps_append, played_append}

pub sound_then : {a b : List Step} {g g₁ g₂ : Graph} → Sound g a g₁ → Sound g₁ b g₂ → Sound g (a ++ b) g₂
sound_then {a} {b} {g} {g₁} {g₂} p q = record {
  taken = steps_append g.n g.states a b p.taken (rw (p.stands.size, p.stands.states) at q.taken);
  stands = rw (decisions_append a b, marked_append (decisions a) (decisions b) g.states) (rw (p.stands.size, p.stands.states) at q.stands);
  exact = λ x. cost_ext g (played_back (a ++ b) x) (played_back a (played_back b x)) (played_append a b x) ∙ p.exact (played_back b x) ∙ q.exact x;
  never = λ x. ≤ℤ_trans (q.never x) (p.never x);
}
