-- Fixing: the cost after it is the cost before it of the plan with the fixings put in.
-- Assumes nothing.
use Rattle.std.specs.Prelude.{◌≡◌, Bool, true, false, cond, ℕ, ◌≤◌, ltb, eqb, length, get_or}
use Rattle.std.proofs.Math.Path.{refl}
use Rattle.std.proofs.Common.{sym, ◌∙◌, arith, ltb-true}
use mathlib.Core.List.{List}
use Rattle.rules.specs.Graph.{Graph}
use Rattle.rules.specs.Fixing.{fix_all}
use Rattle.cost_laws.specs.CostLaws.{cost, Shaped}
use Rattle.cost_laws.specs.BlockCost.{cost_ext}
use Rattle.objective_laws.specs.ObjectiveCost.{with_fixings, Keeps}
use Rattle.objective_laws.specs.FixLaws.{put_from, put_with, all_fixed}

-- of every plan, and of one that keeps the fixings
module _ (fs : List ℕ) (g : Graph) (s : Shaped g) (long : length fs ≤ g.n) where
  pub fixed_cost : (x : ℕ → Bool) → cost (fix_all 0 fs g) x ≡ cost g (with_fixings fs x)
  fixed_cost x = (all_fixed 0 fs g s (omega arith)).costs x ∙ cost_ext g (put_from 0 fs x) (with_fixings fs x) (put_with fs x)

  pub kept_cost : (x : ℕ → Bool) → Keeps fs x → cost (fix_all 0 fs g) x ≡ cost g x
  kept_cost x keeps = fixed_cost x ∙ cost_ext g (with_fixings fs x) x (λ k. same k (ltb (get_or fs k 2) 2) refl)
    where
      same : (k : ℕ) (t : Bool) → ltb (get_or fs k 2) 2 ≡ t → cond t (eqb (get_or fs k 2) 1) (x k) ≡ x k
      same k true e = sym (keeps k (ltb-true (get_or fs k 2) 2 e))
      same k false e = refl
