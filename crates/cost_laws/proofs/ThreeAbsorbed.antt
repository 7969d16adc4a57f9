-- Degree three, not refused: the eight T values are absorbed.
-- Assumes nothing.
use Rattle.std.specs.Prelude.{◌≡◌, Bool, false, List, [], ◌∷◌, ◌≢◌, ℕ, ◌+◌, ◌*◌, ◌<◌, ℤ, pos, ◌+ℤ◌}
use Rattle.std.proofs.Common.{ap, ◌∙◌, arith}
use Rattle.whole.specs.Ints.{ints, zarith}
use Rattle.whole.specs.Words.{one_if, is_zero_z}
use Rattle.rules.specs.Graph.{Graph, neighbours, drop_to}
use Rattle.rules.specs.DegreeThree.{moebius, absorb3, cubic, eliminate3}
use Rattle.rules.specs.Eliminate.{tee}
use Rattle.cost_laws.specs.Cost.{when}
use Rattle.cost_laws.specs.CostLaws.{cost, Shaped}
use Rattle.cost_laws.specs.AbsorbLaws.{three_sum}
use Rattle.whole.specs.Cmp.{zero_of}
use Rattle.cost_laws.specs.EliminateLaws.{mask_at, shaped_drop}
use Rattle.whole.specs.Tests.{on_not}
use Rattle.cost_laws.specs.ReduceLaws.{Absorbed}
use Rattle.cost_laws.specs.DegreeThreeLaws.{Triple, triple, absorb3_cost}

-- with entry 7 zero, the table itself is added
pub absorb3_table : (g : Graph) (x : ℕ → Bool) (t : ℕ → ℤ) (j k l : ℕ) → Shaped g → j < g.n → k < g.n → l < g.n → j ≢ k → j ≢ l → k ≢ l → moebius t 7 ≡ pos 0
    → cost (absorb3 (moebius t) (j ∷ k ∷ l ∷ []) g) x ≡ cost g x +ℤ t (one_if (x j) + 2 * one_if (x k) + 4 * one_if (x l))
absorb3_table g x t j k l s lj lk ll jk jl kl h =
    absorb3_cost g x (moebius t) j k l s lj lk ll jk jl kl
    ∙ group (cost g x) (moebius t 0) (when (x j) (moebius t 1)) (when (x k) (moebius t 2)) (when (x l) (moebius t 4)) (when (x j) (when (x k) (moebius t 3))) (when (x j) (when (x l) (moebius t 5))) (when (x k) (when (x l) (moebius t 6)))
    ∙ ap (λ (z : ℤ). cost g x +ℤ z) (three_sum t h (x j) (x k) (x l))
  where
    group : (c a b d e p q r : ℤ) → c +ℤ a +ℤ b +ℤ d +ℤ e +ℤ p +ℤ q +ℤ r ≡ c +ℤ (a +ℤ b +ℤ d +ℤ e +ℤ p +ℤ q +ℤ r)
    group c a b d e p q r = simp ints (omega zarith)

-- the table itself is added, at the mask of the three
pub absorb3_mask : (g : Graph) (x : ℕ → Bool) (t : ℕ → ℤ) {js : List ℕ} → Shaped g → Triple g.n js → moebius t 7 ≡ pos 0
    → cost (absorb3 (moebius t) js g) x ≡ cost g x +ℤ t (mask_at x js)
unfolding mask_at
absorb3_mask g x t s (triple {j} {k} {l} lj lk ll jk jl kl) h = absorb3_table g x t j k l s lj lk ll jk jl kl h ∙ ap (λ (m : ℕ). cost g x +ℤ t m) plain
  where
    plain : one_if (x j) + 2 * one_if (x k) + 4 * one_if (x l) ≡ one_if (x j) + 2 * (one_if (x k) + 2 * (one_if (x l) + 2 * 0))
    plain = omega arith

pub three_absorbed : (g : Graph) (i : ℕ) → Shaped g → i < g.n → Triple g.n (neighbours g i) → cubic g i ≡ false → Absorbed i g (eliminate3 i g)
unfolding eliminate3 drop_to
three_absorbed g i s li p h x =
    absorb3_mask (drop_to 3 i g) x (tee g i) (shaped_drop 3 i g s li) p (zero_of (moebius (tee g i) 7) (on_not (is_zero_z (moebius (tee g i) 7)) h))
