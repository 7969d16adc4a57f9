-- A dominant neighbour: at every plan its choice for i is a best one, so contracting makes no plan worse.
-- Assumes nothing.
use Rattle.std.specs.Prelude.{◌≡◌, Bool, true, false, cond, not, ℕ, ◌<◌, ℤ, pos, ◌+ℤ◌, ◌≤ℤ◌}
use Rattle.std.proofs.Math.Path.{refl, subst}
use Rattle.std.proofs.Common.{sym, ap, ◌∙◌}
use mathlib.Core.List.{List, [], ◌∷◌, map}
use Rattle.std.specs.Int.Signed.{≤ℤ_refl}
use Rattle.whole.specs.Ints.{ints, zarith}
use Rattle.whole.specs.Cmp.{lt_ind}
use Rattle.whole.specs.Words.{mem, below0, above0}
use Rattle.whole.specs.Tests.{clash}
use Rattle.whole.specs.Members.{in_cons}
use Rattle.rules.specs.Graph.{Graph, lin, edge, neighbours, row}
use Rattle.rules.specs.DominantEdge.{negatives, positives, lo, hi, positive, contract}
use Rattle.whole.specs.Sum.{Σ<}
use Rattle.cost_laws.specs.Cost.{when, when_zero, delta_of}
use Rattle.cost_laws.specs.CostLaws.{Shaped}
use Rattle.cost_laws.specs.EliminateLaws.{sum_over, over_nbrs}
use Rattle.cost_laws.specs.ReduceLaws.{ReducedBy}
use Rattle.cost_laws.specs.ContractLaws.{move_reduces, turn_reduces}
use Rattle.cost_laws.specs.Growth.{in_nbrs}

-- what a weight adds lies between its negative and its positive part
part_low : (b : Bool) (w : ℤ) → below0 w ≤ℤ when b w
part_low true w = lt_ind w (pos 0) (λ t. cond t w (pos 0) ≤ℤ w) (λ e. simp ints (omega zarith)) (λ e. simp ints (omega zarith))
part_low false w = lt_ind w (pos 0) (λ t. cond t w (pos 0) ≤ℤ pos 0) (λ e. simp ints (omega zarith)) (λ e. simp ints (omega zarith))

part_high : (b : Bool) (w : ℤ) → when b w ≤ℤ above0 w
part_high true w = lt_ind w (pos 0) (λ t. w ≤ℤ cond t (pos 0) w) (λ e. simp ints (omega zarith)) (λ e. simp ints (omega zarith))
part_high false w = lt_ind w (pos 0) (λ t. pos 0 ≤ℤ cond t (pos 0) w) (λ e. simp ints (omega zarith)) (λ e. simp ints (omega zarith))

sums : {a b c d : ℤ} → a ≤ℤ b → c ≤ℤ d → (a +ℤ c) ≤ℤ (b +ℤ d)
sums {a} {b} {c} {d} h k = simp ints (omega zarith)

here : (a b c d : ℤ) → b ≤ℤ d → (a +ℤ b +ℤ c) ≤ℤ (c +ℤ d +ℤ a)
here a b c d h = simp ints (omega zarith)

there : (a b c p q r : ℤ) → a ≤ℤ p → (b +ℤ c) ≤ℤ (q +ℤ r) → (a +ℤ b +ℤ c) ≤ℤ (p +ℤ q +ℤ r)
there a b c p q r h k = simp ints (omega (zarith, simp ints at k))

module _ (x : ℕ → Bool) (w : ℕ → ℤ) where
  sum_low : (ks : List ℕ) → negatives (map w ks) ≤ℤ sum_over (λ k. when (x k) (w k)) ks
  unfolding negatives sum_over
  sum_low [] = simp ints (omega zarith)
  sum_low (k ∷ ks) = sums (part_low (x k) (w k)) (sum_low ks)

  sum_high : (ks : List ℕ) → sum_over (λ k. when (x k) (w k)) ks ≤ℤ positives (map w ks)
  unfolding positives sum_over
  sum_high [] = simp ints (omega zarith)
  sum_high (k ∷ ks) = sums (part_high (x k) (w k)) (sum_high ks)

  -- with j's own part as it is
  own_low : (j : ℕ) (ks : List ℕ) → mem j ks ≡ true → (negatives (map w ks) +ℤ when (x j) (w j)) ≤ℤ (sum_over (λ k. when (x k) (w k)) ks +ℤ below0 (w j))
  unfolding negatives sum_over mem
  own_low j [] m = clash m refl
  own_low j (k ∷ ks) m = in_cons j k ks m
      (λ e. subst (λ (i : ℕ). (below0 (w k) +ℤ negatives (map w ks) +ℤ when (x i) (w i)) ≤ℤ (when (x k) (w k) +ℤ sum_over (λ k. when (x k) (w k)) ks +ℤ below0 (w i))) (sym e)
      (here (below0 (w k)) (negatives (map w ks)) (when (x k) (w k)) (sum_over (λ k. when (x k) (w k)) ks) (sum_low ks)))
      (λ r. there (below0 (w k)) (negatives (map w ks)) (when (x j) (w j)) (when (x k) (w k)) (sum_over (λ k. when (x k) (w k)) ks) (below0 (w j)) (part_low (x k) (w k)) (own_low j ks r))

  own_high : (j : ℕ) (ks : List ℕ) → mem j ks ≡ true → (sum_over (λ k. when (x k) (w k)) ks +ℤ above0 (w j)) ≤ℤ (positives (map w ks) +ℤ when (x j) (w j))
  unfolding positives sum_over mem
  own_high j [] m = clash m refl
  own_high j (k ∷ ks) m = in_cons j k ks m
      (λ e. subst (λ (i : ℕ). (when (x k) (w k) +ℤ sum_over (λ k. when (x k) (w k)) ks +ℤ above0 (w i)) ≤ℤ (above0 (w k) +ℤ positives (map w ks) +ℤ when (x i) (w i))) (sym e)
      (here (when (x k) (w k)) (sum_over (λ k. when (x k) (w k)) ks) (above0 (w k)) (positives (map w ks)) (sum_high ks)))
      (λ r. there (when (x k) (w k)) (sum_over (λ k. when (x k) (w k)) ks) (above0 (w j)) (above0 (w k)) (positives (map w ks)) (when (x j) (w j)) (part_high (x k) (w k)) (own_high j ks r))

-- delta of i at a plan lies between lo and hi, where j's edge w counts as it is
module _ (g : Graph) (i j : ℕ) (m : mem j (neighbours g i) ≡ true) (x : ℕ → Bool) where
  over_is : sum_over (λ k. when (x k) (edge g i k)) (neighbours g i) ≡ Σ< g.n (λ k. when (x k) (edge g i k))
  over_is = over_nbrs g i (λ k. when (x k) (edge g i k)) (λ k e. ap (when (x k)) e ∙ when_zero (x k))

  pub delta_low : (lo g i +ℤ when (x j) (edge g i j)) ≤ℤ (delta_of g.n (lin g) (edge g) x i +ℤ below0 (edge g i j))
  delta_low =
      there (lin g i) (negatives (row g i (neighbours g i))) (when (x j) (edge g i j)) (lin g i) (Σ< g.n (λ k. when (x k) (edge g i k))) (below0 (edge g i j)) (≤ℤ_refl (lin g i))
      (subst (λ (z : ℤ). (negatives (row g i (neighbours g i)) +ℤ when (x j) (edge g i j)) ≤ℤ (z +ℤ below0 (edge g i j))) over_is (own_low x (edge g i) j (neighbours g i) m))

  pub delta_high : (delta_of g.n (lin g) (edge g) x i +ℤ above0 (edge g i j)) ≤ℤ (hi g i +ℤ when (x j) (edge g i j))
  delta_high =
      there (lin g i) (Σ< g.n (λ k. when (x k) (edge g i k))) (above0 (edge g i j)) (lin g i) (positives (row g i (neighbours g i))) (when (x j) (edge g i j)) (≤ℤ_refl (lin g i))
      (subst (λ (z : ℤ). (z +ℤ above0 (edge g i j)) ≤ℤ (positives (row g i (neighbours g i)) +ℤ when (x j) (edge g i j))) over_is (own_high x (edge g i) j (neighbours g i) m))

-- the choice of contracting i into j: 1 − x of j, or x of j
abbrev pub contract_choice : Graph → ℕ → ℕ → (ℕ → Bool) → Bool
contract_choice g i j x = cond (positive g i j) (not (x j)) (x j)

module _ (g : Graph) (i j : ℕ) (s : Shaped g) (li : i < g.n) (m : mem j (neighbours g i) ≡ true) where
  lj : j < g.n
  lj = (in_nbrs g i j m).0

  pub contract_reduces : ReducedBy i (contract_choice g i j) g (contract i j g)
  contract_reduces = go (positive g i j) refl
    where
      go : (t : Bool) → positive g i j ≡ t → ReducedBy i (λ x. cond t (not (x j)) (x j)) g (contract i j g)
      go true e = turn_reduces g i j s li lj e
      go false e = move_reduces g i j s li lj e
