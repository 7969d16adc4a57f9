-- Eliminate, at degree at most 2: what it does to the cost of every plan. Assumes nothing.
use Rattle.std.specs.Prelude.{◌≡◌, refl, Bool, true, false, cond, not, List, [], ◌∷◌, map, ◌≢◌, ℕ, zero, suc, ◌+◌, ◌*◌, ◌/◌, ◌%◌, ◌<◌, eqb, ℤ, pos, ◌+ℤ◌}
use Rattle.std.proofs.Common.{sym, ap, ap₂, ◌∙◌, arith, add-zero, zero-add, length-set}
use Rattle.std.proofs.Math.Decide.{ℕ_discrete}
use Rattle.std.proofs.Math.IntN.{+ℤ_assoc, +ℤ_idl, +ℤ_idr}
use Rattle.whole.specs.Words.{one_if, odd, from, upto, those, chosen, is_zero_z}
use Rattle.whole.specs.Cmp.{zero_of}
use Rattle.rules.specs.Graph.{Graph, lin, edge, neighbours, drop_to}
use Rattle.rules.specs.Eliminate.{absorb, delta}
use Rattle.whole.specs.Sum.{Σ<}
use Rattle.whole.specs.Counts.{shift}
use Rattle.cost_laws.specs.Cost.{when, when_zero, delta_of}
use Rattle.cost_laws.specs.CostLaws.{cost, Shaped, clear_length, drop_edge, drop_zero}
use Rattle.cost_laws.specs.AbsorbLaws.{none_of, one_of, two_of}

-- the mask of some decisions' values
unfoldable pub mask_at : (ℕ → Bool) → List ℕ → ℕ
mask_at x [] = 0
mask_at x (j ∷ js) = one_if (x j) + 2 * mask_at x js

-- the sum of F over a list
unfoldable pub sum_over : (ℕ → ℤ) → List ℕ → ℤ
sum_over F [] = pos 0
sum_over F (j ∷ js) = F j +ℤ sum_over F js

pub odd_of : (b : Bool) (m : ℕ) → odd (one_if b + 2 * m) ≡ b
odd_of true m = ap (λ (r : ℕ). eqb r 1) r₁
  where
    r₁ : (1 + 2 * m) % 2 ≡ 1
    r₁ = omega arith
odd_of false m = ap (λ (r : ℕ). eqb r 1) r₀
  where
    r₀ : (0 + 2 * m) % 2 ≡ 0
    r₀ = omega arith

pub half_of : (b : Bool) (m : ℕ) → (one_if b + 2 * m) / 2 ≡ m
half_of true m = omega arith
half_of false m = omega arith

pub chosen_mask : (x : ℕ → Bool) (w : ℕ → ℤ) (js : List ℕ) → chosen (map w js) (mask_at x js) ≡ sum_over (λ j. when (x j) (w j)) js
unfolding chosen mask_at sum_over
chosen_mask x w [] = refl
chosen_mask x w (j ∷ js) =
    ap₂ (λ (b : Bool) (m : ℕ). when b (w j) +ℤ chosen (map w js) m) (odd_of (x j) (mask_at x js)) (half_of (x j) (mask_at x js))
    ∙ ap (λ (z : ℤ). when (x j) (w j) +ℤ z) (chosen_mask x w js)

over_from : (F : ℕ → ℤ) (k c : ℕ) → sum_over F (from k (suc c)) ≡ sum_over F (from k c) +ℤ F (k + c)
unfolding sum_over from
over_from F k zero = +ℤ_idr (F k) ∙ ap F (sym (add-zero k)) ∙ sym (+ℤ_idl (F (k + zero)))
over_from F k (suc c) =
    ap (λ (z : ℤ). F k +ℤ z) (over_from F (suc k) c ∙ ap (λ (m : ℕ). sum_over F (from (suc k) c) +ℤ F m) (shift k c)) ∙ sym (+ℤ_assoc (F k) (sum_over F (from (suc k) c)) (F (k + suc c)))

pub over_upto : (F : ℕ → ℤ) (n : ℕ) → sum_over F (upto n) ≡ Σ< n F
unfolding sum_over from Σ<
over_upto F zero = refl
over_upto F (suc n) = over_from F 0 n ∙ ap₂ (λ (a b : ℤ). a +ℤ b) (over_upto F n) (ap F (zero-add n))

-- what is left out of a sum is 0
pub over_those : (F w : ℕ → ℤ) → ((k : ℕ) → w k ≡ pos 0 → F k ≡ pos 0) → (js : List ℕ) → sum_over F (those (λ j. not (is_zero_z (w j))) js) ≡ sum_over F js
unfolding sum_over those
over_those F w h [] = refl
over_those F w h (j ∷ js) = go (is_zero_z (w j)) refl (over_those F w h js)
  where
    go : (b : Bool) → is_zero_z (w j) ≡ b → sum_over F (those (λ j. not (is_zero_z (w j))) js) ≡ sum_over F js
        → sum_over F (cond (not b) (j ∷ those (λ j. not (is_zero_z (w j))) js) (those (λ j. not (is_zero_z (w j))) js)) ≡ F j +ℤ sum_over F js
    go true e r = r ∙ sym (ap (λ (z : ℤ). z +ℤ sum_over F js) (h j (zero_of (w j) e)) ∙ +ℤ_idl (sum_over F js))
    go false e r = ap (λ (z : ℤ). F j +ℤ z) r

-- a sum over i's neighbours is the sum over all
pub over_nbrs : (g : Graph) (i : ℕ) (F : ℕ → ℤ) → ((k : ℕ) → edge g i k ≡ pos 0 → F k ≡ pos 0) → sum_over F (neighbours g i) ≡ Σ< g.n F
unfolding neighbours
over_nbrs g i F h = over_those F (edge g i) h (upto g.n) ∙ over_upto F g.n

-- delta by the mask is delta at the plan
pub delta_at : (g : Graph) (x : ℕ → Bool) (i : ℕ) → delta g i (mask_at x (neighbours g i)) ≡ delta_of g.n (lin g) (edge g) x i
delta_at g x i =
    ap (λ (z : ℤ). lin g i +ℤ z)
    (chosen_mask x (edge g i) (neighbours g i) ∙ over_nbrs g i (λ j. when (x j) (edge g i j)) (λ k e. ap (when (x k)) e ∙ when_zero (x k)))

pub shaped_drop : (t i : ℕ) (g : Graph) → Shaped g → i < g.n → Shaped (drop_to t i g)
unfolding drop_to
shaped_drop t i g s li = record {
  few = s.few;
  linear_long = length-set g.linear i (pos 0) ∙ s.linear_long;
  edges_long = clear_length i g.n g.edges ∙ s.edges_long;
  states_long = length-set g.states i t ∙ s.states_long;
  both = λ p q lp lq. go p q lp lq (ℕ_discrete p i) (ℕ_discrete q i);
  self = λ p lp. own p lp (ℕ_discrete p i);
}
  where
    go : (p q : ℕ) → p < g.n → q < g.n → Dec (p ≡ i) → Dec (q ≡ i) → edge (drop_to t i g) p q ≡ edge (drop_to t i g) q p
    go p q lp lq (yes e) d =
        ap (λ (m : ℕ). edge (drop_to t i g) m q) e ∙ (drop_zero g s t i li q lq).0 ∙ sym (drop_zero g s t i li q lq).1 ∙ ap (λ (m : ℕ). edge (drop_to t i g) q m) (sym e)
    go p q lp lq (no np) (yes e) =
        ap (λ (m : ℕ). edge (drop_to t i g) p m) e ∙ (drop_zero g s t i li p lp).1 ∙ sym (drop_zero g s t i li p lp).0 ∙ ap (λ (m : ℕ). edge (drop_to t i g) m p) (sym e)
    go p q lp lq (no np) (no nq) = drop_edge g s t i li p q lp lq np nq ∙ s.both p q lp lq ∙ sym (drop_edge g s t i li q p lq lp nq np)

    own : (p : ℕ) → p < g.n → Dec (p ≡ i) → edge (drop_to t i g) p p ≡ pos 0
    own p lp (yes e) = ap (λ (m : ℕ). edge (drop_to t i g) m p) e ∙ (drop_zero g s t i li p lp).0
    own p lp (no np) = drop_edge g s t i li p p lp lp np np ∙ s.self p lp

-- at most two decisions, each below n and different
pub data AtMostTwo (n : ℕ) : List ℕ → Type 0 where
  empty : AtMostTwo n []
  single : {j : ℕ} → j < n → AtMostTwo n (j ∷ [])
  double : {j k : ℕ} → j < n → k < n → j ≢ k → AtMostTwo n (j ∷ k ∷ [])

pub absorb_cost : (g : Graph) (x : ℕ → Bool) (t : ℕ → ℤ) (ns : List ℕ) → Shaped g → AtMostTwo g.n ns → cost (absorb t ns g) x ≡ cost g x +ℤ t (mask_at x ns)
unfolding mask_at
absorb_cost g x t [] s empty = none_of g x t
absorb_cost g x t (j ∷ []) s (single lj) = one_of g x t j s lj ∙ ap (λ (m : ℕ). cost g x +ℤ t m) plain
  where
    plain : one_if (x j) ≡ one_if (x j) + 2 * 0
    plain = omega arith
absorb_cost g x t (j ∷ k ∷ []) s (double lj lk jk) = two_of g x t j k s lj lk jk ∙ ap (λ (m : ℕ). cost g x +ℤ t m) plain
  where
    plain : one_if (x j) + 2 * one_if (x k) ≡ one_if (x j) + 2 * (one_if (x k) + 2 * 0)
    plain = omega arith
absorb_cost g x t (j ∷ (k ∷ (_ ∷ _))) s none = elim none [ ]
