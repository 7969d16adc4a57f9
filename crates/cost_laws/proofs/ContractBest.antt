-- A dominant neighbour: at every plan its choice for i is a best one, so contracting makes no plan worse.
-- Assumes nothing.
use Rattle.std.specs.Prelude.{◌≡◌, Bool, true, false, cond, not, ℕ, ◌<◌, ℤ, pos, ◌+ℤ◌, ◌-ℤ◌, ◌≤ℤ◌}
use Rattle.std.proofs.Math.Path.{refl}
use Rattle.std.specs.Int.Signed.{lt_z, le_z}
use Rattle.whole.specs.Ints.{ints, zarith}
use Rattle.whole.specs.Cmp.{lt_ind}
use Rattle.whole.specs.Words.{mem, below0, above0}
use Rattle.whole.specs.Tests.{and-true}
use Rattle.rules.specs.Graph.{Graph, lin, edge, neighbours}
use Rattle.rules.specs.DominantEdge.{lo, hi, positive, upper, lower, dominates, contract}
use Rattle.cost_laws.specs.Cost.{when, delta_of}
use Rattle.cost_laws.specs.CostLaws.{cost, Shaped}
use Rattle.cost_laws.specs.ReduceLaws.{never_more}
use Rattle.cost_laws.specs.DominantLaws.{delta_low, delta_high, contract_choice, contract_reduces}

above_part : (w : ℤ) → lt_z (pos 0) w ≡ true → (below0 w ≡ pos 0) × (above0 w ≡ w)
above_part w h = (
  lt_ind w (pos 0) (λ t. cond t w (pos 0) ≡ pos 0) (λ e. simp ints (omega zarith)) (λ e. refl),
  lt_ind w (pos 0) (λ t. cond t (pos 0) w ≡ w) (λ e. simp ints (omega zarith)) (λ e. refl),
)

below_part : (w : ℤ) → lt_z (pos 0) w ≡ false → (below0 w ≡ w) × (above0 w ≡ pos 0)
below_part w h = (
  lt_ind w (pos 0) (λ t. cond t w (pos 0) ≡ w) (λ e. refl) (λ e. simp ints (omega zarith)),
  lt_ind w (pos 0) (λ t. cond t (pos 0) w ≡ pos 0) (λ e. refl) (λ e. simp ints (omega zarith)),
)

-- d at most 0 chooses 1, d at least 0 chooses 0
choose_one : (d : ℤ) (c : Bool) → d ≤ℤ pos 0 → d ≤ℤ when c d
choose_one d true h = simp ints (omega zarith)
choose_one d false h = h

choose_none : (d : ℤ) (c : Bool) → pos 0 ≤ℤ d → pos 0 ≤ℤ when c d
choose_none d true h = h
choose_none d false h = simp ints (omega zarith)

-- w positive: x of i becomes 1 − x of j
turn_best : (b c : Bool) (d l h w : ℤ) → le_z (h -ℤ w) (pos 0) ≡ true → le_z (pos 0) (l +ℤ w) ≡ true → (l +ℤ when b w) ≤ℤ (d +ℤ pos 0) → (d +ℤ w) ≤ℤ (h +ℤ when b w)
    → when (not b) d ≤ℤ when c d
turn_best true c d l h w u v p q = choose_none d c (simp ints (omega (zarith, simp ints at v, simp ints at p)))
turn_best false c d l h w u v p q = choose_one d c (simp ints (omega (zarith, simp ints at u, simp ints at q)))

-- w negative: x of i becomes x of j
move_best : (b c : Bool) (d l h w : ℤ) → le_z (h +ℤ w) (pos 0) ≡ true → le_z (pos 0) (l -ℤ w) ≡ true → (l +ℤ when b w) ≤ℤ (d +ℤ w) → (d +ℤ pos 0) ≤ℤ (h +ℤ when b w)
    → when b d ≤ℤ when c d
move_best true c d l h w u v p q = choose_one d c (simp ints (omega (zarith, simp ints at u, simp ints at q)))
move_best false c d l h w u v p q = choose_none d c (simp ints (omega (zarith, simp ints at v, simp ints at p)))

module _ (g : Graph) (i j : ℕ) (s : Shaped g) (li : i < g.n) (m : mem j (neighbours g i) ≡ true) where
  -- "Testing a dominant edge": with a in lo and hi, the choice is a best one at every plan
  pub contract_best : dominates g i j ≡ true → (x : ℕ → Bool)
      → when (contract_choice g i j x) (delta_of g.n (lin g) (edge g) x i) ≤ℤ when (x i) (delta_of g.n (lin g) (edge g) x i)
  contract_best h x = go (positive g i j) refl (and-true (le_z (upper g i j) (pos 0)) (le_z (pos 0) (lower g i j)) h)
    where
      d : ℤ
      d = delta_of g.n (lin g) (edge g) x i

      w : ℤ
      w = edge g i j

      go : (t : Bool) → lt_z (pos 0) w ≡ t
          → (le_z (cond t (hi g i -ℤ w) (hi g i +ℤ w)) (pos 0) ≡ true) × (le_z (pos 0) (cond t (lo g i +ℤ w) (lo g i -ℤ w)) ≡ true)
          → when (cond t (not (x j)) (x j)) d ≤ℤ when (x i) d
      go true e p =
          let part = above_part w e in
          turn_best (x j) (x i) d (lo g i) (hi g i) w p.0 p.1 (rw part.0 at (delta_low g i j m x)) (rw part.1 at (delta_high g i j m x))
      go false e p =
          let part = below_part w e in
          move_best (x j) (x i) d (lo g i) (hi g i) w p.0 p.1 (rw part.0 at (delta_low g i j m x)) (rw part.1 at (delta_high g i j m x))

  pub contract_never_more : dominates g i j ≡ true → (x : ℕ → Bool) → cost (contract i j g) x ≤ℤ cost g x
  contract_never_more h x = never_more (contract_reduces g i j s li m) x (contract_best h x)
