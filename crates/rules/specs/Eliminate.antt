-- 01, "Eliminate".
-- Assumes nothing.
use Rattle.std.specs.Prelude.{Bool, List, [], ◌∷◌, ℕ, ◌^◌, length, ℤ, pos, ◌+ℤ◌, ◌-ℤ◌}
use Rattle.std.specs.Int.Signed.{lt_z}
use Rattle.whole.specs.Words.{below0, chosen, bits_from}
use Rattle.rules.specs.Graph.{Graph, lin, neighbours, row, add_constant, add_linear, add_edge, drop_to}

-- a step of growing back: the decision, the neighbours that it looks at, and its choice for each mask of their values, bit m for mask m
pub record Step : Type 0 where
  pub decision : ℕ
  pub near : List ℕ
  pub choices : ℕ

abbrev pub step : ℕ → List ℕ → ℕ → Step
step i near c = record { decision = i; near = near; choices = c }

-- "Neighbours ascending; bit k of a mask is neighbour k. delta(mask) is a plus the chosen edges."
abbrev pub delta : Graph → ℕ → ℕ → ℤ
delta g i m = lin g i +ℤ chosen (row g i (neighbours g i)) m

-- "The choice is 1 only for delta below 0; exactly 0 chooses 0."
abbrev pub chooses : Graph → ℕ → ℕ → Bool
chooses g i m = lt_z (delta g i m) (pos 0)

unfoldable pub step_of : Graph → ℕ → Step
step_of g i = step i (neighbours g i) (bits_from (chooses g i) 0 (2 ^ length (neighbours g i)))

-- "With T the smaller of delta and 0"
abbrev pub tee : Graph → ℕ → ℕ → ℤ
tee g i m = below0 (delta g i m)

-- "constant gains T(0); neighbour k gains T(1 shifted by k) − T(0); with two neighbours their edge gains T(3) − T(1) − T(2) + T(0)"
unfoldable pub absorb : (ℕ → ℤ) → List ℕ → Graph → Graph
absorb t [] g = add_constant (t 0) g
absorb t (j ∷ []) g = add_linear j (t 1 -ℤ t 0) (add_constant (t 0) g)
absorb t (j ∷ k ∷ ks) g =
    add_edge j k (t 3 -ℤ t 1 -ℤ t 2 +ℤ t 0) (add_linear k (t 2 -ℤ t 0) (add_linear j (t 1 -ℤ t 0) (add_constant (t 0) g)))

unfoldable pub eliminate : ℕ → Graph → Graph
eliminate i g = absorb (tee g i) (neighbours g i) (drop_to 3 i g)
