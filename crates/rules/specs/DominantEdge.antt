-- 01, "Dominant neighbour of i", and the substitution of the Rust's `contract`.
-- Assumes nothing.
use Rattle.std.specs.Prelude.{Bool, cond, ◌&&◌, ◌||◌, List, [], ◌∷◌, ℕ, eqb, ℤ, pos, ◌+ℤ◌, ◌-ℤ◌, neg_ℤ}
use Rattle.std.specs.Int.Signed.{lt_z, le_z}
use Rattle.whole.specs.Words.{is_zero_z, below0, above0}
use Rattle.rules.specs.Graph.{Graph, lin, edge, neighbours, row, add_constant, add_linear, add_edge, drop_to}
use Rattle.rules.specs.Eliminate.{Step, step}

-- the sum of a list's negative weights, and of its positive ones
unfoldable pub negatives : List ℤ → ℤ
negatives [] = pos 0
negatives (w ∷ ws) = below0 w +ℤ negatives ws

unfoldable pub positives : List ℤ → ℤ
positives [] = pos 0
positives (w ∷ ws) = above0 w +ℤ positives ws

-- "lo is a plus its negative edges, hi is a plus its positive ones"
abbrev pub lo : Graph → ℕ → ℤ
lo g i = lin g i +ℤ negatives (row g i (neighbours g i))

abbrev pub hi : Graph → ℕ → ℤ
hi g i = lin g i +ℤ positives (row g i (neighbours g i))

abbrev pub positive : Graph → ℕ → ℕ → Bool
positive g i j = lt_z (pos 0) (edge g i j)

-- "Edge w positive: hi − w ≤ 0 and lo + w ≥ 0 ... Negative: hi + w ≤ 0 and lo − w ≥ 0": the two bounds
abbrev pub upper : Graph → ℕ → ℕ → ℤ
upper g i j = cond (positive g i j) (hi g i -ℤ edge g i j) (hi g i +ℤ edge g i j)

abbrev pub lower : Graph → ℕ → ℕ → ℤ
lower g i j = cond (positive g i j) (lo g i +ℤ edge g i j) (lo g i -ℤ edge g i j)

abbrev pub dominates : Graph → ℕ → ℕ → Bool
dominates g i j = le_z (upper g i j) (pos 0) && le_z (pos 0) (lower g i j)

-- "Weak when either bound is 0."
abbrev pub weak : Graph → ℕ → ℕ → Bool
weak g i j = is_zero_z (upper g i j) || is_zero_z (lower g i j)

-- "Neighbours ascending, the first that passes."
pub data Found : Type 0 where
  nothing : Found
  at : ℕ → Found

unfoldable pub first : (ℕ → Bool) → List ℕ → Found
first p [] = nothing
first p (x ∷ xs) = cond (p x) (at x) (first p xs)

unfoldable pub dominant : Graph → ℕ → Found
dominant g i = first (dominates g i) (neighbours g i)

-- "x of i becomes 1 − x of j": each other edge w of i goes to its neighbour's a, and −w to the edge of that neighbour and j
unfoldable pub turn : Graph → ℕ → ℕ → List ℕ → Graph → Graph
turn old i j [] g = g
turn old i j (k ∷ ks) g = turn old i j ks (cond (eqb k j) g (add_edge j k (neg_ℤ (edge old i k)) (add_linear k (edge old i k) g)))

-- "x of i becomes x of j": each other edge of i goes to the edge of that neighbour and j
unfoldable pub move : Graph → ℕ → ℕ → List ℕ → Graph → Graph
move old i j [] g = g
move old i j (k ∷ ks) g = move old i j ks (cond (eqb k j) g (add_edge j k (edge old i k) g))

-- "Substitute as `contract` does"
unfoldable pub contract : ℕ → ℕ → Graph → Graph
contract i j g =
    cond (positive g i j)
    (turn g i j (neighbours g i) (add_linear j (neg_ℤ (lin g i)) (add_constant (lin g i) (drop_to 3 i g))))
    (move g i j (neighbours g i) (add_linear j (lin g i +ℤ edge g i j) (drop_to 3 i g)))

-- "choices are (1,0) or (0,1) over the neighbour j": bit 0, or bit 1
unfoldable pub contract_step : ℕ → ℕ → Graph → Step
contract_step i j g = step i (j ∷ []) (cond (positive g i j) 1 2)
