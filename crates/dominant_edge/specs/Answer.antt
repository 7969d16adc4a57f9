-- What the code answers, in the rules' words.
-- Assumes nothing.
use Rattle.std.specs.Prelude.{◌≡◌, Bool, true, cond, ◌&&◌, ◌||◌, List, ℕ, Option, Some, None, ℤ, pos, get_or, ◌+ℤ◌, ◌-ℤ◌}
use Rattle.std.specs.Int.Signed.{lt_z, le_z}
use Rattle.whole.specs.Words.{is_zero_z, mem}
use Rattle.whole.specs.Masks.{these}
use Rattle.rules.specs.Graph.{Graph, lin, edge, neighbours}
use Rattle.rules.specs.DominantEdge.{Found, nothing, at, lo, hi, weak, dominant, turn, move}
use Rattle.dominant_edge.specs.declared.Bounds.{Bounds}

abbrev pub bounds_at : Graph → ℕ → Bounds
bounds_at g i = record { lo = lo g i; hi = hi g i }

-- the two bounds that an edge w is tested by, where a decision has these
abbrev pub edge_bounds_of : Bounds → ℤ → Bounds
edge_bounds_of b w = cond (lt_z (pos 0) w) (record { lo = b.lo +ℤ w; hi = b.hi -ℤ w }) (record { lo = b.lo -ℤ w; hi = b.hi +ℤ w })

-- whether two bounds let an edge dominate, and then whether one of them is 0
abbrev pub verdict_of : ℤ → ℤ → Option Bool
verdict_of upper lower = cond (le_z upper (pos 0) && le_z (pos 0) lower) (Some (is_zero_z upper || is_zero_z lower)) None

-- an edge w of a decision with these bounds
abbrev pub test_of : Bounds → ℤ → Option Bool
test_of b w = cond (lt_z (pos 0) w) (verdict_of (b.hi -ℤ w) (b.lo +ℤ w)) (verdict_of (b.hi +ℤ w) (b.lo -ℤ w))

abbrev pub answer_of : Graph → ℕ → Found → Option (ℕ × Bool)
answer_of g i nothing = None
answer_of g i (at j) = Some (j, weak g i j)

-- the dominant neighbour and its flag, or none
unfoldable pub dominant_of : Graph → ℕ → Option (ℕ × Bool)
dominant_of g i = answer_of g i (dominant g i)

-- a decision i of weight a, whose neighbours are those of the mask m, in whatever graph has these edges
pub record MatchesAt (a : ℤ) (m i : ℕ) (e : List ℤ) (g : Graph) : Type 0 where
  pub weight : lin g i ≡ a
  pub around : these m ≡ neighbours g i
  pub edges : g.edges ≡ e

abbrev pub BoundsAre : Bounds → ℤ → ℕ → ℕ → List ℤ → Type 0
BoundsAre r a m i e = (g : Graph) → MatchesAt a m i e g → r ≡ bounds_at g i

abbrev pub Finds : Option (ℕ × Bool) → ℤ → ℕ → ℕ → List ℤ → Type 0
Finds r a m i e = (g : Graph) → MatchesAt a m i e g → r ≡ dominant_of g i

-- what was near a decision i that has gone: those of the mask, with their edges in its row
pub record WasNear (row : List ℤ) (m : ℕ) (old : Graph) (i : ℕ) : Type 0 where
  pub around : these m ≡ neighbours old i
  pub weights : (t : ℕ) → mem t (these m) ≡ true → get_or row t (pos 0) ≡ edge old i t

-- i's edges to some decisions are given to j, by the rules' one way or the other
abbrev pub given : Bool → Graph → ℕ → ℕ → List ℕ → Graph → Graph
given turned old i j ks g = cond turned (turn old i j ks g) (move old i j ks g)

abbrev pub Gives : Bool → List ℤ → ℕ → ℕ → Graph → Graph → Type 0
Gives turned row m j g g' = (old : Graph) (i : ℕ) → WasNear row m old i → g' ≡ given turned old i j (neighbours old i) g
