-- 01, "it writes exactly": what the program writes.
-- Assumes nothing.
use Rattle.std.specs.Prelude.{Bool, true, false, cond, not, ◌&&◌, List, [], ◌∷◌, ◌++◌, ℕ, zero, suc, ◌+◌, ◌/◌, ◌%◌, ◌^◌, ltb, length, take, ℤ, pos, negsuc}
use Rattle.whole.specs.Words.{is_zero_z}
use Rattle.rules.specs.Bytes.{bytes}
use Rattle.rules.specs.Eliminate.{Step}
use Rattle.rules.specs.Outcome.{Outcome}

-- v in decimal, of at most k digits
unfoldable pub decimal : ℕ → ℕ → List ℕ
decimal zero v = []
decimal (suc k) v = cond (ltb v 10) [] (decimal k (v / 10)) ++ ((48 + v % 10) ∷ [])

-- a number of at most 64 bits: 20 digits are enough
abbrev pub shown : ℕ → List ℕ
shown v = decimal 20 v

abbrev pub shown_z : ℤ → List ℕ
shown_z (pos v) = shown v
shown_z (negsuc v) = 45 ∷ shown (suc v)

-- "In filled lists each number follows one space."
unfoldable pub listed : List ℕ → List ℕ
listed [] = []
listed (x ∷ xs) = 32 ∷ shown x ++ listed xs

unfoldable pub listed_z : List ℤ → List ℕ
listed_z [] = []
listed_z (x ∷ xs) = 32 ∷ shown_z x ++ listed_z xs

-- "as `edge i j w`"
abbrev pub edge_if : Bool → ℕ → ℕ → ℤ → List ℕ
edge_if true i j w = bytes "edge " ++ shown i ++ 32 ∷ shown j ++ 32 ∷ shown_z w ++ 10 ∷ []
edge_if false i j w = []

-- the line of the cell k of the edge output, which holds the weight w of (i, j) at k = 64 i + j: there is one where i is below j and w is not 0
abbrev pub edge_line : ℕ → ℤ → List ℕ
edge_line k w = edge_if (ltb (k / 64) (k % 64) && not (is_zero_z w)) (k / 64) (k % 64) w

-- "ascending by i then j": those of the cells from k on
unfoldable pub edge_lines : ℕ → List ℤ → List ℕ
edge_lines k [] = []
edge_lines k (w ∷ ws) = edge_line k w ++ edge_lines (suc k) ws

-- the choices for the c lowest masks, bit 0 first
unfoldable pub choices_of : ℕ → ℕ → List ℕ
choices_of zero m = []
choices_of (suc c) m = m % 2 ∷ choices_of c (m / 2)

unfoldable pub step_line : Step → List ℕ
step_line s = bytes "step " ++ shown s.decision ++ bytes " :" ++ listed s.near ++ bytes " :" ++ listed (choices_of (2 ^ length s.near) s.choices) ++ 10 ∷ []

unfoldable pub step_lines : List Step → List ℕ
step_lines [] = []
step_lines (s ∷ ss) = step_line s ++ step_lines ss

abbrev pub yes_no : Bool → List ℕ
yes_no true = bytes "yes\n"
yes_no false = bytes "no\n"

-- the edges follow `linear`, the steps the edges; "A run cut short ends in `complete no`."
unfoldable pub written : Outcome → List ℕ
written o =
    bytes "constant " ++ shown_z o.constant ++ bytes "\nremaining" ++ listed o.remaining ++ bytes "\nlinear"
    ++ listed_z (take (length o.remaining) o.linear) ++ 10
    ∷ edge_lines 0 o.edges ++ step_lines o.steps
    ++ bytes "units " ++ shown o.units ++ bytes " complete " ++ yes_no o.complete

-- "A refusal writes `refused N`."
unfoldable pub written_refusal : ℕ → List ℕ
written_refusal k = bytes "refused " ++ shown k ++ 10 ∷ []
