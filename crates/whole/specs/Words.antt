-- The words that the rules are written with: signed numbers, lists of decisions, bits of a mask. Nothing of the rules themselves.
-- Assumes nothing.
use Rattle.std.specs.Prelude.{Bool, true, false, cond, ◌&&◌, ◌||◌, List, [], ◌∷◌, ◌++◌, ℕ, zero, suc, ◌+◌, ◌*◌, ◌/◌, ◌%◌, ◌^◌, eqb, ℤ, pos, negsuc, neg_ℤ, ◌+ℤ◌}
use Rattle.std.specs.Int.Signed.{lt_z}

-- ---- signed numbers
-- −n
abbrev pub neg : ℕ → ℤ
neg n = neg_ℤ (pos n)

abbrev pub is_zero_z : ℤ → Bool
is_zero_z (pos n) = eqb n 0
is_zero_z (negsuc n) = false

-- the smaller, and the larger, of a number and 0
abbrev pub below0 : ℤ → ℤ
below0 z = cond (lt_z z (pos 0)) z (pos 0)

abbrev pub above0 : ℤ → ℤ
above0 z = cond (lt_z z (pos 0)) (pos 0) z

-- ---- lists
-- k, k + 1, .., c of them
unfoldable pub from : ℕ → ℕ → List ℕ
from k zero = []
from k (suc c) = k ∷ from (suc k) c

-- 0, 1, .., n − 1
abbrev pub upto : ℕ → List ℕ
upto n = from 0 n

-- f 0, f 1, and so on, n of them
unfoldable pub tab : {A : Type 0} → (ℕ → A) → ℕ → List A
tab f zero = []
tab f (suc k) = tab f k ++ (f k ∷ [])

unfoldable pub mem : ℕ → List ℕ → Bool
mem k [] = false
mem k (x ∷ xs) = eqb k x || mem k xs

-- those that pass, in order
unfoldable pub those : (ℕ → Bool) → List ℕ → List ℕ
those p [] = []
those p (x ∷ xs) = cond (p x) (x ∷ those p xs) (those p xs)

unfoldable pub some : (ℕ → Bool) → List ℕ → Bool
some p [] = false
some p (x ∷ xs) = p x || some p xs

unfoldable pub all : (ℕ → Bool) → List ℕ → Bool
all p [] = true
all p (x ∷ xs) = p x && all p xs

-- one of some tests holds; each of them does
unfoldable pub one_of : List Bool → Bool
one_of [] = false
one_of (t ∷ ts) = t || one_of ts

unfoldable pub all_of : List Bool → Bool
all_of [] = true
all_of (t ∷ ts) = t && all_of ts

-- ---- masks
-- the lowest bit of a mask
abbrev pub odd : ℕ → Bool
odd m = eqb (m % 2) 1

-- bit k of a mask
abbrev pub bit : ℕ → ℕ → Bool
bit m k = eqb (m / 2 ^ k % 2) 1

abbrev pub one_if : Bool → ℕ
one_if true = 1
one_if false = 0

-- the sum of the weights that a mask chooses: bit k is weight k
unfoldable pub chosen : List ℤ → ℕ → ℤ
chosen [] m = pos 0
chosen (w ∷ ws) m = cond (odd m) w (pos 0) +ℤ chosen ws (m / 2)

-- the mask whose bit m is (f m), for c bits from bit b on
unfoldable pub bits_from : (ℕ → Bool) → ℕ → ℕ → ℕ
bits_from f b zero = 0
bits_from f b (suc c) = one_if (f b) * 2 ^ b + bits_from f (suc b) c
