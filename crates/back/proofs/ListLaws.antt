-- Laws of plain lists: what is left, and the front of zeros.
-- Assumes nothing.
use mathlib.Core.Path.{◌≡◌, refl, ap, ◌∙◌}
use Rattle.std.proofs.lemmas.List.Sums.{sum_by-cons}
use mathlib.Core.List.{List, [], ◌∷◌, tail}
use Prim.Native.Nat.{ℕ, zero, suc, ◌+◌, ◌≤◌}
use native.Mathlib.Omega.{arith}
use native.Mathlib.Numerals.{add-one}
use mathlib.Core.Bool.{Bool, true, false, cond}
use lib.ListN.{length, get_or, take, drop, replicate}
use lib.Seq.{drop-cons}
use Rattle.std.specs.List.{count_by}
use Rattle.whole.specs.Words.{from, those}

pub tail_drop : (k : ℕ) (l : List ℕ) → tail (drop k l) ≡ drop (k + 1) l
tail_drop k l = rw add-one (by k l)
  where
    by : (k : ℕ) (l : List ℕ) → tail (drop k l) ≡ drop (suc k) l
    by zero [] = refl
    by zero (x ∷ l) = refl
    by (suc k) [] = refl
    by (suc k) (x ∷ l) = by k l

pub take_replicate : (a b v : ℕ) → a ≤ b → take a (replicate b v) ≡ replicate a v
take_replicate zero b v h = refl
take_replicate (suc a) zero v h = absurd (omega arith)
take_replicate (suc a) (suc b) v h = ap (λ (t : List ℕ). v ∷ t) (take_replicate a b v (omega arith))

-- those of a part of a list that pass, counted
pub count_places : (p : ℕ → Bool) (l : List ℕ) (c a : ℕ) → a + c ≤ length l → count_by p (take c (drop a l)) ≡ length (those (λ i. p (get_or l i 0)) (from a c))
unfolding those from
count_places p l zero a h = refl
count_places p l (suc c) a h = rw (drop-cons l a 0 (omega arith)) (sum_by-cons (λ x. cond (p x) 1 0) (get_or l a 0) (take c (drop (suc a) l)) ∙ by (p (get_or l a 0)) _ (count_places p l c (suc a) (omega arith)))
  where
    by : (t : Bool) {n : ℕ} (r : List ℕ) → n ≡ length r → cond t 1 0 + n ≡ length (cond t (a ∷ r) r)
    by true r e = omega arith
    by false r e = omega arith
