-- Loops over a range of numbers, and those of it that pass a test: one turn more, of what is left and of what has been gone through.
-- Assumes nothing.
use Rattle.std.specs.Prelude.{◌≡◌, Bool, true, false, cond, ℕ, zero, suc, ◌+◌, ◌-◌, ◌<◌, ◌≤◌, length}
use Rattle.std.proofs.Math.Path.{refl, ap}
use Rattle.std.proofs.Common.{◌∙◌, sym, ap₂, add-one, arith, add-zero, zero-add, sub-eq-zero_of_le, suc-add}
use mathlib.Core.List.{List, [], ◌∷◌, ◌++◌, append-nil}
use Rattle.std.proofs.Math.Numerals.{suc-eq-add-one}
use Rattle.whole.specs.Words.{from, upto, those}
use Rattle.whole.specs.Pigeon.{pigeon}
use Rattle.whole.specs.Members.{apart_those, apart_upto}
use Rattle.whole.specs.Counts.{shift, one_left}

-- ---- what is left
pub from_more : (i n : ℕ) → i < n → from i (n - i) ≡ i ∷ from (i + 1) (n - (i + 1))
unfolding from
from_more i n h = rw (one_left n i h, add-one)

pub from_end : (i n : ℕ) → n ≤ i → from i (n - i) ≡ []
unfolding from
from_end i n h = rw (sub-eq-zero_of_le h)

module _ (p : ℕ → Bool) (n i : ℕ) where
  pub rest_more : i < n → p i ≡ true → those p (from i (n - i)) ≡ i ∷ those p (from (i + 1) (n - (i + 1)))
  unfolding those
  rest_more h e = rw (from_more i n h, e)

  pub rest_same : i < n → p i ≡ false → those p (from i (n - i)) ≡ those p (from (i + 1) (n - (i + 1)))
  unfolding those
  rest_same h e = rw (from_more i n h, e)

  pub rest_end : n ≤ i → those p (from i (n - i)) ≡ []
  unfolding those
  rest_end h = rw (from_end i n h)

-- ---- what has been gone through
pub from_append : (k a b : ℕ) → from k (a + b) ≡ from k a ++ from (k + a) b
unfolding from
from_append k zero b = ap₂ from (sym (add-zero k)) (zero-add b)
from_append k (suc a) b =
    ap (from k) (suc-add a b) ∙ ap (λ (l : List ℕ). k ∷ l) (from_append (suc k) a b ∙ ap (λ (m : ℕ). from (suc k) a ++ from m b) (shift k a))

pub from_last : (k c : ℕ) → from k (suc c) ≡ from k c ++ ((k + c) ∷ [])
unfolding from
from_last k c = ap (from k) (suc-eq-add-one c) ∙ from_append k c 1

module _ (p : ℕ → Bool) where
  kept : (t : Bool) (x : ℕ) (xs ys : List ℕ) → cond t (x ∷ (xs ++ ys)) (xs ++ ys) ≡ cond t (x ∷ xs) xs ++ ys
  kept true x xs ys = refl
  kept false x xs ys = refl

  pub those_append : (xs ys : List ℕ) → those p (xs ++ ys) ≡ those p xs ++ those p ys
  unfolding those
  those_append [] ys = refl
  those_append (x ∷ xs) ys = rw (those_append xs ys) (kept (p x) x (those p xs) (those p ys))

  pub those_last : (k : ℕ) → those p (upto (k + 1)) ≡ those p (upto k) ++ those p (k ∷ [])
  those_last k = rw (add-one, from_last 0 k, those_append (from 0 k)) (rw (zero-add k))

  pub those_more : (k : ℕ) → p k ≡ true → those p (upto (k + 1)) ≡ those p (upto k) ++ (k ∷ [])
  unfolding those
  those_more k h = those_last k ∙ rw h

  pub those_same : (k : ℕ) → p k ≡ false → those p (upto (k + 1)) ≡ those p (upto k)
  unfolding those
  those_same k h = those_last k ∙ rw (h, append-nil)

  -- none passes from n on
  pub those_upto : (n c : ℕ) → ((k : ℕ) → n ≤ k → k < n + c → p k ≡ false) → those p (upto (n + c)) ≡ those p (upto n)
  those_upto n zero h = ap (λ (k : ℕ). those p (upto k)) (add-zero n)
  those_upto n (suc c) h =
      let e : n + suc c ≡ n + c + 1 = omega arith in
      ap (λ (k : ℕ). those p (upto k)) e ∙ those_same (n + c) (h (n + c) (omega arith) (omega arith)) ∙ those_upto n c (λ k l m. h k l (omega arith))

  pub those_none : (n : ℕ) → ((k : ℕ) → k < n → p k ≡ false) → those p (upto n) ≡ []
  unfolding those from
  those_none n h = ap (λ (k : ℕ). those p (upto k)) (sym (zero-add n)) ∙ those_upto 0 n (λ k l m. h k (omega arith))

  pub those_most : (n : ℕ) → length (those p (upto n)) ≤ n
  those_most n = pigeon n (apart_those p (apart_upto n))
