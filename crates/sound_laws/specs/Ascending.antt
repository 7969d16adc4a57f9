-- Lists that ascend strictly, and how large a byte of choices can be: plain laws of lists and masks.
-- Assumes nothing.
use Rattle.std.specs.Prelude.{◌≡◌, refl, Bool, true, false, cond, List, [], ◌∷◌, ℕ, zero, suc, ◌+◌, ◌*◌, ◌<◌, ◌≤◌, ◌^◌, ltb}
use Rattle.std.proofs.Common.{arith, pow-suc, add-zero, zero-add, lt-ltb}
use Rattle.whole.specs.Words.{from, upto, those, all, one_if, bits_from}
use Rattle.whole.specs.Tests.{and-true, and_both}
use Rattle.whole.specs.Members.{all_of_lem, all_in, in_those, from_in}
use Rattle.whole.specs.Counts.{shift}
use Rattle.rules.specs.Record.{ascending}

-- ---- every one passes
all_those : (p q : ℕ → Bool) (xs : List ℕ) → all q xs ≡ true → all q (those p xs) ≡ true
all_those p q xs h = all_of_lem q (those p xs) (λ k m. all_in q xs h k (in_those p k xs m).0)

-- ---- ascending
pub ascending_those : (p : ℕ → Bool) (xs : List ℕ) → ascending xs ≡ true → ascending (those p xs) ≡ true
unfolding ascending those
ascending_those p [] h = refl
ascending_those p (x ∷ xs) h = let r = and-true (all (ltb x) xs) (ascending xs) h in go (p x) (all_those p (ltb x) xs r.0) (ascending_those p xs r.1)
  where
    go : (b : Bool) → all (ltb x) (those p xs) ≡ true → ascending (those p xs) ≡ true → ascending (cond b (x ∷ those p xs) (those p xs)) ≡ true
    go true h r = and_both h r
    go false h r = r

above : (x k c : ℕ) → x < k → all (ltb x) (from k c) ≡ true
above x k c h = all_of_lem (ltb x) (from k c) (λ i m. lt-ltb x i (omega (arith, (from_in i k c m).0)))

ascending_from : (k c : ℕ) → ascending (from k c) ≡ true
unfolding ascending from
ascending_from k zero = refl
ascending_from k (suc c) = and_both (above k (suc k) c (omega arith)) (ascending_from (suc k) c)

-- those of 0, 1, .. that pass
pub ascending_upto : (p : ℕ → Bool) (n : ℕ) → ascending (those p (upto n)) ≡ true
ascending_upto p n = ascending_those p (upto n) (ascending_from 0 n)

-- ---- c bits from bit b on are below the bit after them
bits_room : (f : ℕ → Bool) (b c : ℕ) → bits_from f b c + 2 ^ b ≤ 2 ^ (b + c)
unfolding bits_from
bits_room f b zero = rw (add-zero b) (omega arith)
bits_room f b (suc c) =
    rw (← shift b c) (go (f b) (bits_room f (suc b) c))
  where
    go : (t : Bool) → bits_from f (suc b) c + 2 ^ suc b ≤ 2 ^ (suc b + c) → one_if t * 2 ^ b + bits_from f (suc b) c + 2 ^ b ≤ 2 ^ (suc b + c)
    go true h = omega (arith, rw pow-suc at h)
    go false h = omega (arith, rw pow-suc at h)

pub bits_below : (f : ℕ → Bool) (c : ℕ) → bits_from f 0 c < 2 ^ c
bits_below f c = let h : bits_from f 0 c + 2 ^ 0 ≤ 2 ^ c = rw (zero-add c) at (bits_room f 0 c) in omega arith
