-- The digits that are written are read back as the number.
-- Assumes nothing.
use Rattle.std.specs.Prelude.{◌≡◌, refl, Bool, true, false, cond, List, [], ◌∷◌, ◌++◌, ℕ, zero, suc, ◌+◌, ◌*◌, ◌-◌, ◌/◌, ◌%◌, ◌^◌, ◌<◌, ltb}
use Rattle.std.proofs.Common.{append_assoc, pow-suc, arith, le-leb, ltb-true}
use Rattle.rules.specs.ReadText.{digit, digits}
use Rattle.rules.specs.WriteText.{decimal}

digit_last : (v : ℕ) → digit (48 + v % 10) ≡ true
digit_last v = rw (le-leb 48 (48 + v % 10) (omega arith), le-leb (48 + v % 10) 57 (omega arith))

last_digit : (a v : ℕ) (s : List ℕ) → 10 * a + v % 10 ≡ v → digits a ((48 + v % 10) ∷ s) ≡ digits v s
unfolding digits
last_digit a v s e = let d : 10 * a + (48 + v % 10 - 48) ≡ v = omega arith in rw (digit_last v, d)

back_by : (k v : ℕ) (s : List ℕ) (t : Bool) → ltb v 10 ≡ t → ((r : List ℕ) → digits 0 (decimal k (v / 10) ++ r) ≡ digits (v / 10) r) → digits 0 (cond t [] (decimal k (v / 10)) ++ ((48 + v % 10) ∷ []) ++ s) ≡ digits v s
back_by k v s true e h = last_digit 0 v s (omega (arith, ltb-true v 10 e))
back_by k v s false e h = rw (append_assoc, h) (last_digit (v / 10) v s (omega arith))

pub read_back : (k v : ℕ) (s : List ℕ) → v < 10 ^ k → digits 0 (decimal k v ++ s) ≡ digits v s
unfolding decimal
read_back zero v s h = let e : v ≡ 0 = omega arith in rw e
read_back (suc k) v s h = back_by k v s (ltb v 10) refl (λ r. read_back k (v / 10) r (omega (arith, rw (pow-suc 10 k) at h)))
