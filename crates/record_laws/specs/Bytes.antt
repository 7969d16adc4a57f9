-- Numbers as bytes, and back: little-endian and two's complement lose nothing.
-- Assumes nothing.
use Rattle.std.specs.Prelude.{◌≡◌, refl, Bool, true, false, cond, List, [], ◌∷◌, ℕ, zero, suc, ◌+◌, ◌*◌, ◌-◌, ◌/◌, ◌%◌, ◌^◌, ◌<◌, ◌≤◌, ltb, length, get_or, set, take, ℤ, pos, negsuc, nat_abs}
use Rattle.std.proofs.Common.{ap, arith, pow-suc, lt-ltb, le-ltb, ltb-false}
use Rattle.rules.specs.Record.{little, from_little, twos, from_twos}

-- each is a byte
abbrev pub Bytes : List ℕ → Type 0
Bytes l = (i : ℕ) → get_or l i 0 < 256

-- a stretch of bytes is bytes
pub bytes_front : (n : ℕ) (l : List ℕ) → Bytes l → Bytes (take n l)
bytes_front zero l h i = omega arith
bytes_front (suc n) [] h i = omega arith
bytes_front (suc n) (x ∷ l) h zero = h 0
bytes_front (suc n) (x ∷ l) h (suc i) = bytes_front n l (λ j. h (suc j)) i

pub bytes_set : (l : List ℕ) (i x : ℕ) → Bytes l → x < 256 → Bytes (set l i x)
bytes_set [] i x h k j = h j
bytes_set (y ∷ l) zero x h k zero = k
bytes_set (y ∷ l) zero x h k (suc j) = h (suc j)
bytes_set (y ∷ l) (suc i) x h k zero = h 0
bytes_set (y ∷ l) (suc i) x h k (suc j) = bytes_set l i x (λ n. h (suc n)) k j

pub little_length : (n v : ℕ) → length (little n v) ≡ n
unfolding little
little_length zero v = refl
little_length (suc n) v = ap suc (little_length n (v / 256))

pub power_positive : (n : ℕ) → 0 < 256 ^ n
power_positive zero = omega arith
power_positive (suc n) = rw (pow-suc 256 n) (omega (arith, power_positive n))

pub from_little_lem : (n v : ℕ) → v < 256 ^ n → from_little (little n v) ≡ v
unfolding little from_little
from_little_lem zero v h = omega arith
from_little_lem (suc n) v h =
    let e : v < 256 ^ n * 256 = rw (pow-suc 256 n) at h in
    rw (from_little_lem n (v / 256) (omega arith)) (omega arith)

pub little_from : (l : List ℕ) → Bytes l → little (length l) (from_little l) ≡ l
unfolding little from_little
little_from [] h = refl
little_from (x ∷ l) h =
    let a : (x + 256 * from_little l) % 256 ≡ x = omega (arith, h 0) in
    let b : (x + 256 * from_little l) / 256 ≡ from_little l = omega (arith, h 0) in
    rw (a, b, little_from l (λ i. h (suc i)))

-- a number of n bytes
pub from_below : (l : List ℕ) → Bytes l → from_little l < 256 ^ length l
unfolding from_little
from_below [] h = omega arith
from_below (x ∷ l) h = rw (pow-suc 256 (length l)) (omega (arith, h 0, from_below l (λ i. h (suc i))))

-- ---- two's complement
pub twos_below : (z : ℤ) → nat_abs z ≤ 1099511627776 → twos z < 2 ^ 64
unfolding twos
twos_below (pos a) h = omega arith
twos_below (negsuc a) h = omega arith

pub from_twos_lem : (z : ℤ) → nat_abs z ≤ 1099511627776 → from_twos (twos z) ≡ z
unfolding twos from_twos
from_twos_lem (pos a) h = rw (lt-ltb a (2 ^ 63) (omega arith))
from_twos_lem (negsuc a) h =
    let e : 2 ^ 64 - 1 - (2 ^ 64 - 1 - a) ≡ a = omega arith in
    rw (le-ltb (2 ^ 64 - 1 - a) (2 ^ 63) (omega arith), e)

pub twos_from : (v : ℕ) → v < 2 ^ 64 → twos (from_twos v) ≡ v
unfolding twos from_twos
twos_from v h = by (ltb v (2 ^ 63)) refl
  where
    by : (t : Bool) → ltb v (2 ^ 63) ≡ t → twos (cond t (pos v) (negsuc (2 ^ 64 - 1 - v))) ≡ v
    by true e = refl
    by false e = omega (arith, ltb-false v (2 ^ 63) e)
