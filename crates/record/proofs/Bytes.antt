-- Numbers as bytes, as the code reads and writes them; and the check, one byte on.
-- Assumes nothing.
use Rattle.std.proofs.Common.{◌≡◌, refl, sym, ap, ap₂, ◌∙◌, ℕ, zero, suc, ◌+◌, ◌-◌, ◌/◌, ◌%◌, ◌^◌, ◌<◌, ◌≤◌, List, [], ◌∷◌, length, get_or, drop, add-one, div-one, arith, drop-cons, drop_of_length-le, w16, w64, pow-suc, to_z, of_z, ℤ, pos, negsuc, Bool, true, false, cond, ltb}
use mir.Val.{sel}
use Rattle.std.proofs.Math.Nat.{div-div-eq-div-mul}
use Rattle.std.specs.Int.{bytes_low_first, byte_at, to_le_bytes, from_le_bytes}
use Rattle.rules.specs.Record.{little, from_little, twos, from_twos, sums}

-- byte by byte, the lowest first
low_first : (i k n : ℕ) → bytes_low_first i k n ≡ little k (n / 256 ^ i)
unfolding little
low_first i zero n = refl
low_first i (suc k) n = ap₂ (λ (b : ℕ) (bs : List ℕ). b ∷ bs) (here i) (low_first (suc i) k n ∙ ap (little k) (next i))
  where
    here : (i : ℕ) → byte_at i n ≡ n / 256 ^ i % 256
    here zero = rw (div-one n)
    here (suc i) = refl

    next : (i : ℕ) → n / 256 ^ suc i ≡ n / 256 ^ i / 256
    next i = ap (λ (m : ℕ). n / m) (pow-suc 256 i) ∙ sym (div-div-eq-div-mul n (256 ^ i) 256)

pub two_bytes : (n : ℕ) → to_le_bytes w16 n ≡ little 2 n
two_bytes n = low_first 0 2 n ∙ ap (little 2) (div-one n)

pub eight_bytes : (n : ℕ) → to_le_bytes w64 n ≡ little 8 n
eight_bytes n = low_first 0 8 n ∙ ap (little 8) (div-one n)

pub from_two : (a b : ℕ) → from_le_bytes w16 (a ∷ b ∷ []) ≡ from_little (a ∷ b ∷ [])
unfolding from_little
from_two a b = omega arith

pub from_eight : (bs : List ℕ) → length bs ≡ 8 → from_le_bytes w64 bs ≡ from_little bs
unfolding from_little
from_eight (a ∷ b ∷ c ∷ d ∷ e ∷ f ∷ g ∷ h ∷ []) l = omega arith
from_eight _ l = absurd (omega arith)

-- ---- two's complement
pub unsigned : (z : ℤ) → of_z w64 z ≡ twos z
unfolding twos
unsigned (pos a) = refl
unsigned (negsuc a) = omega arith

pub signed : (v : ℕ) → to_z w64 v ≡ from_twos v
unfolding from_twos
signed v = by (ltb v (2 ^ 63))
  where
    by : (b : Bool) → sel b (pos v) (negsuc (2 ^ 64 - suc v)) ≡ cond b (pos v) (negsuc (2 ^ 64 - 1 - v))
    by true = refl
    by false = let e : 2 ^ 64 - suc v ≡ 2 ^ 64 - 1 - v = omega arith in ap negsuc e

-- ---- the check, one byte on
pub sums_turn : (l : List ℕ) (k s t s' t' : ℕ) → k < length l → s' ≡ (s + get_or l k 0) % 2 ^ 16 → t' ≡ (t + s') % 2 ^ 16
    → sums (record { s1 = s; s2 = t }) (drop k l) ≡ sums (record { s1 = s'; s2 = t' }) (drop (k + 1) l)
unfolding sums
sums_turn l k s t s' t' h e f = rw (add-one, drop-cons l k 0 h, f, e)

pub sums_over : (l : List ℕ) (k s t : ℕ) → length l ≤ k → sums (record { s1 = s; s2 = t }) (drop k l) ≡ record { s1 = s; s2 = t }
unfolding sums
sums_over l k s t h = rw (drop_of_length-le l h)
