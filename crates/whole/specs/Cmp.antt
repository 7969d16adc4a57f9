-- Comparisons: a test's two outcomes, the lesser of a number and 0, the test for 0.
-- Assumes nothing.
use Rattle.std.specs.Prelude.{◌≡◌, refl, Bool, true, false, cond, not, zero, suc, ◌≤◌, ◌^◌, ◌<◌, ℤ, pos, negsuc, ◌≤ℤ◌, eqb}
use Rattle.std.proofs.Common.{ap, sym, ◌∙◌, arith, SFits, of_z, eqb-true, eq-eqb, ne_eqb}
use Rattle.std.specs.Int.Signed.{lt_z, mag}
use Rattle.std.specs.Int.{w64}
use Rattle.whole.specs.Words.{is_zero_z, below0, above0}
use Rattle.whole.specs.Tests.{clash, not_on}
use Rattle.whole.specs.Parts.{∣◌∣}
use Rattle.whole.specs.Ints.{ints, zarith, fit_lo}

-- a statement of a test's value, from the two outcomes: the fact of each is handed over
pub lt_ind {ℓ} : (a b : ℤ) (S : Bool → Type ℓ) → (lt_z a b ≡ true → S true) → (lt_z a b ≡ false → S false) → S (lt_z a b)
lt_ind a b S f g = go (lt_z a b) refl
  where
    go : (t : Bool) → lt_z a b ≡ t → S t
    go true e = f e
    go false e = g e

pub below0_abs : (z : ℤ) → ∣ below0 z ∣ ≤ ∣ z ∣
below0_abs z = lt_ind z (pos 0) (λ t. ∣ cond t z (pos 0) ∣ ≤ ∣ z ∣) (λ e. omega arith) (λ e. omega arith)

pub above0_abs : (z : ℤ) → ∣ above0 z ∣ ≤ ∣ z ∣
above0_abs z = lt_ind z (pos 0) (λ t. ∣ cond t (pos 0) z ∣ ≤ ∣ z ∣) (λ e. omega arith) (λ e. omega arith)

-- what the code's test of a weight for 0 says: a signed local is its bits
pub zero_not : (z : ℤ) → (of_z w64 z ≡ 0 → ⊥) → not (is_zero_z z) ≡ true
zero_not (pos zero) h = absurd (h refl)
zero_not (pos (suc n)) h = rw (ne_eqb (suc n) 0 (λ q. omega arith))
zero_not (negsuc n) h = refl

pub zero_test : (z : ℤ) → SFits w64 z → eqb (of_z w64 z) 0 ≡ is_zero_z z
zero_test (pos n) f = refl
zero_test (negsuc n) f = ne_eqb (of_z w64 (negsuc n)) 0 (λ e. omega (arith, fit_lo f))

pub zero_is : (z : ℤ) → mag z < 2 ^ 63 → of_z w64 z ≡ 0 → not (is_zero_z z) ≡ false
zero_is z f h = not_on (sym (zero_test z (record { sfits = f })) ∙ eq-eqb (of_z w64 z) 0 h)

pub ≤ℤ_trans : {a b c : ℤ} → a ≤ℤ b → b ≤ℤ c → a ≤ℤ c
≤ℤ_trans {a} {b} {c} h k = simp ints (omega zarith)

pub zero_of : (z : ℤ) → is_zero_z z ≡ true → z ≡ pos 0
zero_of (pos n) h = ap pos (eqb-true n 0 h)
zero_of (negsuc n) h = clash h refl
