-- A step's mask and choice as its bytes give them.
-- Assumes nothing.
use Rattle.std.specs.Prelude.{◌≡◌, refl, cond, List, [], ◌∷◌, ℕ, zero, suc, ◌+◌, ◌*◌, ◌/◌, ◌%◌, ◌^◌, ◌<◌, ◌≤◌, leb, get_or, take}
use Rattle.std.proofs.Common.{arith, eq-eqb, ne_eqb, le-leb}
use Rattle.std.proofs.Math.Nat.{pow-le-pow_right, div-eq_of_lt}
use Rattle.std.proofs.Math.Decide.{ℕ_discrete}
use Rattle.std.proofs.Math.Seq.{take-nil}
use Rattle.whole.specs.Words.{bit, one_if}
use Rattle.rules.specs.Back.{mask_of}

-- the mask of the first d of three neighbours
pub mask_of_three : (x : List ℕ) (d a b c : ℕ) → mask_of x (take d (a ∷ b ∷ c ∷ [])) ≡ cond (leb 1 d) (get_or x a 0) 0 + 2 * (cond (leb 2 d) (get_or x b 0) 0 + 2 * cond (leb 3 d) (get_or x c 0) 0)
unfolding mask_of
mask_of_three x zero a b c = refl
mask_of_three x (suc zero) a b c = refl
mask_of_three x (suc (suc zero)) a b c = refl
mask_of_three x (suc (suc (suc d))) a b c =
    let n = suc (suc (suc d)) in
    rw (le-leb 1 n (omega arith), le-leb 2 n (omega arith), le-leb 3 n (omega arith), take-nil d) (omega arith)

-- a bit as a number
pub bit_number : (m k : ℕ) → m / 2 ^ k % 2 ≡ one_if (bit m k)
bit_number m k = by (ℕ_discrete (m / 2 ^ k % 2) 1)
  where
    by : Dec (m / 2 ^ k % 2 ≡ 1) → m / 2 ^ k % 2 ≡ one_if (bit m k)
    by (yes e) = rw (eq-eqb _ 1 e) e
    by (no e) = rw (ne_eqb _ 1 e) (omega arith)

-- a byte has eight bits
pub byte_bits : (m k : ℕ) → m < 256 → 8 ≤ k → 0 ≡ one_if (bit m k)
byte_bits m k h l =
    let p : 2 ^ 8 ≤ 2 ^ k = pow-le-pow_right (omega arith) l in
    let z : m / 2 ^ k ≡ 0 = div-eq_of_lt (omega arith) in
    rw z
