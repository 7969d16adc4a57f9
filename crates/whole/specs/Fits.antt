-- Numbers well inside 64 bits: they fit, and are read back as they are.
-- Assumes nothing.
use Rattle.std.specs.Prelude.{◌≡◌, ◌^◌, ◌≤◌, ℤ, ◌+ℤ◌}
use Rattle.std.proofs.Common.{arith, SFits, to_z, of_z}
use Rattle.std.specs.Int.{w64}
use Rattle.whole.specs.Parts.{∣◌∣}
use Rattle.whole.specs.Ints.{ints, rd}

pub fit : (z : ℤ) → ∣ z ∣ ≤ 2 ^ 60 → SFits w64 z
fit z h = simp ints (omega arith)

pub read : (z : ℤ) → ∣ z ∣ ≤ 2 ^ 60 → to_z w64 (of_z w64 z) ≡ z
read z h = rd (fit z h)

pub sum_fits : (a b : ℤ) → ∣ a ∣ ≤ 2 ^ 60 → ∣ b ∣ ≤ 2 ^ 60 → SFits w64 (a +ℤ b)
sum_fits a b h k = simp ints (omega arith)
