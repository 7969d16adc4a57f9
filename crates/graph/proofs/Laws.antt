-- Numbers of the mass fit, and the turns of the loop over the fixings.
use mathlib.Core.Path.{◌≡◌, ap}
use mathlib.Core.Bool.{Bool, true, false, cond}
use mathlib.Core.List.{List}
use Prim.Native.Nat.{ℕ, suc, ◌+◌, ◌<◌, ◌≤◌}
use native.Mathlib.Omega.{arith}
use native.Mathlib.Numerals.{add-one}
use lib.ListN.{length, get_or, drop, drop_of_length-le}
use lib.Seq.{drop-cons}
use lib.Dec.{ltb}
use lib.IntN.{ℤ, nat_abs, ◌+ℤ◌}
use mir.Syntax.{w64}
use mir.Val.{SFits, to_z, of_z}
use Rattle.whole.specs.Parts.{nat_abs_parts}
use Rattle.whole.specs.Fits.{sum_fits, read}
use Rattle.rules.specs.Graph.{Graph}
use Rattle.rules.specs.Fixing.{fix, fix_all}

-- two numbers of the mass
pub mass_fits : (a b : ℤ) → nat_abs a + nat_abs b ≤ 4398046511104 → SFits w64 (a +ℤ b)
mass_fits a b h = sum_fits a b (omega (arith, nat_abs_parts a)) (omega (arith, nat_abs_parts b))

-- and one of them
pub mass_read : (z : ℤ) → nat_abs z ≤ 4398046511104 → to_z w64 (of_z w64 z) ≡ z
mass_read z h = read z (omega (arith, nat_abs_parts z))

module _ (vs : List ℕ) (i : ℕ) (g : Graph) where
  pub fix_more : i < length vs → ltb (get_or vs i 0) 2 ≡ true → fix_all i (drop i vs) g ≡ fix_all (i + 1) (drop (i + 1) vs) (fix i (get_or vs i 0) g)
  unfolding fix_all
  fix_more h e = rw (add-one, drop-cons vs i 0 h) (ap (λ (t : Bool). fix_all (suc i) (drop (suc i) vs) (cond t (fix i (get_or vs i 0) g) g)) e)

  pub fix_same : i < length vs → ltb (get_or vs i 0) 2 ≡ false → fix_all i (drop i vs) g ≡ fix_all (i + 1) (drop (i + 1) vs) g
  unfolding fix_all
  fix_same h e = rw (add-one, drop-cons vs i 0 h) (ap (λ (t : Bool). fix_all (suc i) (drop (suc i) vs) (cond t (fix i (get_or vs i 0) g) g)) e)

  pub fix_end : length vs ≤ i → fix_all i (drop i vs) g ≡ g
  unfolding fix_all
  fix_end h = rw (drop_of_length-le vs h)
