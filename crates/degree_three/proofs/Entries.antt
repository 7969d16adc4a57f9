-- The entries that the code makes, pass by pass: each difference fits.
use mathlib.Core.Path.{◌≡◌}
use mathlib.Core.List.{List}
use Prim.Native.Nat.{ℕ, ◌^◌, ◌≤◌}
use native.Mathlib.Omega.{arith}
use lib.ListN.{get_or}
use lib.IntN.{ℤ, pos, ◌-ℤ◌}
use mir.Syntax.{w64}
use mir.Val.{SFits, to_z, of_z}
use Rattle.whole.specs.Parts.{∣◌∣}
use Rattle.whole.specs.Ints.{rd}
use Rattle.whole.specs.Fits.{fit, read}
use Rattle.rules.specs.DegreeThree.{pass}
use Rattle.accepted_laws.specs.Small.{Small}
use Rattle.size_laws.specs.Sizes.{pass_size}

abbrev kept : ℤ → ℤ
kept z = to_z w64 (of_z w64 z)

-- a difference of two that are kept: it fits, and is read back as d
pub record Difference (x y d : ℤ) : Type 0 where
  pub fits : SFits w64 (x -ℤ y)
  pub back : kept (x -ℤ y) ≡ d

difference : {x y a b : ℤ} → x ≡ a → y ≡ b → ∣ a -ℤ b ∣ ≤ 2 ^ 53 → Difference x y (a -ℤ b)
difference {x} {y} {a} {b} p q h = let f : SFits w64 (a -ℤ b) = fit (a -ℤ b) (omega arith) in record { fits = rw (p, q) f; back = rw (p, q) (rd f) }

-- an entry is read as it is
pub entry_back : (e : List ℤ) → Small (2 ^ 54) e → (m : ℕ) → kept (get_or e m (pos 0)) ≡ get_or e m (pos 0)
entry_back e s m = read (get_or e m (pos 0)) (omega (arith, s.each m))

module _ (t : List ℤ) (s : Small (2 ^ 50) t) where
  abbrev given : ℕ → ℤ
  given m = get_or t m (pos 0)

  one : (m : ℕ) → ∣ pass 0 given m ∣ ≤ 2 ^ 51
  one = pass_size {b = 2 ^ 50} 0 given s.each

  two : (m : ℕ) → ∣ pass 1 (pass 0 given) m ∣ ≤ 2 ^ 52
  two = pass_size {b = 2 ^ 51} 1 (pass 0 given) one

  three : (m : ℕ) → ∣ pass 2 (pass 1 (pass 0 given)) m ∣ ≤ 2 ^ 53
  three = pass_size {b = 2 ^ 52} 2 (pass 1 (pass 0 given)) two

  abbrev t' : ℕ → ℤ
  t' m = kept (given m)

  pub given_back : (m : ℕ) → t' m ≡ given m
  given_back m = read (given m) (omega (arith, s.each m))

  -- the first pass, of the mask m with bit 0 and the one without
  abbrev s' : ℕ → ℕ → ℤ
  s' m k = kept (t' m -ℤ t' k)

  pub s1 : Difference (t' 1) (t' 0) (pass 0 given 1)
  s1 = difference (given_back 1) (given_back 0) (omega (arith, one 1))

  pub s3 : Difference (t' 3) (t' 2) (pass 0 given 3)
  s3 = difference (given_back 3) (given_back 2) (omega (arith, one 3))

  pub s5 : Difference (t' 5) (t' 4) (pass 0 given 5)
  s5 = difference (given_back 5) (given_back 4) (omega (arith, one 5))

  pub s7 : Difference (t' 7) (t' 6) (pass 0 given 7)
  s7 = difference (given_back 7) (given_back 6) (omega (arith, one 7))

  -- the second
  pub u2 : Difference (t' 2) (t' 0) (pass 1 (pass 0 given) 2)
  u2 = difference (given_back 2) (given_back 0) (omega (arith, two 2))

  pub u3 : Difference (s' 3 2) (s' 1 0) (pass 1 (pass 0 given) 3)
  u3 = difference s3.back s1.back (omega (arith, two 3))

  pub u6 : Difference (t' 6) (t' 4) (pass 1 (pass 0 given) 6)
  u6 = difference (given_back 6) (given_back 4) (omega (arith, two 6))

  pub u7 : Difference (s' 7 6) (s' 5 4) (pass 1 (pass 0 given) 7)
  u7 = difference s7.back s5.back (omega (arith, two 7))

  -- the third
  pub e4 : Difference (t' 4) (t' 0) (pass 2 (pass 1 (pass 0 given)) 4)
  e4 = difference (given_back 4) (given_back 0) (three 4)

  pub e5 : Difference (s' 5 4) (s' 1 0) (pass 2 (pass 1 (pass 0 given)) 5)
  e5 = difference s5.back s1.back (three 5)

  pub e6 : Difference (s' 6 4) (s' 2 0) (pass 2 (pass 1 (pass 0 given)) 6)
  e6 = difference u6.back u2.back (three 6)

  pub e7 : Difference (kept (s' 7 6 -ℤ s' 5 4)) (kept (s' 3 2 -ℤ s' 1 0)) (pass 2 (pass 1 (pass 0 given)) 7)
  e7 = difference u7.back u3.back (three 7)
