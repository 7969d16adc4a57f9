-- A step's three three_places, and the constant, as the code tests them.
-- Assumes nothing.
use mathlib.Core.Path.{◌≡◌, refl, sym, ◌∙◌}
use mathlib.Core.Bool.{Bool, cond, ◌&&◌, ◌||◌, and_assoc, and-true, and-false}
use mathlib.Core.List.{List, [], ◌∷◌}
use Prim.Native.Nat.{ℕ, zero, suc}
use native.Mathlib.Omega.{arith}
use lib.Dec.{ltb, leb, eqb, leb-suc-suc}
use lib.ListN.{take, drop}
use lib.IntN.{ℤ, pos, negsuc, nat_abs}
use lib.Signed.{le_z}
use borrow.Author.Tests.{lt-ltb, lt-leb, ltb-true}
use Rattle.whole.specs.Words.{all, all_of}
use Rattle.whole.specs.Tests.{cases}
use Rattle.rules.specs.Record.{ascending}

module _ (p : ℕ → Bool) (x y z : ℕ) (c : Bool) where
  abbrev three : List ℕ
  three = x ∷ y ∷ z ∷ []

  -- the middle one makes the first and the third ascend
  past : (t : Bool) → (ltb x y && (ltb y z && t)) ≡ (ltb x y && (ltb x z && (ltb y z && t)))
  past t = cases (ltb x y)
      (λ a. cases (ltb y z) (λ b. rw (a, b, lt-ltb x z (omega (arith, ltb-true x y a, ltb-true y z b)))) (λ b. rw (a, b) (sym (and-false (ltb x z)))))
      (λ a. rw a)

  pub three_places : (d : ℕ)
      → (leb d 3 && (((ltb d 2 || ltb x y) && (ltb d 3 || ltb y z)) && (cond (ltb 0 d) (p x) (eqb x 0) && (cond (ltb 1 d) (p y) (eqb y 0) && (cond (ltb 2 d) (p z) (eqb z 0) && c)))))
      ≡ all_of (leb d 3 ∷ ascending (take d three) ∷ all p (take d three) ∷ all (λ b. eqb b 0) (drop d three) ∷ c ∷ [])
  unfolding ascending all all_of
  three_places zero = simp (and_assoc, and-true)
  three_places (suc zero) = simp (and_assoc, and-true)
  three_places (suc (suc zero)) = simp (and_assoc, and-true)
  three_places (suc (suc (suc zero))) = simp (and_assoc, and-true) (past (p x && (p y && (p z && c))))
  three_places (suc (suc (suc (suc d)))) = rw (lt-leb (suc (suc (suc (suc d)))) 3 (omega arith))

-- "the constant is within_limit ±2^40"
pub within_limit : (z : ℤ) → (le_z (negsuc 1099511627775) z && le_z z (pos 1099511627776)) ≡ leb (nat_abs z) 1099511627776
within_limit (pos a) = refl
within_limit (negsuc a) = and-true (leb a 1099511627775) ∙ sym (leb-suc-suc a 1099511627775)
