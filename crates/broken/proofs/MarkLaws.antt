-- What a byte's mark tells is what the rules' tests of the byte tell.
-- Assumes nothing.
use mathlib.Core.Path.{◌≡◌, refl, ap, ◌∙◌}
use mathlib.Core.Bool.{false, not}
use Prim.Native.Nat.{ℕ, zero, suc}
use native.Mathlib.Omega.{arith}
use lib.Dec.{leb, eqb}
use borrow.Author.Tests.{lt-leb, ne_eqb, le-leb}
use Rattle.std.specs.Prelude.{Option}
use Rattle.broken.specs.declared.mark.Mark.{Mark}
use Rattle.broken.specs.Marks.{mark_of, known, fixed, eliminated}

abbrev four : ℕ → ℕ
four b = suc (suc (suc (suc b)))

-- past 3 no test holds
past : (b : ℕ) → (leb (four b) 1 ≡ false) × (leb (four b) 3 ≡ false) × (eqb (four b) 2 ≡ false) × (eqb (four b) 3 ≡ false)
past b = (lt-leb (four b) 1 (omega arith), lt-leb (four b) 3 (omega arith), ne_eqb (four b) 2 (λ e. omega arith), ne_eqb (four b) 3 (λ e. omega arith))

pub mark_known : (b : ℕ) → known (mark_of b) ≡ leb b 3
mark_known zero = refl
mark_known (suc zero) = refl
mark_known (suc (suc zero)) = refl
mark_known (suc (suc (suc zero))) = refl
mark_known (suc (suc (suc (suc b)))) = let t = past b in rw (t.0, t.1, t.2, t.3)

pub mark_fixed : (b : ℕ) → not (fixed (mark_of b)) ≡ leb 2 b
mark_fixed zero = refl
mark_fixed (suc zero) = refl
mark_fixed (suc (suc zero)) = refl
mark_fixed (suc (suc (suc zero))) = refl
mark_fixed (suc (suc (suc (suc b)))) = let t = past b in rw (t.0, t.2, t.3, le-leb 2 (four b) (omega arith))

pub mark_eliminated : (b : ℕ) → eliminated (mark_of b) ≡ eqb b 3
mark_eliminated zero = refl
mark_eliminated (suc zero) = refl
mark_eliminated (suc (suc zero)) = refl
mark_eliminated (suc (suc (suc zero))) = refl
mark_eliminated (suc (suc (suc (suc b)))) = let t = past b in rw (t.0, t.2, t.3)

-- the same of a byte whose mark is m
module _ (b : ℕ) (m : Option Mark) (e : m ≡ mark_of b) where
  pub known_is : known m ≡ leb b 3
  known_is = ap known e ∙ mark_known b

  pub fixed_is : not (fixed m) ≡ leb 2 b
  fixed_is = ap (λ (m : Option Mark). not (fixed m)) e ∙ mark_fixed b

  pub eliminated_is : eliminated m ≡ eqb b 3
  eliminated_is = ap eliminated e ∙ mark_eliminated b
