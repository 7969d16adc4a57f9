-- Tests as values of Bool, taken by cases and joined.
-- Assumes nothing.
use Rattle.std.specs.Prelude.{◌≡◌, refl, Bool, true, false, cond, not, ◌&&◌, ◌||◌, ◌≢◌, ℕ, ◌≤◌, T, eqb}
use Rattle.std.proofs.Common.{sym, ap, ◌∙◌, subst, arith, eqb-true, eq-eqb, ne_eqb}
use Rattle.std.proofs.lemmas.Bool.{eqb-false}
use Rattle.whole.specs.Words.{one_if}

-- a test, taken by cases
pub cases : (b : Bool) {P : Type 0} → (b ≡ true → P) → (b ≡ false → P) → P
cases true t f = t refl
cases false t f = f refl

-- the same either way
pub either_way : {A : Type 0} (b : Bool) (v : A) → cond b v v ≡ v
either_way true v = refl
either_way false v = refl

pub clash : {b : Bool} {P : Type 0} → b ≡ true → b ≡ false → P
clash p q = absurd (subst T (sym p ∙ q) tt)

-- a row of a table: its number where its test holds
pub row_off : (k : ℕ) (t : Bool) (r : ℕ) → k ≢ 0 → cond t k r ≡ 0 → (t ≡ false) × (r ≡ 0)
row_off k true r n e = absurd (n e)
row_off k false r n e = (refl, e)

pub or_true : (a b : Bool) {P : Type 0} → (a || b) ≡ true → (a ≡ true → P) → (b ≡ true → P) → P
or_true true b h p q = p refl
or_true false b h p q = q h

pub or-false : (a b : Bool) → (a || b) ≡ false → (a ≡ false) × (b ≡ false)
or-false true b h = clash refl h
or-false false b h = (refl, h)

pub or_left : {a : Bool} (b : Bool) → a ≡ true → (a || b) ≡ true
or_left b h = ap (λ (c : Bool). c || b) h

pub or_right : (a : Bool) {b : Bool} → b ≡ true → (a || b) ≡ true
or_right true h = refl
or_right false h = h

pub or_none : {a b : Bool} → a ≡ false → b ≡ false → (a || b) ≡ false
or_none {b = b} p q = ap (λ (c : Bool). c || b) p ∙ q

pub and-true : (a b : Bool) → (a && b) ≡ true → (a ≡ true) × (b ≡ true)
and-true true b h = (refl, h)
and-true false b h = clash h refl

pub and_both : {a b : Bool} → a ≡ true → b ≡ true → (a && b) ≡ true
and_both {b = b} p q = ap (λ (c : Bool). c && b) p ∙ q

pub not_off : {a : Bool} → a ≡ false → not a ≡ true
not_off h = ap not h

pub not_on : {a : Bool} → a ≡ true → not a ≡ false
not_on h = ap not h

pub off_not : (a : Bool) → not a ≡ true → a ≡ false
off_not true h = sym h
off_not false h = refl

pub on_not : (a : Bool) → not a ≡ false → a ≡ true
on_not true h = refl
on_not false h = sym h

-- two numbers' test, denied
pub eqb_same : (m k : ℕ) → m ≡ k → not (eqb m k) ≡ false
eqb_same m k e = not_on (eq-eqb m k e)

pub eqb_other : (m k : ℕ) → m ≢ k → not (eqb m k) ≡ true
eqb_other m k d = not_off (ne_eqb m k d)

pub same_eqb : (m k : ℕ) → not (eqb m k) ≡ false → m ≡ k
same_eqb m k h = eqb-true m k (on_not (eqb m k) h)

pub other_eqb : (m k : ℕ) → not (eqb m k) ≡ true → m ≢ k
other_eqb m k h = eqb-false m k (off_not (eqb m k) h)

-- a test's number
pub at_most_one : (b : Bool) → one_if b ≤ 1
at_most_one true = omega arith
at_most_one false = omega arith

-- what is not true is false
pub refuse : (a : Bool) → (a ≡ true → ⊥) → a ≡ false
refuse true h = absurd (h refl)
refuse false h = refl

-- two tests that imply each other are the same
pub same_test : (a b : Bool) → (a ≡ true → b ≡ true) → (b ≡ true → a ≡ true) → a ≡ b
same_test true b p q = sym (p refl)
same_test false true p q = q refl
same_test false false p q = refl
