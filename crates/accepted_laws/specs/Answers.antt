-- What a call answers is its only answer: refusals of one number are one, and so are two results that meet one contract.
-- Assumes nothing.
use Rattle.std.specs.Prelude.{◌≡◌, refl, Bool, true, false, cond, not, List, [], ◌∷◌, ◌++◌, ℕ, zero, suc, eqb, get_or, Result, Ok, Err}
use Rattle.std.proofs.Common.{sym, ap, ◌∙◌, arith}
use Rattle.std.proofs.lemmas.Result.{IfOk-at_ok}
use Rattle.rules.specs.Numbers.{number_of, answer_of}
use Rattle.rules.specs.Refuse.{first_row}
use Rattle.rules.specs.Call.{unless, Answered}
use Rattle.rules.specs.declared.refusal.Refusal.{Refusal}
use Rattle.rules.specs.declared.refusal.Refusal.TheVariants.{Decisions, Lengths, Index, Fixing, Switches, Weight, AnswerLength, AnswerByte, BlockLength, Check, Edition, Body, Text}
use Rattle.whole.specs.Tests.{other_eqb}
use Rattle.accepted_laws.specs.Rows.{numbered, rows_then}

-- the refusal that has the number
refusal_at : ℕ → Refusal
refusal_at k =
    get_or (
    Text ∷ Decisions ∷ Lengths ∷ Index ∷ Fixing ∷ Switches ∷ Weight ∷ AnswerLength ∷ AnswerByte ∷ BlockLength ∷ Check ∷ Edition ∷ Body ∷ []) k Text

at_number : (r : Refusal) → refusal_at (number_of r) ≡ r
unfolding refusal_at
at_number Decisions = refl
at_number Lengths = refl
at_number Index = refl
at_number Fixing = refl
at_number Switches = refl
at_number Weight = refl
at_number AnswerLength = refl
at_number AnswerByte = refl
at_number BlockLength = refl
at_number Check = refl
at_number Edition = refl
at_number Body = refl
at_number Text = refl

pub one_number : (r s : Refusal) → number_of r ≡ number_of s → r ≡ s
one_number r s e = sym (at_number r) ∙ ap refusal_at e ∙ at_number s

-- no row has the number 0
pub numbered_row : (r : Refusal) → number_of r ≡ 0 → ⊥
numbered_row Decisions e = absurd (omega arith)
numbered_row Lengths e = absurd (omega arith)
numbered_row Index e = absurd (omega arith)
numbered_row Fixing e = absurd (omega arith)
numbered_row Switches e = absurd (omega arith)
numbered_row Weight e = absurd (omega arith)
numbered_row AnswerLength e = absurd (omega arith)
numbered_row AnswerByte e = absurd (omega arith)
numbered_row BlockLength e = absurd (omega arith)
numbered_row Check e = absurd (omega arith)
numbered_row Edition e = absurd (omega arith)
numbered_row Body e = absurd (omega arith)
numbered_row Text e = absurd (omega arith)

-- ---- rows above others: one of them holds, or none does
module _ (xs ys : List (ℕ × Bool)) (n : numbered xs ≡ true) where
  pub rows_stop : (r : Refusal) → number_of r ≡ first_row xs → number_of r ≡ first_row (xs ++ ys)
  rows_stop r e = by (first_row xs) e ∙ sym (rows_then xs ys n)
    where
      by : (k : ℕ) → number_of r ≡ k → number_of r ≡ unless k (first_row ys) k
      by zero z = absurd (numbered_row r z)
      by (suc k) z = z

  pub rows_pass : 0 ≡ first_row xs → first_row (xs ++ ys) ≡ first_row ys
  rows_pass e = rows_then xs ys n ∙ ap (λ (k : ℕ). unless k (first_row ys) k) (sym e)

-- ---- a row as the code asks it: it stops there, or goes on
pub row_stops : (k : ℕ) {t u : Bool} (r : Refusal) (rs : List (ℕ × Bool)) → t ≡ u → number_of r ≡ cond t k 0 → number_of r ≡ first_row ((k, u) ∷ rs)
unfolding first_row
row_stops k {t = true} r rs e n = n ∙ ap (λ (b : Bool). cond b k (first_row rs)) e
row_stops k {t = false} r rs e n = absurd (numbered_row r n)

pub row_goes : (k : ℕ) {t u : Bool} (rs : List (ℕ × Bool)) {n : ℕ} → not (eqb k 0) ≡ true → t ≡ u → 0 ≡ cond t k 0 → n ≡ first_row rs → n ≡ first_row ((k, u) ∷ rs)
unfolding first_row
row_goes k {t = true} rs z e h g = absurd (other_eqb k 0 z (sym h))
row_goes k {t = false} rs z e h g = g ∙ ap (λ (b : Bool). cond b k (first_row rs)) e

-- ---- what stands where a row holds, and where none does
pub unless_kept : {A : Type 0} (k : ℕ) (r : Refusal) (x y : A) → number_of r ≡ k → y ≡ unless k x y
unless_kept zero r x y e = absurd (numbered_row r e)
unless_kept (suc k) r x y e = refl

pub unless_done : {A : Type 0} (k : ℕ) (x y : A) → 0 ≡ k → x ≡ unless k x y
unless_done k x y e = ap (λ (k : ℕ). unless k x y) e

-- ---- results that hold nothing but their number
pub one_answer : (x y : Result (Unit {0}) Refusal) → answer_of x ≡ answer_of y → x ≡ y
one_answer (Ok x) (Ok y) e = refl
one_answer (Ok x) (Err s) e = absurd (numbered_row s (sym e))
one_answer (Err r) (Ok y) e = absurd (numbered_row r e)
one_answer (Err r) (Err s) e = ap Err (one_number r s e)

-- ---- results with a value
module _ {A : Type 0} {k : ℕ} {v : A} where
  pub answered_one : (x y : Result A Refusal) → Answered k v x → Answered k v y → x ≡ y
  answered_one (Ok x) (Ok y) g h = ap Ok (g.value_is ∙ sym h.value_is)
  answered_one (Ok x) (Err s) g h = absurd (numbered_row s (h.number_is ∙ sym g.number_is))
  answered_one (Err r) (Ok y) g h = absurd (numbered_row r (g.number_is ∙ sym h.number_is))
  answered_one (Err r) (Err s) g h = ap Err (one_number r s (g.number_is ∙ sym h.number_is))

-- a refusal, and a value
pub answered_err : {A : Type 0} (k : ℕ) (v : A) (x : Result A Refusal) (r : Refusal) → x ≡ Err r → number_of r ≡ k → Answered k v x
answered_err k v x r e n = rw e (record { number_is = n; value_is = tt })

pub answered_ok : {A : Type 0} (k : ℕ) (v y : A) → 0 ≡ k → y ≡ v → Answered k v (Ok y)
answered_ok k v y z e = record { number_is = z; value_is = e }

-- what a value shows: no row holds, and it is the one
pub answered_number : {A : Type 0} {k : ℕ} {v y : A} {x : Result A Refusal} → Answered k v x → x ≡ Ok y → 0 ≡ k
answered_number g e = ap answer_of (sym e) ∙ g.number_is

pub answered_value : {A : Type 0} {k : ℕ} {v y : A} {x : Result A Refusal} → Answered k v x → x ≡ Ok y → y ≡ v
answered_value {v = v} g e = IfOk-at_ok (λ y. y ≡ v) e g.value_is

-- a row that was passed
pub row_off_by : (k : ℕ) {t : Bool} → not (eqb k 0) ≡ true → 0 ≡ cond t k 0 → t ≡ false
row_off_by k {t = true} z h = absurd (other_eqb k 0 z (sym h))
row_off_by k {t = false} z h = refl
