-- The refusals of a call on an unbroken record, and of a call on a block that is read.
-- Assumes nothing.
use Rattle.std.specs.Prelude.{◌≡◌, Bool, true, false, not, List, ◌∷◌, ◌++◌, ℕ, zero, suc, Result, Ok, Err}
use Rattle.std.proofs.Math.Path.{refl, ap}
use Rattle.std.proofs.Common.{sym, ◌∙◌, subst, arith}
use Rattle.rules.specs.Record.{broken, record_in}
use Rattle.rules.specs.Refuse.{first_row, block_rows, read_refusal}
use Rattle.rules.specs.Numbers.{number_of, answer_of}
use Rattle.rules.specs.Call.{unless, Answered}
use Rattle.rules.specs.declared.Record.{Record}
use Rattle.rules.specs.declared.refusal.Refusal.{Refusal}
use Rattle.accepted_laws.specs.Answers.{numbered_row, unless_kept, answered_number, answered_value}
use Rattle.accepted_laws.specs.Rows.{no_row, read_then, block_passed}
use Rattle.record_laws.specs.RoundTrip.{is_readable}
use Rattle.back.specs.Calls.{Answers}

-- ---- what was read of a block
module _ (b : List ℕ) (read : Result Record Refusal) (is : Answered (read_refusal b) (record_in b) read) where
  read_number : answer_of read ≡ read_refusal b
  read_number = is.number_is

  read_record : (v : Record) → read ≡ Ok v → v ≡ record_in b
  read_record v e = answered_value is e

  pub read_unbroken : (v : Record) → read ≡ Ok v → broken v ≡ false
  read_unbroken v e = ap broken (read_record v e) ∙ ap not (is_readable b (sym (answered_number is e))).unbroken

-- ---- what a call gives, whose slice held y and is to hold x
-- a row holds
pub answers_refused : (k number : ℕ) (x y : List ℕ) → number ≡ k → (number ≡ 0 → ⊥) → Answers k x y number y
answers_refused zero number x y e h = absurd (h e)
answers_refused (suc k) number x y e h = record { number_is = e; slice_is = refl }

pub answers_err : (k : ℕ) (r : Refusal) (x y : List ℕ) {a : Result (Unit {0}) Refusal} → a ≡ Err r → number_of r ≡ k → Answers k x y (answer_of a) y
answers_err k r x y e n = record { number_is = ap answer_of e ∙ n; slice_is = unless_kept k r x y n }

-- none does
pub answers_accepted : (k : ℕ) (x y exit : List ℕ) → k ≡ 0 → exit ≡ x → Answers k x y 0 exit
answers_accepted k x y exit e h = record { number_is = sym e; slice_is = h ∙ ap (λ (m : ℕ). unless m x y) (sym e) }

-- ---- the same of a record passed in and of a block: `rows` are the rows 7 and 8 for a record, and x is what is asked of it
module _ (rows : Record → List (ℕ × Bool)) (x : Record → List ℕ) (y : List ℕ) where
  module _ (r : Record) where
    pub of_broken : broken r ≡ true → Answers (first_row ((12, broken r) ∷ rows r)) (x r) y 12 y
    unfolding first_row
    of_broken e = rw e (answers_refused 12 12 (x r) y refl (λ z. omega arith))

    pub of_unbroken : broken r ≡ false → {number : ℕ} {exit : List ℕ} → Answers (first_row (rows r)) (x r) y number exit → Answers (first_row ((12, broken r) ∷ rows r)) (x r) y number exit
    of_unbroken e g = rw (no_row 12 (rows r) e) g

  module _ (b : List ℕ) (read : Result Record Refusal) (is : Answered (read_refusal b) (record_in b) read) where
    pub of_unread : (r : Refusal) → read ≡ Err r → Answers (first_row (block_rows b ++ rows (record_in b))) (x (record_in b)) y (number_of r) y
    of_unread r e =
        rw (read_then b (rows (record_in b)), ← read_number b read is, e) (by (number_of r) (numbered_row r))
      where
        by : (k : ℕ) → (k ≡ 0 → ⊥) → Answers (unless k (first_row (rows (record_in b))) k) (x (record_in b)) y k y
        by zero h = absurd (h refl)
        by (suc k) h = answers_refused (suc k) (suc k) (x (record_in b)) y refl h

    pub of_read : (v : Record) → read ≡ Ok v → {number : ℕ} {exit : List ℕ} → Answers (first_row (rows v)) (x v) y number exit → Answers (first_row (block_rows b ++ rows (record_in b))) (x (record_in b)) y number exit
    of_read v e {number} {exit} g =
        rw (block_passed b (rows (record_in b)) (sym (answered_number is e))) (subst (λ (r : Record). Answers (first_row (rows r)) (x r) y number exit) (read_record b read is v e) g)
