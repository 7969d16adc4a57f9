-- The rows of the refusal table: the first whose test holds gives its number; rows may stand below others.
-- Assumes nothing.
use Rattle.std.specs.Prelude.{◌≡◌, refl, Bool, true, false, cond, not, ◌&&◌, List, [], ◌∷◌, ◌++◌, ℕ, zero, suc, eqb, length}
use Rattle.std.proofs.Common.{sym, ap, ap₂, ◌∙◌, arith}
use Rattle.whole.specs.Words.{some, one_of}
use Rattle.whole.specs.Tests.{clash, row_off, or-false, or_none, and-true, eqb_same, same_eqb, other_eqb}
use Rattle.rules.specs.Refuse.{first_row, over, block_rows, bytes_rows, read_refusal}
use Rattle.rules.specs.Call.{unless}
use Rattle.rules.specs.declared.Record.{Record}

-- ---- one row
pub row_hit : (k : ℕ) (t : Bool) (rs : List (ℕ × Bool)) → t ≡ true → k ≡ first_row ((k, t) ∷ rs)
unfolding first_row
row_hit k t rs e = rw e

pub row_skip : (k : ℕ) (t : Bool) (rs : List (ℕ × Bool)) {r : ℕ} → t ≡ false → r ≡ first_row rs → r ≡ first_row ((k, t) ∷ rs)
unfolding first_row
row_skip k t rs e h = rw e h

pub row_none : 0 ≡ first_row []
unfolding first_row
row_none = refl

pub no_row : {t : Bool} (k : ℕ) (rs : List (ℕ × Bool)) → t ≡ false → first_row ((k, t) ∷ rs) ≡ first_row rs
no_row k rs h = sym (row_skip k _ rs h refl)

-- ---- rows below others
-- no row has the number 0
abbrev pub numbered : List (ℕ × Bool) → Bool
numbered [] = true
numbered (r ∷ rs) = not (eqb r.0 0) && numbered rs

-- a number that is not 0 stands
pub stands : (k below : ℕ) → not (eqb k 0) ≡ true → unless k below k ≡ k
stands zero below h = clash h refl
stands (suc k) below h = refl

pub rows_then : (xs ys : List (ℕ × Bool)) → numbered xs ≡ true → first_row (xs ++ ys) ≡ unless (first_row xs) (first_row ys) (first_row xs)
unfolding first_row
rows_then [] ys n = refl
rows_then (x ∷ xs) ys n = let h = and-true _ _ n in by x.1 h.0 (rows_then xs ys h.1)
  where
    by : (t : Bool) → not (eqb x.0 0) ≡ true → first_row (xs ++ ys) ≡ unless (first_row xs) (first_row ys) (first_row xs)
        → cond t x.0 (first_row (xs ++ ys)) ≡ unless (cond t x.0 (first_row xs)) (first_row ys) (cond t x.0 (first_row xs))
    by true h e = sym (stands x.0 (first_row ys) h)
    by false h e = e

-- the same of the numbers that code has for them
pub rows_below : (xs ys : List (ℕ × Bool)) {above below : ℕ} → numbered xs ≡ true → above ≡ first_row xs → below ≡ first_row ys → unless above below above ≡ first_row (xs ++ ys)
rows_below xs ys n p q = ap₂ (λ (a b : ℕ). unless a b a) p q ∙ sym (rows_then xs ys n)

pub both_passed : (xs ys : List (ℕ × Bool)) → numbered xs ≡ true → first_row (xs ++ ys) ≡ 0 → (first_row xs ≡ 0) × (first_row ys ≡ 0)
both_passed xs ys n e = by (first_row xs) (sym (rows_then xs ys n) ∙ e)
  where
    by : (k : ℕ) → unless k (first_row ys) k ≡ 0 → (k ≡ 0) × (first_row ys ≡ 0)
    by zero e = (refl, e)
    by (suc k) e = absurd (omega arith)

-- ---- no row holds: each test, as a tuple
abbrev pub NoRow : List (ℕ × Bool) → Type 0
NoRow [] = Unit
NoRow (r ∷ rs) = (r.1 ≡ false) × NoRow rs

pub rows_off : (rs : List (ℕ × Bool)) → numbered rs ≡ true → first_row rs ≡ 0 → NoRow rs
unfolding first_row
rows_off [] n e = tt
rows_off (r ∷ rs) n e =
    let h = and-true _ _ n in
    let k = row_off r.0 r.1 (first_row rs) (other_eqb r.0 0 h.0) e in
    (k.0, rows_off rs h.1 k.1)

pub no_number : (rs : List (ℕ × Bool)) → NoRow rs → first_row rs ≡ 0
unfolding first_row
no_number [] h = refl
no_number (r ∷ rs) h = rw h.0 (no_number rs h.1)

-- the same of the tests of one row
abbrev pub NoTest : List Bool → Type 0
NoTest [] = Unit
NoTest (t ∷ ts) = (t ≡ false) × NoTest ts

pub tests_off : (ts : List Bool) → one_of ts ≡ false → NoTest ts
unfolding one_of
tests_off [] e = tt
tests_off (t ∷ ts) e = let h = or-false t (one_of ts) e in (h.0, tests_off ts h.1)

pub no_test : (ts : List Bool) → NoTest ts → one_of ts ≡ false
unfolding one_of
no_test [] h = refl
no_test (t ∷ ts) h = or_none h.0 (no_test ts h.1)

-- ---- a block, and rows below its own
pub read_then : (b : List ℕ) (rows : List (ℕ × Bool)) → first_row (block_rows b ++ rows) ≡ unless (read_refusal b) (first_row rows) (read_refusal b)
unfolding read_refusal
read_then b rows = rows_then (block_rows b) rows refl

pub block_passed : (b : List ℕ) (rows : List (ℕ × Bool)) → read_refusal b ≡ 0 → first_row (block_rows b ++ rows) ≡ first_row rows
block_passed b rows e = read_then b rows ∙ ap (λ (k : ℕ). unless k (first_row rows) k) e

-- ---- an answer or a plan
module _ (r : Record) (long : ℕ) (bytes : List ℕ) (out : ℕ) where
  pub bytes_fine : length bytes ≡ long → out ≡ r.n → some (over 1) bytes ≡ false → first_row (bytes_rows r long bytes out) ≡ 0
  bytes_fine p q h = no_number _ (no_test _ (eqb_same (length bytes) long p, (eqb_same out r.n q, tt)), (h, tt))

  pub bytes_lengths : first_row (bytes_rows r long bytes out) ≡ 0 → (length bytes ≡ long) × (out ≡ r.n)
  bytes_lengths e =
      let t = tests_off _ (rows_off _ refl e).0 in
      (same_eqb (length bytes) long t.0, same_eqb out r.n t.1.0)
