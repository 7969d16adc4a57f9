-- A body and the check's four bytes after it.
-- Assumes nothing.
use Rattle.std.specs.Prelude.{◌≡◌, refl, true, ℕ, ◌+◌, length, take, drop}
use Rattle.std.proofs.Common.{sym, ap, ◌∙◌, arith, length-append, take_at, drop_at, drop-drop, take_all}
use mathlib.Core.List.{List, [], ◌∷◌, ◌++◌, append_assoc}
use borrow.Author.Tests.{eq-eqb}
use Rattle.rules.specs.Record.{little, from_little, Sums, check, check_right, sealed}
use Rattle.record_laws.specs.Bytes.{little_length, from_little_lem}
use Rattle.record_laws.specs.Sums.{check_below, three_unseen}

abbrev pub seal_of : List ℕ → List ℕ
seal_of m = little 2 (check m).s1 ++ little 2 (check m).s2

module _ (m : List ℕ) (l : length m ≡ 508) where
  pub seal_body : take 508 (sealed m) ≡ m
  unfolding sealed
  seal_body = rw append_assoc (take_at m (seal_of m) 508 l)

  pub seal_rest : drop 508 (sealed m) ≡ seal_of m
  unfolding sealed
  seal_rest = rw append_assoc (drop_at m (seal_of m) 508 l)

  pub seal_length : length (sealed m) ≡ 512
  unfolding sealed
  seal_length = simp (length-append, little_length) (omega arith)

  first_sum : from_little (take 2 (drop 508 (sealed m))) ≡ (check m).s1
  first_sum =
      let s = (check m).s1 in
      let t : take 2 (drop 508 (sealed m)) ≡ little 2 s = rw seal_rest (take_at (little 2 s) (little 2 (check m).s2) 2 (little_length 2 s)) in
      rw t (from_little_lem 2 s (check_below m).0)

  second_sum : from_little (take 2 (drop 510 (sealed m))) ≡ (check m).s2
  second_sum =
      let s = (check m).s1 in
      let t = (check m).s2 in
      let d : drop 510 (sealed m) ≡ little 2 t = sym (drop-drop 2 508 (sealed m)) ∙ rw seal_rest (drop_at (little 2 s) (little 2 t) 2 (little_length 2 s)) in
      let e : take 2 (little 2 t) ≡ little 2 t = take_all 2 (little 2 t) (omega (arith, little_length 2 t)) in
      rw (d, e) (from_little_lem 2 t (check_below m).1)

  pub seal_right : check_right (sealed m) ≡ true
  unfolding check_right
  seal_right = rw (seal_body, eq-eqb _ _ first_sum, eq-eqb _ _ second_sum)

-- Three changed bytes can escape: where a body has 0 2 0, the block with 1 0 1 there and all else as it was, the check's bytes too, has a right check.
pub three_bytes_missed : (pre post : List ℕ) → length (pre ++ (1 ∷ 0 ∷ 1 ∷ post)) ≡ 508 → check_right (pre ++ (1 ∷ 0 ∷ 1 ∷ post) ++ seal_of (pre ++ (0 ∷ 2 ∷ 0 ∷ post))) ≡ true
unfolding sealed
three_bytes_missed pre post l =
    let m = pre ++ (1 ∷ 0 ∷ 1 ∷ post) in
    ap check_right (ap (λ (s : Sums). m ++ (little 2 s.s1 ++ little 2 s.s2)) (three_unseen pre post) ∙ sym (append_assoc m (little 2 (check m).s1) (little 2 (check m).s2)))
    ∙ seal_right m l
