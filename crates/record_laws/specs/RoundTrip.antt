-- Written then read, read then written; what the reader accepts is what the writer writes.
-- Assumes nothing.
use Rattle.std.specs.Prelude.{◌≡◌, refl, ◌↔◌, true, false, not, ℕ, ◌+◌, ◌*◌, ◌^◌, ◌<◌, ◌≤◌, eqb, leb, nat_abs, length, drop, replicate}
use Rattle.std.proofs.Math.Path.{sym, ap}
use Rattle.std.proofs.Common.{◌∙◌, arith, length-drop, take_at, take_all, length-take-le, get_or-drop}
use mathlib.Core.List.{List, [], ◌∷◌, ◌++◌, map}
use Rattle.std.proofs.Math.ListN.{get_or, take}
use Rattle.std.proofs.lemmas.List.{length-map}
use Rattle.std.proofs.Math.Seq.{take-add}
use borrow.Author.Tests.{eq-eqb, eqb-true, leb-true, not-false}
use Rattle.whole.specs.Words.{from, upto, all, all_of}
use Rattle.whole.specs.Tests.{and-true, row_off}
use Rattle.rules.specs.Record.{edition, little, from_little, twos, from_twos, step_in, body, check, check_right, sealed, block_of, record_in, sound, broken, zeros_in, body_broken}
use Rattle.rules.specs.Refuse.{first_row, read_refusal}
use Rattle.rules.specs.declared.Record.{Record}
use Rattle.record_laws.specs.Bytes.{Bytes, bytes_front, little_length, from_little_lem, little_from, from_below, from_twos_lem, twos_from, twos_below}
use Rattle.record_laws.specs.Ranges.{stretch, zeros_read, zeros_stand, steps_read, steps_written}
use Rattle.record_laws.specs.Fields.{Held, body_length, from12, from76, from460, whole, drop4, drop12, drop76, drop460}
use Rattle.record_laws.specs.Seal.{seal_length, seal_right}

-- an unbroken record's constant is within ±2^40
constant_small : (r : Record) → sound r ≡ true → nat_abs r.constant ≤ 1099511627776
unfolding sound all_of
constant_small r e =
    let a = and-true (leb r.n 64) _ e in
    let b = and-true (leb r.count 64) _ a.1 in
    leb-true (nat_abs r.constant) 1099511627776 (and-true (leb (nat_abs r.constant) 1099511627776) _ b.1).0

module _ (r : Record) (h : Held r) where
  -- ---- a written block is read as its record
  field_states : take 64 (drop 12 (block_of r)) ≡ r.states
  field_states = rw (drop12 r h) (take_at r.states (from76 r h) 64 h.states)

  field_steps : map (λ k. step_in (block_of r) (76 + 6 * k)) (upto 64) ≡ r.steps
  field_steps = ap (λ (n : ℕ). map (λ k. step_in (block_of r) (76 + 6 * k)) (from 0 n)) (sym h.steps) ∙ steps_read r.steps 0 76 (block_of r) (from460 r h) (drop76 r h)

  field_constant : sound r ≡ true → from_twos (from_little (take 8 (drop 4 (block_of r)))) ≡ r.constant
  field_constant e =
      let v = twos r.constant in
      let l = constant_small r e in
      let t : take 8 (drop 4 (block_of r)) ≡ little 8 v = rw (drop4 r h) (take_at (little 8 v) (from12 r h) 8 (little_length 8 v)) in
      rw (t, from_little_lem 8 v (twos_below r.constant l)) (from_twos_lem r.constant l)

  pub read_written : broken r ≡ false → record_in (block_of r) ≡ r
  unfolding record_in
  read_written e =
      let c = field_constant (not-false (sound r) e) in
      let w = whole r h in
      λ i. record { n = get_or (w i) 1 0; count = get_or (w i) 2 0; constant = c i; states = field_states i; steps = field_steps i }

  zeros_right : zeros_in (block_of r) ≡ true
  unfolding zeros_in all
  zeros_right =
      let z : get_or (block_of r) 3 0 ≡ 0 = ap (λ (l : List ℕ). get_or l 3 0) (whole r h) in
      rw (eq-eqb (get_or (block_of r) 3 0) 0 z) (zeros_read 48 460 (block_of r) _ (drop460 r h))

  pub reads : broken r ≡ false → read_refusal (block_of r) ≡ 0
  unfolding read_refusal first_row block_of
  reads e =
      let n : get_or (block_of r) 0 0 ≡ edition = ap (λ (l : List ℕ). get_or l 0 0) (whole r h) in
      rw (eq-eqb (length (block_of r)) 512 (seal_length (body r) (body_length r h)), seal_right (body r) (body_length r h), eq-eqb (get_or (block_of r) 0 0) edition n, zeros_right, read_written e, not-false (sound r) e)

-- ---- a block that is read is written again
-- what the table says of a block that is not refused
pub record Readable (b : List ℕ) : Type 0 where
  pub long : length b ≡ 512
  pub right : check_right b ≡ true
  pub edition : get_or b 0 0 ≡ 3
  pub zeros : zeros_in b ≡ true
  pub unbroken : sound (record_in b) ≡ true

pub is_readable : (b : List ℕ) → read_refusal b ≡ 0 → Readable b
unfolding read_refusal first_row
is_readable b e =
    let a = row_off 9 (not (eqb (length b) 512)) _ (λ z. omega arith) e in
    let c = row_off 10 (not (check_right b)) _ (λ z. omega arith) a.1 in
    let d = row_off 11 (not (eqb (get_or b 0 0) edition)) _ (λ z. omega arith) c.1 in
    let f = row_off 12 (body_broken b) _ (λ z. omega arith) d.1 in
    let g = and-true (zeros_in b) (sound (record_in b)) (not-false _ f.0) in
    record {
      long = eqb-true (length b) 512 (not-false _ a.0);
      right = not-false (check_right b) c.0;
      edition = eqb-true (get_or b 0 0) 3 (not-false _ d.0);
      zeros = g.0;
      unbroken = g.1;
    }

module _ (b : List ℕ) (h : Bytes b) where
  bytes_part : (n a : ℕ) → Bytes (take n (drop a b))
  bytes_part n a = bytes_front n (drop a b) (λ i. rw get_or-drop (h (a + i)))

  part_length : (n a : ℕ) → a + n ≤ length b → length (take n (drop a b)) ≡ n
  part_length n a l = length-take-le n (drop a b) (rw length-drop (omega arith))

  -- the number that stands there, written again
  part_again : (n a v : ℕ) → a + n ≤ length b → v ≡ from_little (take n (drop a b)) → little n v ≡ take n (drop a b)
  part_again n a v l e = rw e (ap (λ (k : ℕ). little k (from_little (take n (drop a b)))) (sym (part_length n a l)) ∙ little_from (take n (drop a b)) (bytes_part n a))

  module _ (l : length b ≡ 512) where
    -- a block whose check is right is its first 508 bytes, sealed
    pub right_sealed : check_right b ≡ true → sealed (take 508 b) ≡ b
    unfolding check_right sealed
    right_sealed e =
        let t = and-true (eqb (from_little (take 2 (drop 508 b))) (check (take 508 b)).s1) _ e in
        let p = part_again 2 508 _ (omega arith) (sym (eqb-true _ _ t.0)) in
        let q = part_again 2 510 _ (omega arith) (sym (eqb-true _ _ t.1)) in
        rw (p, q, ← take-add 508 2 b, ← take-add 510 2 b) (take_all 512 b (omega arith))

    -- the constant's bytes
    constant_again : little 8 (twos (from_twos (from_little (take 8 (drop 4 b))))) ≡ take 8 (drop 4 b)
    constant_again =
        let x = take 8 (drop 4 b) in
        let n : length x ≡ 8 = part_length 8 4 (omega arith) in
        let v : from_little x < 2 ^ 64 = rw n at (from_below x (bytes_part 8 4)) in
        part_again 8 4 _ (omega arith) (twos_from (from_little x) v)

    front : (n a c : ℕ) → n + a ≡ c → take n b ++ take a (drop n b) ≡ take c b
    front n a c e = sym (take-add n a b) ∙ ap (λ (k : ℕ). take k b) e

    glue : (u v w x : List ℕ) → u ≡ take 4 b → v ≡ take 8 (drop 4 b) → w ≡ take 384 (drop 76 b) → x ≡ take 48 (drop 460 b) → u ++ v ++ take 64 (drop 12 b) ++ w ++ x ≡ take 508 b
    glue u v w x eu ev ew ex = rw (eu, ev, ew, ex, front 4 8 12 refl, front 12 64 76 refl, front 76 384 460 refl) (front 460 48 508 refl)

    head_again : Readable b → edition ∷ get_or b 1 0 ∷ get_or b 2 0 ∷ 0 ∷ [] ≡ take 4 b
    unfolding zeros_in all from
    head_again a =
        let z = eqb-true (get_or b 3 0) 0 (and-true (eqb (get_or b 3 0) 0) _ a.zeros).0 in
        let s : take 4 b ≡ get_or b 0 0 ∷ get_or b 1 0 ∷ get_or b 2 0 ∷ get_or b 3 0 ∷ [] = stretch 4 0 0 b (omega arith) in
        sym (rw (a.edition, z) at s)

    zeros_again : Readable b → replicate 48 0 ≡ take 48 (drop 460 b)
    unfolding zeros_in all
    zeros_again a = sym (zeros_stand 48 460 b (omega arith) (and-true (eqb (get_or b 3 0) 0) _ a.zeros).1)

    body_again : Readable b → body (record_in b) ≡ take 508 b
    unfolding body record_in
    body_again a = glue _ _ _ _ (head_again a) constant_again (steps_written 64 0 76 b (omega arith)) (zeros_again a)

    pub written_read : read_refusal b ≡ 0 → block_of (record_in b) ≡ b
    unfolding block_of
    written_read e = let a = is_readable b e in ap sealed (body_again a) ∙ right_sealed a.right

-- ---- the reader accepts exactly what is the block of some unbroken record
pub record Written (b : List ℕ) : Type 0 where
  pub source : Record
  pub held : Held source
  pub unbroken : broken source ≡ false
  pub block : block_of source ≡ b

pub held_in : (b : List ℕ) → length b ≡ 512 → Held (record_in b)
unfolding record_in from
held_in b l = record {
  states = length-take-le 64 (drop 12 b) (rw length-drop (omega arith));
  steps = length-map (upto 64) (λ k. step_in b (76 + 6 * k));
}

pub accepts_written : (b : List ℕ) → Bytes b → (read_refusal b ≡ 0) ↔ Written b
accepts_written b h = (
  (λ e.
      let a = is_readable b e in
      record { source = record_in b; held = held_in b a.long; unbroken = ap not a.unbroken; block = written_read b h a.long e }),
  (λ w. sym (ap read_refusal w.block) ∙ reads w.source w.held w.unbroken),
)
