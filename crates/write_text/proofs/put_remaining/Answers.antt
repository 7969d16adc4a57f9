use Rattle.std.proofs.Common.{◌≡◌, ℕ, Bool, true, false, eqb, length, get_or, ap, arith, eq-eqb, ne_eqb}
use Rattle.std.proofs.Math.Nat.{sub-zero}
use Rattle.whole.specs.Those.{those_most, rest_more, rest_same, rest_end}
use Rattle.rules.specs.Back.{remaining_of}
use Rattle.write_text.specs.WriteLaws.{those_left, those_none}
use Rattle.decimal.specs.Puts.{◌and◌, left_all, left_after, left_fits, left_none}
use Rattle.write_text.proofs.put_remaining.Goals.{then-state-eq-REMAINING, else-state-eq-REMAINING}
use Rattle.write_text.proofs.put_remaining.Goals as goal

pub loop-i-init : goal.loop-i-init
unfolding remaining_of
loop-i-init c = record { bytes = rw sub-zero (left_all _); count = rw sub-zero (omega arith) }

pub put_number-requires : goal.put_number-requires
put_number-requires c =
    let l = c.loop-i in
    let p : ℕ → Bool = λ i. eqb (get_or c.args.states.now i 0) 2 in
    omega (arith, left_fits l.invariant.bytes (those_left p (length c.args.states.now) l.i (omega arith) (eq-eqb _ 2 c.if-state-eq-REMAINING.true)), l.invariant.bytes.still.long, c.put.ensures.wrote.long, c.put.ensures.wrote.place)

pub overflow_add-count : goal.overflow_add-count
unfolding remaining_of
overflow_add-count c =
    let p : ℕ → Bool = λ i. eqb (get_or c.args.states.now i 0) 2 in
    omega (arith, those_most p (length c.args.states.now), c.loop-i.invariant.count)

pub loop-i-preserved : goal.loop-i-preserved
loop-i-preserved c =
    let l = c.loop-i in
    let n = length c.args.states.now in
    let p : ℕ → Bool = λ i. eqb (get_or c.args.states.now i 0) 2 in
    elim c.if-state-eq-REMAINING.branch [
      | then-state-eq-REMAINING w ↦
          let e : p l.i ≡ true = eq-eqb _ 2 w.if-state-eq-REMAINING.true in
          record {
            bytes = rw w.page-is (left_after l.invariant.bytes (those_left p n l.i (omega arith) e) w.put_number.ensures);
            count = omega (arith, w.count-is, l.invariant.count, ap length (rest_more p n l.i (omega arith) e));
          }
      | else-state-eq-REMAINING w ↦
          let e : p l.i ≡ false = ne_eqb _ 2 w.if-state-eq-REMAINING.false in
          record {
            bytes = rw (w.page-is, ← rest_same p n l.i (omega arith) e) l.invariant.bytes;
            count = rw (w.count-is, ← rest_same p n l.i (omega arith) e) l.invariant.count;
          }
    ]

pub returns-clause-bytes : goal.returns-clause-bytes
returns-clause-bytes c =
    let l = c.loop-i in
    let p : ℕ → Bool = λ i. eqb (get_or c.args.states.now i 0) 2 in
    (c.put.ensures and left_none (rw (those_none p (length c.args.states.now) l.i (omega arith)) at l.invariant.bytes))

pub returns-clause-count : goal.returns-clause-count
returns-clause-count c =
    let l = c.loop-i in
    let p : ℕ → Bool = λ i. eqb (get_or c.args.states.now i 0) 2 in
    omega (arith, l.invariant.count, ap length (rest_end p (length c.args.states.now) l.i (omega arith)))
