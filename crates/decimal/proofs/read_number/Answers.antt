use Rattle.std.proofs.Common.{◌≡◌, ◌<◌, ◌*◌, ◌+◌, ◌-◌, sym, length, get_or, false, arith, rules}
use Rattle.std.proofs.lemmas.List.{take_rest}
use Rattle.rules.specs.ReadText.{digit, bad, number}
use Rattle.decimal.specs.ReadLaws.{so_far_end, so_far_more, so_far_large, so_far_none, so_far_closed, so_far_above, so_far_other}
use Rattle.decimal.proofs.read_number.Goals.{Then-is_ascii_digit, Else-is_ascii_digit, else-i-gt0-via-then-i-gt0+then-v-max+else-b-end, else-i-gt0-via-then-i-gt0+else-v-max, else-i-gt0-via-else-i-gt0}
use Rattle.decimal.proofs.read_number.Goals as goal

-- the byte is a digit, by which the value passes max
large : (c : Then-is_ascii_digit) → c.args.max < 10 * c.loop-i.v + (get_or c.args.text.now c.loop-i.i 0 - 48) → bad ≡ number c.args.max c.args.end c.args.text.now
large c h = sym (so_far_large c.args.max c.args.end c.args.text.now c.loop-i.i c.loop-i.v c.loop-i.invariant (omega arith) (search rules) h)

pub returns-in_err-checked_mul-clause-reads : goal.returns-in_err-checked_mul-clause-reads
returns-in_err-checked_mul-clause-reads c = rw c.from_residual.ensures (large (goal.at.returns-in_err-checked_mul-clause-reads c).Then-is_ascii_digit (omega (arith, c.in_err-checked_mul.ensures)))

pub returns-in_err-v-clause-reads : goal.returns-in_err-v-clause-reads
returns-in_err-v-clause-reads c = rw c.from_residual-in_err-v.ensures (large (goal.at.returns-in_err-v-clause-reads c).Then-is_ascii_digit (omega (arith, c.in_err-v.ensures, c.in_ok-checked_mul.ensures, c.from.ensures)))

pub returns-then-b-end-clause-reads : goal.returns-then-b-end-clause-reads
returns-then-b-end-clause-reads c =
    let l = c.loop-i in
    rw take_rest (sym (so_far_closed c.args.max c.args.end c.args.text.now l.i l.v l.invariant (omega arith) (search rules) (omega arith) (omega arith) c.if-b-end.true))

pub returns-else-i-gt0-clause-reads : goal.returns-else-i-gt0-clause-reads
returns-else-i-gt0-clause-reads c =
    let l = c.loop-i in
    let h : l.i < length c.args.text.now = omega arith in
    let d : digit (get_or c.args.text.now l.i 0) ≡ false = search rules in
    sym (elim c.else-i-gt0.branch [
      | else-i-gt0-via-then-i-gt0+then-v-max+else-b-end w ↦ so_far_other c.args.max c.args.end c.args.text.now l.i l.v l.invariant h d (omega arith) (omega arith) w.if-b-end.false
      | else-i-gt0-via-then-i-gt0+else-v-max w ↦ so_far_above c.args.max c.args.end c.args.text.now l.i l.v l.invariant h d (omega arith) (omega arith)
      | else-i-gt0-via-else-i-gt0 w ↦ so_far_none c.args.max c.args.end c.args.text.now l.i l.v l.invariant h d (omega arith)
    ])

pub loop-i-preserved : goal.loop-i-preserved
loop-i-preserved c =
    let l = c.loop-i in
    let e : 10 * l.v + (get_or c.args.text.now l.i 0 - 48) ≡ c.in_ok-v.v = omega (arith, c.in_ok-v.ensures, c.in_ok-checked_mul.ensures, c.from.ensures) in
    rw (← e) (so_far_more c.args.max c.args.end c.args.text.now l.i l.v l.invariant (omega arith) (search rules))

pub returns-clause-reads : goal.returns-clause-reads
returns-clause-reads c = sym (so_far_end c.args.max c.args.end c.args.text.now c.loop-i.i c.loop-i.v c.loop-i.invariant (omega arith))
