use Rattle.std.proofs.Common.{arith}
use Rattle.write_text.specs.WriteLaws.{choices_left, choices_none}
use Rattle.decimal.specs.Puts.{◌and◌, left_after, left_fits, left_none}
use Rattle.write_text.proofs.put_choices.Goals as goal

pub put_number-requires : goal.put_number-requires
put_number-requires c =
    let l = c.loop-i in
    omega (arith, left_fits l.invariant (choices_left c.args.k c.args.m l.i (omega arith)), l.invariant.still.long, c.put.ensures.wrote.long, c.put.ensures.wrote.place)

pub loop-i-preserved : goal.loop-i-preserved
loop-i-preserved c =
    let l = c.loop-i in left_after l.invariant (choices_left c.args.k c.args.m l.i (omega arith)) c.put_number.ensures

pub returns : goal.returns
returns c =
    let l = c.loop-i in
    (c.put.ensures and left_none (rw (choices_none c.args.k c.args.m l.i (omega arith)) at l.invariant))
