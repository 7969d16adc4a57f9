use Rattle.std.proofs.Common.{arith}
use Rattle.write_text.specs.WriteLaws.{listed_by_item, listed_by_none}
use Rattle.decimal.specs.Puts.{◌and◌, left_after, left_fits, left_none}
use Rattle.write_text.proofs.put_list.Goals as goal

pub put_number-requires : goal.put_number-requires
put_number-requires g c =
    let l = c.loop-x in
    omega (arith, left_fits l.invariant (listed_by_item g.T.Shown.text c.args.xs.now l.x-index c.x-item.result (omega arith) c.x-item.is), l.invariant.still.long, c.put.ensures.wrote.long, c.put.ensures.wrote.place)

pub loop-x-preserved : goal.loop-x-preserved
loop-x-preserved g c =
    let l = c.loop-x in
    left_after l.invariant (listed_by_item g.T.Shown.text c.args.xs.now l.x-index c.x-item.result (omega arith) c.x-item.is) c.put_number.ensures

pub returns : goal.returns
returns g c =
    let l = c.loop-x in
    (c.put.ensures and left_none (rw (listed_by_none g.T.Shown.text c.args.xs.now l.x-index (omega arith)) at l.invariant))
