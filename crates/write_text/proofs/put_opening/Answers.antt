use Rattle.std.proofs.Common.{◌≤◌, ◌+◌, sym, arith, length, take, length-take-le}
use Rattle.whole.specs.Ints.{rd}
use Rattle.rules.specs.Back.{remaining_of}
use Rattle.decimal.specs.Puts.{◌and◌}
use Rattle.write_text.specs.Outcomes.{opening}
use Rattle.write_text.specs.WriteLaws.{opening_size, opening_length, listed_signed}
use Rattle.write_text.specs.OutcomeLaws.{remaining_few}
use Rattle.write_text.proofs.put_opening.Goals.{Start}
use Rattle.write_text.proofs.put_opening.Goals as goal

-- the sizes of the parts
sizes : (c : Start) → c.args.page.now.at + opening_size c.args.constant (remaining_of c.args.states.now) (take (length (remaining_of c.args.states.now)) c.args.linear.now) ≤ length c.args.page.now.out.now
sizes c = rw (← opening_length c.args.constant (remaining_of c.args.states.now) (take (length (remaining_of c.args.states.now)) c.args.linear.now)) c.requires.0

pub put_number-requires : goal.put_number-requires
put_number-requires c = rw (rd c.ranges.constant) (omega (arith, sizes (goal.at.put_number-requires c).Start))

pub put_remaining-count-requires : goal.put_remaining-count-requires
put_remaining-count-requires c =
    let n = (rw (rd c.ranges.constant) at c.put_number.ensures).wrote in
    (omega (arith, sizes (goal.at.put_remaining-count-requires c).Start, n.place, n.long), c.requires.1)

pub slice_bounds-put_list-end-2 : goal.slice_bounds-put_list-end-2
slice_bounds-put_list-end-2 c =
    sym (length-take-le c.put_remaining-count.result c.args.linear.now (omega (arith, remaining_few c.args.states.now, c.put_remaining-count.ensures.count, c.requires.1, c.requires.2)))

pub put_list-requires : goal.put_list-requires
put_list-requires c =
    let n = (rw (rd c.ranges.constant) at c.put_number.ensures).wrote in
    let b = c.put_remaining-count.ensures.bytes.wrote in
    rw (listed_signed (take c.put_remaining-count.result c.args.linear.now), c.put_remaining-count.ensures.count) (omega (arith, sizes (goal.at.put_list-requires c).Start, n.place, n.long, b.place, b.long))

pub put-requires : goal.put-requires
put-requires c =
    let n = (rw (rd c.ranges.constant) at c.put_number.ensures).wrote in
    let b = c.put_remaining-count.ensures.bytes.wrote in
    let l = (rw (listed_signed (take c.put_remaining-count.result c.args.linear.now), c.put_remaining-count.ensures.count) at c.put_list.ensures).wrote in
    omega (arith, sizes (goal.at.put-requires c).Start, n.place, n.long, b.place, b.long, l.place, l.long)

pub returns : goal.returns
unfolding opening
returns c =
    rw (← c.put_remaining-count.ensures.count) ((rw (rd c.ranges.constant) at c.put_number.ensures) and c.put_remaining-count.ensures.bytes and (rw (listed_signed (take c.put_remaining-count.result c.args.linear.now)) at c.put_list.ensures) and c.put.ensures)
