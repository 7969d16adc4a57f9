use Rattle.whole.specs.Ints.{rd}
use Rattle.decimal.specs.Puts.{◌and◌}
use Rattle.write_text.proofs.put_edge.Goals as goal

pub returns : goal.returns
returns c = (c.put_number.ensures and c.put_number-2.ensures and (rw (rd c.ranges.w) at c.put_number-3.ensures) and c.put.ensures)
