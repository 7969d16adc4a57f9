use Rattle.low_degree.specs.TableLaws.{read_below}
use Rattle.low_degree.proofs.fn.tees.map+FnOnce.call_once.Goals as goal

pub returns : goal.returns
returns c = (tt, read_below c.args.arg2 c.map.result c.ranges.arg2 c.map.ensures)
