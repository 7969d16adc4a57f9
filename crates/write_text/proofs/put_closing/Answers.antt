use Rattle.decimal.specs.Puts.{◌and◌}
use Rattle.write_text.specs.Outcomes.{closing}
use Rattle.write_text.proofs.put_closing.Goals as goal

pub returns-then-complete : goal.returns-then-complete
unfolding closing
returns-then-complete c = rw (c.if-complete.true, ← c.from.ensures) (c.put_number.ensures and c.put.ensures)

pub returns-else-complete : goal.returns-else-complete
unfolding closing
returns-else-complete c = rw (c.if-complete.false, ← c.from.ensures) (c.put_number.ensures and c.put-else-complete.ensures)
