use Rattle.decimal.specs.Puts.{◌and◌}
use Rattle.decimal.proofs.page.Page.put_number.Goals as goal

pub returns : goal.returns
returns g c = (c.put.ensures and c.show.ensures)
