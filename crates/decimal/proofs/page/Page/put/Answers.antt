use Rattle.std.proofs.Common.{refl}
use Rattle.decimal.specs.Puts.{stored}
use Rattle.decimal.proofs.page.Page.put.Goals as goal

pub returns : goal.returns
returns c =
    let p = c.args.self.now in
    record { wrote = rw c.copy_from_slice.ensures.after (stored p.out.now p.at c.args.s.now c.requires); same = refl }
