use Rattle.std.proofs.Common.{drop}
use Rattle.decimal.specs.Puts.{Left}
use Rattle.write_text.specs.WriteLaws.{listed_by}
use Rattle.write_text.proofs.put_list.Given as goal

abbrev pub invariant-loop-x : goal.invariant-loop-x
invariant-loop-x g l = Left l.initial.page (listed_by g.T.Shown.text l.xs) l.page (listed_by g.T.Shown.text (drop l.x-index l.xs))
