use Rattle.std.proofs.Common.{rules}
use mathlib.Core.Bool.{and_assoc, and-true}
use Rattle.std.proofs.lemmas.Iterator.{YieldsList-from_slice}
use Rattle.std.proofs.lemmas.Iterator.Search.{all_from_yields_List}
use Rattle.whole.specs.Words.{all}
use Rattle.rules.specs.Record.{is_none}
use Rattle.broken.proofs.unused.Goals as goal

pub returns : goal.returns
unfolding all
returns c = all_from_yields_List is_none _ _ _ c.all.ensures.ran (YieldsList-from_slice c.args.steps.now cc) (λ x b q k. search (rules, and-true, and_assoc))
