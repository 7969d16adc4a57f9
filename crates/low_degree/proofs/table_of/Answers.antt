use Rattle.std.proofs.Common.{◌≡◌, ap, ◌∙◌, ℤ}
use Rattle.whole.specs.Ints.{rd}
use Rattle.whole.specs.Words.{tab}
use Rattle.rules.specs.Eliminate.{delta}
use Rattle.low_degree.specs.Table.{deltas_of, tees_of}
use Rattle.low_degree.specs.TableLaws.{deltas_table, tees_table}
use Rattle.low_degree.proofs.table_of.Goals as goal

pub returns : goal.returns
returns c = λ g i w is.
    let near = c.args.near in
    let few = c.requires.2 in
    let made : c.deltas-deltas.result ≡ tab (delta g i) 8 = c.deltas-deltas.ensures ∙ ap (λ (z : ℤ). deltas_of z near.weights) (rd c.ranges.a ∙ w) ∙ deltas_table g i near is few in
    (made, c.tees.ensures ∙ ap tees_of made ∙ tees_table g i near is few)
