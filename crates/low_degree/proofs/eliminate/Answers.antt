use Rattle.std.proofs.Common.{◌≤◌, ◌^◌, refl, sym, ap, ◌∙◌, arith}
use Rattle.std.proofs.Math.Path.{subst}
use Rattle.whole.specs.Members.{apart_wider}
use Rattle.accepted_laws.specs.Small.{Small, small_more}
use Rattle.size_laws.specs.SumSizes.{tees_three}
use Rattle.graph.specs.Small.{dropped_within}
use Rattle.graph.specs.UpdatesLaws.{dropped_n}
use Rattle.low_degree.specs.Table.{step_from}
use Rattle.low_degree.specs.TableLaws.{degree_few, table_asks, table_gives, step_table}
use Rattle.low_degree.proofs.Laws.{pair_apart, pair_short, eliminated}
use Rattle.low_degree.proofs.eliminate.Goals as goal

pub table_of-requires : goal.table_of-requires
table_of-requires c =
    let a = c.args in
    let s = c.requires in
    rw c.linear.ensures (table_asks a.g.now a.i a.near s.2 (omega (arith, s.3)) s.1)

pub absorb-requires : goal.absorb-requires
absorb-requires c =
    let a = c.args in
    let s = c.requires in
    let g = a.g.now in
    let few : a.near.count ≤ 3 = omega (arith, s.3) in
    let table = table_gives g a.i a.near s.2 few s.1 c.table_of.result (rw c.linear.ensures at c.table_of.ensures) in
    let d = c.drop_to.new.self in
    rw (c.from.ensures, c.from-2.ensures) (
      apart_wider c.known.ensures.small (pair_apart g a.i a.near s.2 s.3 g.n refl),
      pair_short g a.i a.near s.2 s.3,
      dropped_within 3 a.i g d c.drop_to.ensures s.1,
      subst (Small (2 ^ 50)) (sym table.1) (small_more (2 ^ 50) (tees_three g s.1 a.i (degree_few g a.i a.near s.2 few)) (omega arith)),
      λ two. pair_apart g a.i a.near s.2 s.3 d.n (dropped_n 3 a.i g d c.drop_to.ensures),
    )

pub returns : goal.returns
returns c =
    let a = c.args in
    let s = c.requires in
    let g = a.g.now in
    let few : a.near.count ≤ 3 = omega (arith, s.3) in
    let table = table_gives g a.i a.near s.2 few s.1 c.table_of.result (rw c.linear.ensures at c.table_of.ensures) in (
      eliminated g a.i a.near s.2 s.3 c.drop_to.new.self c.absorb.new.g c.table_of.result.tees table.1 c.drop_to.ensures (rw (c.from.ensures, c.from-2.ensures) at c.absorb.ensures),
      c.step_of.ensures ∙ ap (step_from a.i a.near) table.0 ∙ step_table g a.i a.near s.2 few,
    )
