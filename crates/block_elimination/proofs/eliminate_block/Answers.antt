use Rattle.std.proofs.Common.{◌≡◌, ◌++◌, List, ℤ, pos, get_or, map, sym, ap, ◌∙◌, subst, arith}
use Rattle.whole.specs.Members.{apart_wider}
use Rattle.rules.specs.Eliminate as rule
use Rattle.rules.specs.Record.{hold}
use Rattle.rules.specs.SmallBlock.{boundary}
use Rattle.rules.specs.Size.{Within}
use Rattle.rules.specs.Graph.{Graph}
use Rattle.accepted_laws.specs.Small.{Small}
use Rattle.block_elimination.specs.BlockLaws.{members_listed, near_narrow, near_listed, near_apart, within_drop_all, drop_all_n, weights_within, lowest_of_weights, table_small, steps_are, block_left}
use Rattle.block_elimination.proofs.eliminate_block.Goals as goal

pub boundary_of-around-requires : goal.boundary_of-around-requires
boundary_of-around-requires c = (members_listed c.args.g.now c.known.ensures.small c.args.members.now c.requires.1).low

pub minima-won-requires : goal.minima-won-requires
minima-won-requires c =
    let g = c.args.g.now in
    let few = c.known.ensures.small in
    let b = c.args.members.now in
    let near = c.as_slice-outside.result.now in
    let is : near ≡ boundary g b = c.as_slice-outside.ensures ∙ c.boundary_of-around.ensures in
    (weights_within g c.weights.result.now c.edges.result.now c.weights.ensures c.edges.ensures c.requires.0, members_listed g few b c.requires.1, near_listed g few b c.requires.1 near is, near_narrow g few b c.requires.1 near is)

pub block_steps-requires : goal.block_steps-requires
block_steps-requires c =
    let g = c.args.g.now in
    let few = c.known.ensures.small in
    let b = c.args.members.now in
    let near = c.as_slice-outside.result.now in
    let is : near ≡ boundary g b = c.as_slice-outside.ensures ∙ c.boundary_of-around.ensures in
    (members_listed g few b c.requires.1, near_listed g few b c.requires.1 near is, near_narrow g few b c.requires.1 near is, c.requires.2)

pub drop_all-requires : goal.drop_all-requires
drop_all-requires c = members_listed c.args.g.now c.known.ensures.small c.args.members.now c.requires.1

pub absorb-requires : goal.absorb-requires
absorb-requires c =
    let g = c.args.g.now in
    let few = c.known.ensures.small in
    let b = c.args.members.now in
    let near = c.as_slice-outside.result.now in
    let is : near ≡ boundary g b = c.as_slice-outside.ensures ∙ c.boundary_of-around.ensures in
    let h = c.drop_all.new.g in
    let inside = near_apart g few b c.requires.1 near is h c.drop_all.ensures in (
      apart_wider (omega (arith, few, ap (λ (x : Graph). x.n) c.drop_all.ensures, drop_all_n b g)) inside,
      near_narrow g few b c.requires.1 near is,
      subst (λ (x : Graph). Within x) (sym c.drop_all.ensures) (within_drop_all b g c.requires.0),
      subst (λ (t : List ℤ). Small 1125899906842624 t) (sym c.table.ensures) (table_small _ _ _ c.minima-won.result c.minima-won.ensures),
      λ two. inside,
    )

pub returns : goal.returns
returns c =
    let g = c.args.g.now in
    let few = c.known.ensures.small in
    let b = c.args.members.now in
    let near = c.as_slice-outside.result.now in
    let is : near ≡ boundary g b = c.as_slice-outside.ensures ∙ c.boundary_of-around.ensures in
    let narrow = near_narrow g few b c.requires.1 near is in
    let won = c.minima-won in
    let lowest = lowest_of_weights g c.weights.result.now c.edges.result.now c.weights.ensures c.edges.ensures near b _ _ won.result won.ensures in (
      block_left g b near is narrow won.result lowest c.drop_all.new.g c.absorb.new.g c.drop_all.ensures
          (c.absorb.ensures ∙ ap (λ (t : List ℤ). rule.absorb (λ m. get_or t m (pos 0)) near c.drop_all.new.g) c.table.ensures),
      c.block_steps.ensures ∙ ap (λ (ss : List rule.Step). c.args.steps.now ++ map hold ss) (steps_are g b near is narrow won.result lowest),
    )
