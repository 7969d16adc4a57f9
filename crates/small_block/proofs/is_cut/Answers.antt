use Rattle.std.proofs.Common.{sym, ap, ◌∙◌}
use Rattle.whole.specs.Words.{mem}
use Rattle.whole.specs.Members.{in_head}
use Rattle.whole.specs.Walks.{item_below}
use Rattle.small_block.specs.Aside.{with_same}
use Rattle.small_block.specs.Cutting.{cut_same, cut_none, cut_first, less_removed, around_free}
use Rattle.small_block.proofs.is_cut.Goals as goal

pub returns-then-has : goal.returns-then-has
returns-then-has c = cut_same c.args.near.now c.args.removed c.args.c c.requires.0 c.requires.1 (sym c.if-has.ensures)

pub falls_apart-requires : goal.falls_apart-requires
falls_apart-requires c =
    let a = c.args in
    let around = c.without-around.result in
    let u = c.in-Some.u in
    let free = around_free a.near.now a.removed a.c c.requires.0 c.requires.1 around (less_removed a.near.now a.removed a.c c.requires.0 c.requires.1 around c.without-around.ensures)
    _ (with_same a.c a.removed c.single.result c.requires.1 c.single.ensures) in
    (c.requires.0, item_below _ _ _ c.in-Some.ensures.steps, free u (ap (mem u) c.in-Some.ensures.steps ∙ in_head u _), free)

pub returns-in-Some : goal.returns-in-Some
returns-in-Some c =
    let a = c.args in
    let around = c.without-around.result in
    cut_first a.near.now a.removed a.c c.requires.0 c.requires.1 around (less_removed a.near.now a.removed a.c c.requires.0 c.requires.1 around c.without-around.ensures)
    _ (with_same a.c a.removed c.single.result c.requires.1 c.single.ensures) c.in-Some.u _ c.in-Some.ensures.steps (sym c.if-has.ensures) c.falls_apart.result c.falls_apart.ensures

pub returns-in-None : goal.returns-in-None
returns-in-None c =
    let a = c.args in
    let around = c.without-around.result in
    cut_none a.near.now a.removed a.c c.requires.0 c.requires.1 around (less_removed a.near.now a.removed a.c c.requires.0 c.requires.1 around c.without-around.ensures) c.in-None.ensures.steps.0
