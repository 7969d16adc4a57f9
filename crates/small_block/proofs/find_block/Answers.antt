use Rattle.std.proofs.Common.{rules, ltb, ◌&&◌, ◌∙◌}
use Rattle.rules.specs.Graph.{active}
use Rattle.small_block.specs.Tables.{active_shown, network_of, search_of}
use Rattle.small_block.proofs.find_block.Goals as goal

pub search-requires : goal.search-requires
search-requires c = network_of c.args.g.now c.known.ensures.small c.masks.ensures c.requires

pub returns : goal.returns
returns c =
    let g = c.args.g.now in
    let few = c.known.ensures.small in
    c.search.ensures ∙ search_of g few c.masks.ensures _ (active_shown g few _ (c.those-active.ensures (λ k. ltb k g.n && active g k) (λ k b l h. search rules)))
