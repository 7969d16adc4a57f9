use Rattle.std.proofs.Common.{ap, ◌∙◌}
use Rattle.rules.specs.Graph.{Graph, neighbours}
use Rattle.graph.specs.ShowsLaws.{shown_neighbours}
use Rattle.graph.proofs.Graph.mask.Goals as goal

pub returns : goal.returns
returns c =
    let g = c.self.inside in
    shown_neighbours g.n g.edges g.masks c.self.invariant.1 c.self.invariant.0 g.constant g.linear g.states c.args.i c.requires
    ∙ ap (λ (g : Graph). neighbours g c.args.i) c.self.view_is
