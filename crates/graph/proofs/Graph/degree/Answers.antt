use Rattle.std.proofs.Common.{length, ap, ◌∙◌}
use Rattle.rules.specs.Graph.{Graph, neighbours}
use Rattle.graph.specs.MaskLaws.{ones_these}
use Rattle.graph.specs.ShowsLaws.{shown_neighbours}
use Rattle.graph.proofs.Graph.degree.Goals as goal

pub returns : goal.returns
returns c =
    let g = c.self.inside in
    ones_these _ (c.self.invariant.1.fits c.args.i)
    ∙ ap length (shown_neighbours g.n g.edges g.masks c.self.invariant.1 c.self.invariant.0 g.constant g.linear g.states c.args.i c.requires)
    ∙ ap (λ (g : Graph). length (neighbours g c.args.i)) c.self.view_is
