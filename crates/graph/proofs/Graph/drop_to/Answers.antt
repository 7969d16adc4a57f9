use Rattle.std.proofs.Common.{List, ℤ, pos, set, ap, ◌∙◌}
use Rattle.rules.specs.Graph as rule
use Rattle.graph.proofs.Graph.drop_to.Goals as goal

pub invariant_of-self : goal.invariant_of-self
invariant_of-self c =
    let g = c.self.inside in
    (c.self.invariant.0, (c.wipe.ensures g.n c.self.invariant.0 c.self.invariant.1).1)

pub returns : goal.returns
unfolding rule.drop_to
returns c =
    let g = c.self.inside in
    ap (λ (e : List ℤ). rule.graph g.n g.constant (set g.linear c.args.i (pos 0)) e (set g.states c.args.i c.args.s)) (c.wipe.ensures g.n c.self.invariant.0 c.self.invariant.1).0 ∙ ap (rule.drop_to c.args.s c.args.i) c.self.view_is
