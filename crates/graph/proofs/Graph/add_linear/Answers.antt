use Rattle.std.specs.Int.{w64}
use Rattle.std.proofs.Common.{SFits, ℤ, ◌+ℤ◌, List, sym, ap, ◌∙◌, subst}
use Rattle.whole.specs.Ints.{rd}
use Rattle.rules.specs.Graph as rule
use Rattle.graph.proofs.Graph.add_linear.Goals as goal

pub add_linear-requires : goal.add_linear-requires
add_linear-requires c =
    rw (rd c.ranges.v) (c.requires.0, subst (λ (x : rule.Graph). SFits w64 (rule.lin x c.args.k +ℤ c.args.v)) (sym c.self.view_is) c.requires.1)

pub returns : goal.returns
unfolding rule.add_linear
returns c =
    let g = c.self.inside in
    ap (λ (l : List ℤ). rule.graph g.n g.constant l g.edges g.states) (c.add_linear.ensures ∙ rw (rd c.ranges.v)) ∙ ap (rule.add_linear c.args.k c.args.v) c.self.view_is
