use Rattle.std.specs.Int.{w64}
use Rattle.std.proofs.Common.{SFits, rules, ℤ, ◌+ℤ◌, sym, ap, ◌∙◌, subst}
use Rattle.whole.specs.Ints.{rd}
use Rattle.rules.specs.Graph as rule
use Rattle.graph.proofs.Graph.add_constant.Goals as goal

pub returns : goal.returns
unfolding rule.add_constant
returns c =
    let g = c.self.inside in
    let v = c.args.v in
    let held : SFits w64 g.constant = search rules in
    let sum : SFits w64 (g.constant +ℤ v) = subst (λ (x : rule.Graph). SFits w64 (x.constant +ℤ v)) (sym c.self.view_is) c.requires in
    ap (λ (z : ℤ). rule.graph g.n z g.linear g.edges g.states) (rw (rd held, rd c.ranges.v) (rd sum)) ∙ ap (rule.add_constant v) c.self.view_is
