use Rattle.std.specs.Int.{w64}
use Rattle.std.proofs.Common.{SFits, arith, ◌+◌, ◌*◌, ◌<◌, ℤ, pos, ◌+ℤ◌, get_or, List, sym, ap, ◌∙◌, subst}
use Rattle.whole.specs.Ints.{rd}
use Rattle.rules.specs.Graph as rule
use Rattle.graph.proofs.Graph.add_edge.Goals as goal
use Rattle.graph.proofs.Graph.add_edge.Goals.{After-self}

-- what is asked, of the fields
module _ (c : After-self) where
  k_in : c.args.k < c.self.inside.n
  k_in = subst (λ (x : rule.Graph). c.args.k < x.n) (sym c.self.view_is) c.requires.0

  l_in : c.args.l < c.self.inside.n
  l_in = subst (λ (x : rule.Graph). c.args.l < x.n) (sym c.self.view_is) c.requires.1

pub add_edge-requires : goal.add_edge-requires
add_edge-requires c =
    let s = (goal.at.add_edge-requires c).After-self in
    let g = c.self.inside in
    let k = c.args.k in
    let l = c.args.l in
    let hk : k < 64 = omega (arith, k_in s, c.self.invariant.0) in
    let hl : l < 64 = omega (arith, l_in s, c.self.invariant.0) in
    let fits : SFits w64 (get_or g.edges (64 * k + l) (pos 0) +ℤ c.args.v) = subst (λ (x : rule.Graph). SFits w64 (rule.edge x k l +ℤ c.args.v)) (sym c.self.view_is) c.requires.2 in
    rw (rd c.ranges.v) (hk, hl, fits, subst (λ (z : ℤ). SFits w64 (z +ℤ c.args.v)) (c.self.invariant.1.both k l hk hl) fits)

pub invariant_of-self : goal.invariant_of-self
invariant_of-self c =
    let s = (goal.at.invariant_of-self c).After-self in
    (c.self.invariant.0, c.add_edge.ensures.1 c.self.inside.n (k_in s) (l_in s) c.self.invariant.1)

pub returns : goal.returns
unfolding rule.add_edge
returns c =
    let g = c.self.inside in
    ap (λ (e : List ℤ). rule.graph g.n g.constant g.linear e g.states) (c.add_edge.ensures.0 ∙ rw (rd c.ranges.v)) ∙ ap (rule.add_edge c.args.k c.args.l c.args.v) c.self.view_is
