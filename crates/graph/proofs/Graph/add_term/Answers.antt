use Rattle.std.proofs.Common.{arith, ◌+◌, ◌*◌, ◌<◌, ◌≤◌, nat_abs, sym, ap, ◌∙◌, subst}
use Rattle.whole.specs.Ints.{rd}
use Rattle.rules.specs.Graph as rule
use Rattle.rules.specs.Objective.{weight_of}
use Rattle.graph.proofs.Graph.add_term.Goals as goal
use Rattle.graph.proofs.Graph.add_term.Goals.{After-self}

-- what is asked, of the fields
module _ (c : After-self) where
  asked : (c.args.i < c.self.inside.n) × (c.args.j < c.self.inside.n) × (weight_of c.self.inside.linear + weight_of c.self.inside.edges + 2 * nat_abs c.args.w ≤ 2199023255552)
  asked =
      subst (λ (x : rule.Graph). (c.args.i < x.n) × (c.args.j < x.n) × (weight_of x.linear + weight_of x.edges + 2 * nat_abs c.args.w ≤ 2199023255552)) (sym c.self.view_is) c.requires

pub add_term-requires : goal.add_term-requires
add_term-requires c =
    let q = asked (goal.at.add_term-requires c).After-self in
    rw (rd c.ranges.w) (omega (arith, q.0, c.self.invariant.0), omega (arith, q.1, c.self.invariant.0), q.2)

pub invariant_of-self : goal.invariant_of-self
invariant_of-self c =
    let q = asked (goal.at.invariant_of-self c).After-self in
    (c.self.invariant.0, c.add_term.ensures.2 c.self.inside.n q.0 q.1 c.self.invariant.1)

pub returns : goal.returns
returns c =
    let a = c.args in
    let g = c.self.inside in
    let e = rw (rd c.ranges.w) at c.add_term.ensures in (
      e.0 g.n g.constant g.states ∙ ap (rule.add_term a.i a.j a.w) c.self.view_is,
      subst (λ (x : rule.Graph). weight_of c.add_term.new.lin + weight_of c.add_term.new.edges ≤ weight_of x.linear + weight_of x.edges + 2 * nat_abs a.w) c.self.view_is e.1,
    )
