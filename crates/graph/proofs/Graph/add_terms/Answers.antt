use Rattle.std.proofs.Common.{arith, ◌+◌, ◌*◌, ◌≤◌, sym, ap, ◌∙◌, subst}
use Rattle.rules.specs.Graph as rule
use Rattle.rules.specs.Objective.{weight_of}
use Rattle.graph.proofs.Adding.{AllBelow}
use Rattle.graph.proofs.Graph.add_terms.Goals as goal
use Rattle.graph.proofs.Graph.add_terms.Goals.{After-self}

-- what is asked, of the fields
module _ (c : After-self) where
  asked : AllBelow c.self.inside.n c.args.o.firsts.now × AllBelow c.self.inside.n c.args.o.seconds.now
      × (weight_of c.self.inside.linear + weight_of c.self.inside.edges + 2 * weight_of c.args.o.term_weights.now ≤ 2199023255552)
  asked =
      subst (λ (x : rule.Graph). AllBelow x.n c.args.o.firsts.now × AllBelow x.n c.args.o.seconds.now × (weight_of x.linear + weight_of x.edges + 2 * weight_of c.args.o.term_weights.now ≤ 2199023255552))
      (sym c.self.view_is) c.requires

pub add_terms-requires : goal.add_terms-requires
add_terms-requires c =
    let q = asked (goal.at.add_terms-requires c).After-self in
    (λ k h. omega (arith, q.0 k h, c.self.invariant.0), λ k h. omega (arith, q.1 k h, c.self.invariant.0), q.2)

pub invariant_of-self : goal.invariant_of-self
invariant_of-self c =
    let q = asked (goal.at.invariant_of-self c).After-self in
    (c.self.invariant.0, c.add_terms.ensures.2 c.self.inside.n q.0 q.1 c.self.invariant.1)

pub returns : goal.returns
returns c =
    let o = c.args.o in
    let g = c.self.inside in
    let e = c.add_terms.ensures in
    (e.0 g.n g.constant g.states ∙ ap (rule.add_terms o.firsts.now o.seconds.now o.term_weights.now) c.self.view_is, e.1)
