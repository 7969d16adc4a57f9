-- The graph of an objective before its terms.
use Rattle.std.proofs.Common.{◌≡◌, ap, ◌∙◌, arith, List, ◌++◌, drop, replicate, ℕ, ◌+◌, ◌*◌, ◌-◌, ◌≤◌, ℤ, pos, nat_abs}
use Rattle.whole.specs.Lists.{drop_replicate}
use Rattle.rules.specs.Graph.{Graph, graph, bare, add_terms, no_edges}
use Rattle.rules.specs.Objective.{Objective, weight_of}
use Rattle.accepted_laws.specs.Accept.{Fit}
use Rattle.accepted_laws.specs.Mass.{mass, weight_append, weight_zeros}
use Rattle.graph.proofs.Adding.{terms_constant}

module _ (o : Objective) where
  pub bare_is : (l : List ℤ) (ss : List ℕ) → l ≡ o.weights ++ drop o.n (replicate 64 (pos 0)) → ss ≡ replicate o.n 2 ++ drop o.n (replicate 64 0) → o.n ≤ 64
      → graph o.n (pos 0) l no_edges ss ≡ bare o
  unfolding bare
  bare_is l ss p q h = rw (p, q, drop_replicate o.n 64 (pos 0) h, drop_replicate {A = ℕ} o.n 64 0 h)

  pub bare_light : Fit o → mass (bare o) + 2 * weight_of o.term_weights ≤ 2199023255552
  unfolding bare no_edges
  bare_light f = omega (arith, weight_append o.weights (replicate (64 - o.n) (pos 0)), weight_zeros (64 - o.n), weight_zeros 4096, f.light)

  -- what adding its terms asks, and what that gives: the constant is 0 yet
  pub bare_sums : Fit o → weight_of (bare o).linear + weight_of (bare o).edges + 2 * weight_of o.term_weights ≤ 2199023255552
  bare_sums f = omega (arith, bare_light f)

  pub termed_mass : (g : Graph) → g ≡ add_terms o.firsts o.seconds o.term_weights (bare o) → weight_of g.linear + weight_of g.edges ≤ 2199023255552 → mass g ≤ 2199023255552
  unfolding bare
  termed_mass g e h = omega (arith, h, ap (λ (x : Graph). nat_abs x.constant) e ∙ ap nat_abs (terms_constant o.firsts o.seconds o.term_weights (bare o)))

  -- once the weights are copied and the states are filled in
  pub begun_light : (l : List ℤ) (ss : List ℕ) → l ≡ o.weights ++ drop o.n (replicate 64 (pos 0)) → ss ≡ replicate o.n 2 ++ drop o.n (replicate 64 0) → Fit o
      → mass (graph o.n (pos 0) l no_edges ss) + 2 * weight_of o.term_weights ≤ 2199023255552
  begun_light l ss p q f = omega (arith, ap mass (bare_is l ss p q f.small), bare_light f)
