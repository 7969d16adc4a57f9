-- Of every objective that is not refused: the graph that is built has its cost, and the graph that the run starts from has its cost at the plan with the fixings put in.
-- Assumes nothing.
use Rattle.std.specs.Prelude.{◌≡◌, Bool, ℕ, ◌≤◌, length, ℤ, ◌+ℤ◌}
use Rattle.std.proofs.Math.Path.{ap}
use Rattle.std.proofs.Common.{◌∙◌, arith}
use Rattle.rules.specs.Objective.{Objective}
use Rattle.rules.specs.Graph.{bare, graph_of}
use Rattle.rules.specs.Fixing.{start}
use Rattle.cost_laws.specs.CostLaws.{cost, Shaped}
use Rattle.accepted_laws.specs.Accept.{Fit}
use Rattle.objective_laws.specs.ObjectiveCost.{terms_cost, cost_of_objective, with_fixings, Keeps}
use Rattle.objective_laws.specs.BuildLaws.{TermsAdded, terms_added, shaped_bare, bare_cost}
use Rattle.objective_laws.specs.FixLaws.{fixed_n, fixed_shaped}
use Rattle.objective_laws.proofs.FixedCost.{fixed_cost, kept_cost}

module _ (o : Objective) (fit : Fit o) where
  added : TermsAdded o.firsts o.seconds o.term_weights (bare o) (graph_of o)
  unfolding graph_of bare
  added = terms_added o.firsts o.seconds o.term_weights (bare o) (shaped_bare o fit.small fit.weights) fit.first_below fit.second_below

  pub graph_n : (graph_of o).n ≡ o.n
  unfolding bare
  graph_n = added.same_n

  pub graph_shaped : Shaped (graph_of o)
  graph_shaped = added.shaped

  -- "repeats added up. ... A term with i = j adds to a of i": "Cost is the sum of a·x and w·x·x."
  pub graph_cost : (x : ℕ → Bool) → cost (graph_of o) x ≡ cost_of_objective o x
  unfolding cost_of_objective
  graph_cost x = added.costs x ∙ ap (λ (z : ℤ). z +ℤ terms_cost o.firsts o.seconds o.term_weights x) (bare_cost o fit.small fit.weights x)

  enough : length o.fixings ≤ (graph_of o).n
  enough = omega (arith, fit.fixings, graph_n)

  pub start_n : (start o).n ≡ o.n
  unfolding start
  start_n = fixed_n o.fixings (graph_of o) graph_shaped enough ∙ graph_n

  pub start_shaped : Shaped (start o)
  unfolding start
  start_shaped = fixed_shaped o.fixings (graph_of o) graph_shaped enough

  -- "Fix first": the cost of every plan is the objective's at the plan with the fixings put in
  pub start_cost : (x : ℕ → Bool) → cost (start o) x ≡ cost_of_objective o (with_fixings o.fixings x)
  unfolding start
  start_cost x = fixed_cost o.fixings (graph_of o) graph_shaped enough x ∙ graph_cost (with_fixings o.fixings x)

  -- so that of a plan that keeps the fixings is the objective's
  pub start_cost_kept : (x : ℕ → Bool) → Keeps o.fixings x → cost (start o) x ≡ cost_of_objective o x
  unfolding start
  start_cost_kept x keeps = kept_cost o.fixings (graph_of o) graph_shaped enough x keeps ∙ graph_cost x
