-- The size rule: an objective's cost lies in a range of at most 2^40, and so does that of whatever is taken from it.
-- Assumes nothing.
use Rattle.std.specs.Prelude.{◌≡◌, refl, Bool, true, false, List, [], ◌∷◌, ℕ, suc, ◌+◌, ℤ, pos, ◌+ℤ◌}
use Rattle.std.proofs.Common.{sym, subst, arith}
use Rattle.whole.specs.Parts.{plus_part, minus_part, nat_abs_parts}
use Rattle.whole.specs.Ints.{ints}
use Rattle.rules.specs.Objective.{Objective, weight_of}
use Rattle.rules.specs.Graph.{Graph}
use Rattle.rules.specs.Fixing.{start}
use Rattle.cost_laws.specs.Cost.{when}
use Rattle.accepted_laws.specs.Accept.{Fit}
use Rattle.objective_laws.specs.ObjectiveCost.{linear_cost, terms_cost, cost_of_objective, with_fixings}
use Rattle.objective_laws.proofs.Theorems.{start_cost}
use Rattle.size_laws.specs.Values.{up, down, Between, Narrow, TakenFrom}

-- ---- the objective's own range
pub between_add : {n p m q : ℕ} {a b : ℤ} → Between n p a → Between m q b → Between (n + m) (p + q) (a +ℤ b)
between_add {n} {p} {m} {q} {a} {b} h k = record {
  low = simp ints (omega (arith, simp ints at h.low, simp ints at k.low));
  high = simp ints (omega (arith, simp ints at h.high, simp ints at k.high));
}

-- w·x is between the negative and the positive part of w
between_when : (t : Bool) (w : ℤ) → Between (minus_part w) (plus_part w) (when t w)
between_when true w = record { low = simp ints (omega arith); high = simp ints (omega arith) }
between_when false w = record { low = simp ints (omega arith); high = simp ints (omega arith) }

between_pair : (s t : Bool) (w : ℤ) → Between (minus_part w) (plus_part w) (when s (when t w))
between_pair true t w = between_when t w
between_pair false t w = between_when false w

between_none : (n p : ℕ) → Between n p (pos 0)
between_none n p = record { low = simp ints (omega arith); high = simp ints (omega arith) }

linear_between : (i : ℕ) (ws : List ℤ) (x : ℕ → Bool) → Between (down ws) (up ws) (linear_cost i ws x)
unfolding linear_cost up down
linear_between i [] x = between_none 0 0
linear_between i (w ∷ ws) x = between_add (between_when (x i) w) (linear_between (suc i) ws x)

terms_between : (is js : List ℕ) (ws : List ℤ) (x : ℕ → Bool) → Between (down ws) (up ws) (terms_cost is js ws x)
unfolding terms_cost up down
terms_between [] js ws x = between_none (down ws) (up ws)
terms_between (i ∷ is) [] ws x = between_none (down ws) (up ws)
terms_between (i ∷ is) (j ∷ js) [] x = between_none 0 0
terms_between (i ∷ is) (j ∷ js) (w ∷ ws) x = between_add (between_pair (x i) (x j) w) (terms_between is js ws x)

-- the two parts are the whole weight
pub parts_whole : (ws : List ℤ) → down ws + up ws ≡ weight_of ws
unfolding up down weight_of
parts_whole [] = refl
parts_whole (w ∷ ws) = omega (arith, nat_abs_parts w, parts_whole ws)

-- minus_part and plus_part of an objective: its cost lies in [−N, plus_part] at every plan
pub objective_between : (o : Objective) (x : ℕ → Bool) → Between (down o.weights + down o.term_weights) (up o.weights + up o.term_weights) (cost_of_objective o x)
unfolding cost_of_objective
objective_between o x = between_add (linear_between 0 o.weights x) (terms_between o.firsts o.seconds o.term_weights x)

pub start_narrow : (o : Objective) → Fit o → Narrow (start o)
start_narrow o fit = record {
  below = down o.weights + down o.term_weights;
  above = up o.weights + up o.term_weights;
  range = omega (arith, fit.light, parts_whole o.weights, parts_whole o.term_weights);
  values = λ x. subst (Between (down o.weights + down o.term_weights) (up o.weights + up o.term_weights)) (sym (start_cost o fit x))
      (objective_between o (with_fixings o.fixings x));
}

-- "the reduced cost only takes values the original takes"
pub taken_narrow : {g g' : Graph} → TakenFrom g g' → Narrow g → Narrow g'
taken_narrow t w = record {
  below = w.below;
  above = w.above;
  range = w.range;
  values = λ x. subst (Between w.below w.above) (sym (t.same x)) (w.values (t.plan x));
}
