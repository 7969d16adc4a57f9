-- The graph that is built has the objective's cost, and is shaped as every graph of a run is.
-- Assumes nothing.
use Rattle.std.specs.Prelude.{◌≡◌, refl, Bool, true, false, cond, List, [], ◌∷◌, ◌++◌, ◌≢◌, ℕ, zero, suc, ◌+◌, ◌*◌, ◌-◌, ◌<◌, ◌≤◌, eqb, length, get_or, replicate, ℤ, pos, ◌+ℤ◌}
use Rattle.std.proofs.Math.Path.{sym, ap, ap₂}
use Rattle.std.proofs.Common.{◌∙◌, arith, add-zero, zero-add, length-append, eqb-true}
use Rattle.std.proofs.Math.ListN.{length-replicate, get_or-replicate, get_or-append}
use Rattle.std.proofs.Math.IntN.{+ℤ_assoc, +ℤ_idl, +ℤ_idr}
use Rattle.std.proofs.lemmas.Bool.{eqb-false}
use Rattle.rules.specs.Objective.{Objective}
use Rattle.rules.specs.Graph.{Graph, lin, edge, add_linear, add_edge, add_term, add_terms, no_edges, bare}
use Rattle.whole.specs.Sum.{Σ<, Σ_cong}
use Rattle.whole.specs.Counts.{shift}
use Rattle.cost_laws.specs.Cost.{when, chosen_zero, row_cost, cost_of}
use Rattle.cost_laws.specs.CostLaws.{cost, Shaped, lin_cost, edge_cost}
use Rattle.cost_laws.specs.AbsorbLaws.{shaped_lin, shaped_edge}
use Rattle.objective_laws.specs.ObjectiveCost.{linear_cost, terms_cost}

-- ---- a·x for x of 0 or 1
-- ---- sums taken from the front
pub sum_front : (f : ℕ → ℤ) (n : ℕ) → Σ< (suc n) f ≡ f 0 +ℤ Σ< n (λ i. f (suc i))
unfolding Σ<
sum_front f zero = +ℤ_idl (f 0) ∙ sym (+ℤ_idr (f 0))
sum_front f (suc n) = ap (λ (z : ℤ). z +ℤ f (suc n)) (sum_front f n) ∙ +ℤ_assoc (f 0) (Σ< n (λ i. f (suc i))) (f (suc n))

linear_sum : (i : ℕ) (ws : List ℤ) (x : ℕ → Bool) → Σ< (length ws) (λ k. when (x (i + k)) (get_or ws k (pos 0))) ≡ linear_cost i ws x
unfolding Σ< linear_cost
linear_sum i [] x = refl
linear_sum i (a ∷ ws) x =
    sum_front (λ k. when (x (i + k)) (get_or (a ∷ ws) k (pos 0))) (length ws)
    ∙ ap₂ (λ (u v : ℤ). u +ℤ v) (ap (λ (k : ℕ). when (x k) a) (add-zero i))
    (Σ_cong (length ws) (λ k. when (x (i + suc k)) (get_or ws k (pos 0))) (λ k. when (x (suc i + k)) (get_or ws k (pos 0)))
    (λ k l. ap (λ (m : ℕ). when (x m) (get_or ws k (pos 0))) (sym (shift i k)))
    ∙ linear_sum (suc i) ws x)

-- ---- no term yet
-- a list n long, filled up to 64
padded : {A : Type 0} (xs : List A) (a : A) (n : ℕ) → n ≤ 64 → length xs ≡ n → length (xs ++ replicate (64 - n) a) ≡ 64
padded xs a n h e = omega (arith, length-append xs (replicate (64 - n) a), length-replicate (64 - n) a)

module _ (o : Objective) (few : o.n ≤ 64) (long : length o.weights ≡ o.n) where
  bare_edge : (i j : ℕ) → i < 64 → j < 64 → edge (bare o) i j ≡ pos 0
  unfolding bare no_edges
  bare_edge i j li lj = get_or-replicate 4096 (64 * i + j) (pos 0) (pos 0) (omega arith)

  bare_lin : (i : ℕ) → i < o.n → lin (bare o) i ≡ get_or o.weights i (pos 0)
  unfolding bare
  bare_lin i l = get_or-append o.weights (replicate (64 - o.n) (pos 0)) (pos 0) i (omega arith)

  pub shaped_bare : Shaped (bare o)
  unfolding bare no_edges
  shaped_bare = record {
    few = few;
    linear_long = padded o.weights (pos 0) o.n few long;
    edges_long = length-replicate 4096 (pos 0);
    states_long = padded {A = ℕ} (replicate o.n 2) 0 o.n few (length-replicate {A = ℕ} o.n 2);
    both = λ i j li lj. bare_edge i j (omega arith) (omega arith) ∙ sym (bare_edge j i (omega arith) (omega arith));
    self = λ i li. bare_edge i i (omega arith) (omega arith);
  }

  pub bare_cost : (x : ℕ → Bool) → cost (bare o) x ≡ linear_cost 0 o.weights x
  unfolding cost_of bare
  bare_cost x =
      +ℤ_idl (Σ< o.n (row_cost (lin (bare o)) (edge (bare o)) x))
      ∙ Σ_cong o.n (row_cost (lin (bare o)) (edge (bare o)) x) (λ k. when (x (0 + k)) (get_or o.weights k (pos 0))) rows
      ∙ ap (λ (m : ℕ). Σ< m (λ k. when (x (0 + k)) (get_or o.weights k (pos 0)))) (sym long) ∙ linear_sum 0 o.weights x
    where
      rows : (k : ℕ) → k < o.n → row_cost (lin (bare o)) (edge (bare o)) x k ≡ when (x (0 + k)) (get_or o.weights k (pos 0))
      rows k l =
          ap₂ (λ (u v : ℤ). when (x k) (u +ℤ v)) (bare_lin k l)
          (chosen_zero x (edge (bare o) k) k (λ j m. bare_edge k j (omega arith) (omega arith)))
          ∙ ap (when (x k)) (+ℤ_idr (get_or o.weights k (pos 0)))
          ∙ ap (λ (m : ℕ). when (x m) (get_or o.weights k (pos 0))) (sym (zero-add k))

-- ---- the terms
twice : (b : Bool) (w : ℤ) → when b w ≡ when b (when b w)
twice true w = refl
twice false w = refl

-- every index of a list is below n
abbrev pub IndicesBelow : ℕ → List ℕ → Type 0
IndicesBelow n is = (k : ℕ) → k < length is → get_or is k 0 < n

pub record TermAdded (i j : ℕ) (w : ℤ) (g g' : Graph) : Type 0 where
  pub same_n : g'.n ≡ g.n
  pub shaped : Shaped g'
  pub costs : (x : ℕ → Bool) → cost g' x ≡ cost g x +ℤ when (x i) (when (x j) w)

-- "A term with i = j adds to a of i, since x times x is x."
term_added : (i j : ℕ) (w : ℤ) (g : Graph) → Shaped g → i < g.n → j < g.n → TermAdded i j w g (add_term i j w g)
unfolding add_term add_linear add_edge
term_added i j w g s li lj = go (eqb i j) refl
  where
    go : (b : Bool) → eqb i j ≡ b → TermAdded i j w g (cond b (add_linear i w g) (add_edge i j w g))
    go true e = record {
      same_n = refl;
      shaped = shaped_lin i w g s;
      costs = λ x. lin_cost g x i w s li ∙ ap (λ (z : ℤ). cost g x +ℤ z) (twice (x i) w ∙ ap (λ (k : ℕ). when (x i) (when (x k) w)) (eqb-true i j e));
    }
    go false e = let d : i ≢ j = eqb-false i j e in record {
      same_n = refl;
      shaped = shaped_edge g i j w s li lj d;
      costs = λ x. edge_cost g i j w s li lj d x;
    }

pub record TermsAdded (is js : List ℕ) (ws : List ℤ) (g g' : Graph) : Type 0 where
  pub same_n : g'.n ≡ g.n
  pub shaped : Shaped g'
  pub costs : (x : ℕ → Bool) → cost g' x ≡ cost g x +ℤ terms_cost is js ws x

none_added : (g : Graph) → Shaped g → (x : ℕ → Bool) → cost g x ≡ cost g x +ℤ pos 0
none_added g s x = sym (+ℤ_idr (cost g x))

pub terms_added : (is js : List ℕ) (ws : List ℤ) (g : Graph) → Shaped g → IndicesBelow g.n is → IndicesBelow g.n js → TermsAdded is js ws g (add_terms is js ws g)
unfolding add_terms terms_cost
terms_added [] js ws g s p q = record { same_n = refl; shaped = s; costs = none_added g s }
terms_added (i ∷ is) [] ws g s p q = record { same_n = refl; shaped = s; costs = none_added g s }
terms_added (i ∷ is) (j ∷ js) [] g s p q = record { same_n = refl; shaped = s; costs = none_added g s }
terms_added (i ∷ is) (j ∷ js) (w ∷ ws) g s p q =
    let t : TermAdded i j w g (add_term i j w g) = term_added i j w g s (p 0 (omega arith)) (q 0 (omega arith)) in
    let r = terms_added is js ws (add_term i j w g) t.shaped
    (λ k l. rw t.same_n (p (suc k) (omega arith))) (λ k l. rw t.same_n (q (suc k) (omega arith))) in
    record {
      same_n = r.same_n ∙ t.same_n;
      shaped = r.shaped;
      costs = λ x. r.costs x ∙ ap (λ (z : ℤ). z +ℤ terms_cost is js ws x) (t.costs x) ∙ +ℤ_assoc (cost g x) (when (x i) (when (x j) w)) (terms_cost is js ws x);
    }
