-- The size rule: where a graph's cost lies in a range of at most 2^40, its numbers are within the rule's bounds.
-- Assumes nothing.
use Rattle.std.specs.Prelude.{◌≡◌, refl, Bool, true, false, ℕ, ◌+◌, ◌*◌, ◌/◌, ◌%◌, ◌<◌, ◌≤◌, length, get_or, ℤ, pos, ◌+ℤ◌}
use Rattle.std.proofs.Common.{sym, ap, ap₂, ◌∙◌, subst, arith}
use Rattle.std.proofs.Math.Decide.{dec_lt}
use Rattle.std.proofs.Math.ListN.{get_or-eq_default}
use Rattle.std.proofs.Math.IntN.{+ℤ_idl, +ℤ_idr}
use Rattle.whole.specs.Words.{is_zero_z}
use Rattle.whole.specs.Parts.{∣◌∣}
use Rattle.whole.specs.Ints.{ints}
use Rattle.whole.specs.Tests.{cases}
use Rattle.rules.specs.Graph.{Graph, lin, edge, drop_to}
use Rattle.rules.specs.Size.{Within}
use Rattle.cost_laws.specs.Cost.{when, sum_zero, sum_point, row_cost, cost_of, delta_of}
use Rattle.cost_laws.specs.CostLaws.{cost, Shaped, drop_cost}
use Rattle.whole.specs.Cmp.{zero_of}
use Rattle.cost_laws.specs.Neat.{Neat}
use Rattle.objective_laws.specs.FixLaws.{set_at, set_same, set_other, dropped_set, delta_set}
use Rattle.size_laws.specs.Values.{Between, Narrow}

-- ---- the numbers of a graph are differences of values of its cost
-- no decision
abbrev none : ℕ → Bool
none k = false

none_cost : (g : Graph) → cost g none ≡ g.constant
unfolding cost_of
none_cost g = ap (λ (z : ℤ). g.constant +ℤ z) (sum_zero (row_cost (lin g) (edge g) none) g.n (λ i l. refl)) ∙ +ℤ_idr g.constant

module _ (g : Graph) (s : Shaped g) where
  -- what i adds at x
  delta_cost : (i : ℕ) → i < g.n → (x : ℕ → Bool) → cost g (set_at i true x) ≡ cost g (set_at i false x) +ℤ delta_of g.n (lin g) (edge g) x i
  delta_cost i li x =
      drop_cost g (set_at i true x) 3 i s li
      ∙ ap₂ (λ (u v : ℤ). u +ℤ v)
      (dropped_set g i s li true x ∙ sym (dropped_set g i s li false x) ∙ sym (drop_cost g (set_at i false x) 3 i s li ∙ last))
      (ap₂ (λ (t : Bool) (z : ℤ). when t z) (set_same i true x) (delta_set g i s li true x))
    where
      last : cost (drop_to 3 i g) (set_at i false x) +ℤ when (set_at i false x i) (delta_of g.n (lin g) (edge g) (set_at i false x) i)
          ≡ cost (drop_to 3 i g) (set_at i false x)
      last =
          ap (λ (t : Bool). cost (drop_to 3 i g) (set_at i false x) +ℤ when t (delta_of g.n (lin g) (edge g) (set_at i false x) i)) (set_same i false x)
          ∙ +ℤ_idr (cost (drop_to 3 i g) (set_at i false x))

  lone_delta : (i : ℕ) → delta_of g.n (lin g) (edge g) none i ≡ lin g i
  lone_delta i = ap (λ (z : ℤ). lin g i +ℤ z) (sum_zero (λ j. when (none j) (edge g i j)) g.n (λ j l. refl)) ∙ +ℤ_idr (lin g i)

  pair_delta : (i j : ℕ) → j < g.n → delta_of g.n (lin g) (edge g) (set_at j true none) i ≡ lin g i +ℤ edge g i j
  pair_delta i j lj =
      ap (λ (z : ℤ). lin g i +ℤ z)
      (sum_point (λ k. pos 0) (λ k. when (set_at j true none k) (edge g i k)) j (edge g i j) g.n lj
      (λ k l d. ap (λ (t : Bool). when t (edge g i k)) (set_other j true none k d))
      (ap (λ (t : Bool). when t (edge g i j)) (set_same j true none) ∙ sym (+ℤ_idl (edge g i j)))
      ∙ ap (λ (z : ℤ). z +ℤ edge g i j) (sum_zero (λ k. pos 0) g.n (λ k l. refl)) ∙ +ℤ_idl (edge g i j))

  module _ (w : Narrow g) where
    constant_size : ∣ g.constant ∣ ≤ 1099511627776
    constant_size =
        let v : Between w.below w.above g.constant = subst (Between w.below w.above) (none_cost g) (w.values none) in
        simp ints (omega (arith, w.range, simp ints at v.low, simp ints at v.high))

    -- a difference of two values
    difference : (a b d : ℤ) → Between w.below w.above a → Between w.below w.above b → a ≡ b +ℤ d → ∣ d ∣ ≤ 1099511627776
    difference a b d h k e = simp ints (omega (arith, w.range, simp ints at e, simp ints at h.low, simp ints at h.high, simp ints at k.low, simp ints at k.high))

    delta_size : (i : ℕ) → i < g.n → (x : ℕ → Bool) → ∣ delta_of g.n (lin g) (edge g) x i ∣ ≤ 1099511627776
    delta_size i li x =
        difference (cost g (set_at i true x)) (cost g (set_at i false x)) (delta_of g.n (lin g) (edge g) x i) (w.values (set_at i true x)) (w.values (set_at i false x)) (delta_cost i li x)

    lin_size : (i : ℕ) → i < g.n → ∣ lin g i ∣ ≤ 1099511627776
    lin_size i li = rw (lone_delta i) at (delta_size i li none)

    edge_size_lem : (i j : ℕ) → i < g.n → j < g.n → ∣ edge g i j ∣ ≤ 2199023255552
    edge_size_lem i j li lj =
        let a = lin_size i li in
        let b : ∣ lin g i +ℤ edge g i j ∣ ≤ 1099511627776 = rw (pair_delta i j lj) at (delta_size i li (set_at j true none)) in
        sum_less (lin g i) (edge g i j) a b
      where
        sum_less : (u v : ℤ) → ∣ u ∣ ≤ 1099511627776 → ∣ u +ℤ v ∣ ≤ 1099511627776 → ∣ v ∣ ≤ 2199023255552
        sum_less u v h k = simp ints (omega (arith, (simp ints at k).0, (simp ints at k).1))

    -- the numbers of a graph whose cost is so narrow; past n there is none
    pub narrow_within : Neat g → ((i : ℕ) → g.n ≤ i → lin g i ≡ pos 0) → Within g
    narrow_within neat past = record {
      constant = constant_size;
      linear = λ i. weight i (dec_lt i g.n);
      edges = λ k. cell k (dec_lt k 4096);
    }
      where
        weight : (i : ℕ) → Dec (i < g.n) → ∣ lin g i ∣ ≤ 1099511627776
        weight i (yes l) = lin_size i l
        weight i (no l) = rw (past i (omega arith)) (omega arith)

        inside : (i j : ℕ) → i < 64 → j < 64 → ∣ edge g i j ∣ ≤ 2199023255552
        inside i j li lj = cases (is_zero_z (edge g i j))
            (λ e. rw (zero_of (edge g i j) e) (omega arith))
            (λ e. let p = neat.ends i j li lj e in edge_size_lem i j p.0.0 p.1.0)

        cell : (k : ℕ) → Dec (k < 4096) → ∣ get_or g.edges k (pos 0) ∣ ≤ 2199023255552
        cell k (yes l) =
            let place : 64 * (k / 64) + k % 64 ≡ k = omega arith in
            subst (λ (m : ℕ). ∣ get_or g.edges m (pos 0) ∣ ≤ 2199023255552) place (inside (k / 64) (k % 64) (omega arith) (omega arith))
        cell k (no l) =
            let beyond : length g.edges ≤ k = omega (arith, s.edges_long) in
            rw (get_or-eq_default g.edges (pos 0) beyond) (omega arith)
