-- The pairs, taken in order: the code's table is the rules', and how large an edge may get.
use mathlib.Core.Path.{◌≡◌, refl, sym, ap, ◌∙◌, subst}
use mathlib.Core.List.{List}
use Prim.Native.Nat.{ℕ, zero, suc, ◌+◌, ◌*◌, ◌^◌, ◌<◌, ◌≤◌}
use native.Mathlib.Omega.{arith}
use lib.ListN.{get_or, drop, drop_of_length-le}
use lib.IntN.{ℤ, pos, ◌+ℤ◌}
use mir.Syntax.{w64}
use mir.Val.{SFits}
use Rattle.whole.specs.Parts.{∣◌∣}
use Rattle.rules.specs.Graph.{Graph, lin, edge, add_linear, add_edge}
use Rattle.rules.specs.DegreeThree.{pairs, add_pairs}
use Rattle.graph.specs.UpdatesLaws.{edge_n}
use Rattle.accepted_laws.specs.Small.{Small, small_more, small_set}
use Rattle.size_laws.specs.Sizes.{add_size, gain_fits}
use Rattle.degree_three.specs.Pairs.{rule_pair, pair_at}
use Rattle.degree_three.specs.declared.Pair.{Pair}
use Rattle.degree_three.specs.declared.TheConstants.{PAIRS}

-- ---- the code's table is the rules'
pub table_is : (p : ℕ) → p < 3 → get_or PAIRS p (record { low = 0; high = 0; mask = 0 }) ≡ pair_at p
table_is zero h = refl
table_is (suc zero) h = refl
table_is (suc (suc zero)) h = refl
table_is (suc (suc (suc p))) h = absurd (omega arith)

pair_few : (p : ℕ) → p < 3 → ((rule_pair p).low < 3) × ((rule_pair p).high < 3)
pair_few zero h = (omega arith, omega arith)
pair_few (suc zero) h = (omega arith, omega arith)
pair_few (suc (suc zero)) h = (omega arith, omega arith)
pair_few (suc (suc (suc p))) h = absurd (omega arith)

pub pair_at_few : (q : Pair) (p : ℕ) → p < 3 → q ≡ pair_at p → (q.low < 3) × (q.high < 3)
pair_at_few q p h is = (omega (arith, ap (λ (x : Pair). x.low) is, (pair_few p h).0), omega (arith, ap (λ (x : Pair). x.high) is, (pair_few p h).1))

module _ (e : ℕ → ℤ) (near : List ℕ) where
  pub pairs_turn : (p : ℕ) (g : Graph) → p < 3
      → add_pairs e near (drop p pairs) g ≡ add_pairs e near (drop (p + 1) pairs) (add_edge (get_or near (rule_pair p).low 0) (get_or near (rule_pair p).high 0) (e (rule_pair p).mask) g)
  unfolding add_pairs
  pairs_turn zero g h = refl
  pairs_turn (suc zero) g h = refl
  pairs_turn (suc (suc zero)) g h = refl
  pairs_turn (suc (suc (suc p))) g h = absurd (omega arith)

  pub pairs_end : (p : ℕ) (g : Graph) → 3 ≤ p → add_pairs e near (drop p pairs) g ≡ g
  unfolding add_pairs
  pairs_end p g h = rw (drop_of_length-le pairs h)

-- ---- a gain v, in a graph whose linear weights, or edges, are at most b
module _ {b : ℕ} (v : ℤ) (few : ∣ v ∣ ≤ 2 ^ 54) (g : Graph) where
  pub linear_fits : (k : ℕ) → Small b g.linear → b ≤ 2 ^ 59 → SFits w64 (lin g k +ℤ v)
  linear_fits k h l = gain_fits g.linear g.linear k v (h.each k) refl few (omega arith)

  pub linear_gains : (k : ℕ) → Small b g.linear → Small (b + 2 ^ 54) (add_linear k v g).linear
  unfolding add_linear
  linear_gains k h = small_set k (lin g k +ℤ v) (small_more (b + 2 ^ 54) h (omega arith)) (add_size (lin g k) v (h.each k) few)

  pub edge_fits : (j k : ℕ) → Small b g.edges → b ≤ 2 ^ 59 → SFits w64 (edge g j k +ℤ v)
  edge_fits j k h l = gain_fits g.edges g.edges (64 * j + k) v (h.each (64 * j + k)) refl few (omega arith)

  pub edges_gain : (j k : ℕ) → Small b g.edges → Small (b + 2 ^ 54) (add_edge j k v g).edges
  unfolding add_edge
  edges_gain j k h =
      small_set (64 * k + j) (edge g k j +ℤ v)
      (small_set (64 * j + k) (edge g j k +ℤ v) (small_more (b + 2 ^ 54) h (omega arith)) (add_size (edge g j k) v (h.each (64 * j + k)) few))
      (add_size (edge g k j) v (h.each (64 * k + j)) few)

-- ---- the loop: p pairs are taken
module _ (near : List ℕ) (e : List ℤ) where
  abbrev entry : ℕ → ℤ
  entry m = get_or e m (pos 0)

  pub record Taken (g₀ g : Graph) (p : ℕ) : Type 0 where
    pub same : add_pairs entry near (drop p pairs) g ≡ add_pairs entry near pairs g₀
    pub small : Small (2199023255552 + p * 2 ^ 54) g.edges
    pub decisions : g.n ≡ g₀.n

  module _ (g₀ g : Graph) (p : ℕ) (h : p < 3) (t : Taken g₀ g p) (s : Small (2 ^ 54) e) (q : Pair) (is : q ≡ pair_at p) where
    abbrev j : ℕ
    j = get_or near q.low 0

    abbrev k : ℕ
    k = get_or near q.high 0

    pub taken_asks : ((k : ℕ) → k < 3 → get_or near k 0 < g₀.n) → (j < g.n) × (k < g.n) × SFits w64 (edge g j k +ℤ entry q.mask)
    taken_asks below =
        let few = pair_at_few q p h is in
        (omega (arith, below q.low few.0, t.decisions), omega (arith, below q.high few.1, t.decisions), edge_fits (entry q.mask) (s.each q.mask) g j k t.small (omega arith))

    pub taken_more : (g' : Graph) → g' ≡ add_edge j k (entry q.mask) g → Taken g₀ g' (p + 1)
    taken_more g' made = rw made (record {
      same = subst (λ (x : Pair). add_pairs entry near (drop (p + 1) pairs) (add_edge (get_or near x.low 0) (get_or near x.high 0) (entry x.mask) g) ≡ add_pairs entry near pairs g₀) (sym is) (sym (pairs_turn entry near p g h) ∙ t.same);
      small = small_more (2199023255552 + (p + 1) * 2 ^ 54) (edges_gain (entry q.mask) (s.each q.mask) g j k t.small) (omega arith);
      decisions = edge_n j k (entry q.mask) g ∙ t.decisions;
    })

  pub taken_all : (g₀ g : Graph) (p : ℕ) → 3 ≤ p → Taken g₀ g p → g ≡ add_pairs entry near pairs g₀
  taken_all g₀ g p h t = sym (pairs_end entry near p g h) ∙ t.same
