-- In a graph within the size rule: for each sum that a reduction makes on the way, a bound far below 2^63. 2^40 = 1,099,511,627,776.
-- Assumes nothing.
use Rattle.std.specs.Prelude.{◌≡◌, cond, ℕ, ◌+◌, ◌*◌, ◌/◌, ◌≤◌, length, ℤ, pos, ◌+ℤ◌}
use mathlib.Core.List.{List, [], ◌∷◌}
use native.Mathlib.Omega.{arith}
use Rattle.std.proofs.lemmas.List.{length-map}
use Rattle.std.proofs.Math.IntN.{+ℤ_idr}
use Rattle.whole.specs.Words.{odd, tab, chosen}
use Rattle.whole.specs.Parts.{∣◌∣}
use Rattle.whole.specs.Cmp.{below0_abs}
use Rattle.whole.specs.Pigeon.{pigeon}
use Rattle.rules.specs.Graph.{Graph, lin, edge, neighbours, degree, row}
use Rattle.rules.specs.Eliminate.{delta, tee}
use Rattle.rules.specs.DominantEdge.{negatives, positives, lo, hi, positive, upper, lower}
use Rattle.rules.specs.SmallBlock.{boundary, inner, best_mask, block_table}
use Rattle.rules.specs.Size.{Within}
use Rattle.accepted_laws.specs.Small.{Small, small_map, small_tab}
use Rattle.cost_laws.specs.Growth.{neighbours_apart}
use Rattle.size_laws.specs.Sizes.{add_size, less_size, more_size, part_size, when_size, chosen_size, delta_size, lo_size, hi_size, TableSums, table_size}

module _ (g : Graph) (w : Within g) where
  -- i's edges, to whatever decisions
  pub row_each : (i : ℕ) (js : List ℕ) → Small 2199023255552 (row g i js)
  row_each i js = small_map (edge g i) js (λ j. w.edges (64 * i + j))

  pub chosen_edges : (i : ℕ) (js : List ℕ) (m : ℕ) → ∣ chosen (row g i js) m ∣ ≤ length js * 2199023255552
  chosen_edges i js m = rw (length-map js (edge g i)) at (chosen_size (row g i js) m (row_each i js))

  -- the sum so far, where js are all and ks are left
  pub chosen_part : (i : ℕ) (js ks : List ℕ) (m r : ℕ) (s : ℤ) → s +ℤ chosen (row g i ks) r ≡ chosen (row g i js) m → ∣ s ∣ ≤ length js * 2199023255552 + length ks * 2199023255552
  chosen_part i js ks m r s e = part_size s (chosen (row g i ks) r) (chosen (row g i js) m) e (chosen_edges i js m) (chosen_edges i ks r)

  -- ---- Eliminate and degree three, at degree at most 3
  module _ (i : ℕ) (few : degree g i ≤ 3) where
    -- 7·2^40
    pub delta_three : (m : ℕ) → ∣ delta g i m ∣ ≤ 7696581394432
    delta_three m = omega (arith, delta_size (lin g i) (row g i (neighbours g i)) (w.linear i) (row_each i (neighbours g i)) m, length-map (neighbours g i) (edge g i))

    -- "T the smaller of delta and 0"
    pub tee_three : (m : ℕ) → ∣ tee g i m ∣ ≤ 7696581394432
    tee_three m = omega (arith, below0_abs (delta g i m), delta_three m)

    pub tees_three : Small 7696581394432 (tab (tee g i) 8)
    tees_three = small_tab (tee g i) 8 tee_three

    -- 14·2^40 for what a neighbour gains, 28·2^40 for what their edge gains
    pub gains_three : TableSums 7696581394432 (tee g i)
    gains_three = table_size (tee g i) tee_three

  -- ---- the dominant neighbour, at most 64 decisions
  module _ (short : g.n ≤ 64) where
    few_edges : (i : ℕ) → length (row g i (neighbours g i)) ≤ 64
    few_edges i = omega (arith, length-map (neighbours g i) (edge g i), pigeon g.n (neighbours_apart g i))

    -- 257·2^40
    pub low_size : (i : ℕ) → ∣ lo g i ∣ ≤ 282574488338432
    unfolding negatives
    low_size i = lo_size (lin g i) (row g i (neighbours g i)) (w.linear i) (row_each i (neighbours g i)) [] (lo g i) (row_each i []) (few_edges i) (omega arith) (+ℤ_idr (lo g i))

    pub high_size : (i : ℕ) → ∣ hi g i ∣ ≤ 282574488338432
    unfolding positives
    high_size i = hi_size (lin g i) (row g i (neighbours g i)) (w.linear i) (row_each i (neighbours g i)) [] (hi g i) (row_each i []) (few_edges i) (omega arith) (+ℤ_idr (hi g i))

    -- "hi − w ... and lo + w ... Negative: hi + w ... and lo − w": 259·2^40
    pub upper_size : (i j : ℕ) → ∣ upper g i j ∣ ≤ 284773511593984
    upper_size i j = less_size (positive g i j) (hi g i) (edge g i j) (high_size i) (w.edges (64 * i + j))

    pub lower_size : (i j : ℕ) → ∣ lower g i j ∣ ≤ 284773511593984
    lower_size i j = more_size (positive g i j) (lo g i) (edge g i j) (low_size i) (w.edges (64 * i + j))

  -- ---- a contraction: what j's weight gains where x of i becomes x of j, 3·2^40
  pub taken_size : (i j : ℕ) → ∣ lin g i +ℤ edge g i j ∣ ≤ 3298534883328
  taken_size i j = add_size (lin g i) (edge g i j) (w.linear i) (w.edges (64 * i + j))

  -- ---- small block
  -- what one member adds: its weight, its edges to the boundary and to the members after it
  member_size : (i : ℕ) (out is : List ℕ) (f m : ℕ)
      → ∣ lin g i +ℤ chosen (row g i out) f +ℤ chosen (row g i is) m ∣ ≤ 1099511627776 + length out * 2199023255552 + length is * 2199023255552
  member_size i out is f m =
      add_size (lin g i +ℤ chosen (row g i out) f) (chosen (row g i is) m) (add_size (lin g i) (chosen (row g i out) f) (w.linear i) (chosen_edges i out f)) (chosen_edges i is m)

  -- the cost of an interior mask: c is at least what each member adds
  inner_by_members : (c : ℕ) (out is : List ℕ) (f m : ℕ) → 1099511627776 + (length out + length is) * 2199023255552 ≤ c → ∣ inner g out f is m ∣ ≤ length is * c
  unfolding inner
  inner_by_members c out [] f m h = omega arith
  inner_by_members c out (i ∷ is) f m h =
      let own = lin g i +ℤ chosen (row g i out) f +ℤ chosen (row g i is) (m / 2) in
      let a : ∣ own ∣ ≤ c = omega (arith, member_size i out is f (m / 2)) in
      omega (arith, add_size (cond (odd m) own (pos 0)) (inner g out f is (m / 2)) (when_size (odd m) own a) (inner_by_members c out is f (m / 2) (omega arith)))

  -- of at most 8 members and 2 outside neighbours: 168·2^40
  pub inner_size : (out is : List ℕ) (f m : ℕ) → length out ≤ 2 → length is ≤ 8 → ∣ inner g out f is m ∣ ≤ 184717953466368
  inner_size out is f m ho hi = omega (arith, inner_by_members 23089744183296 out is f m (omega arith))

  -- the cost so far, where the members ks are left
  pub inner_part : (out is ks : List ℕ) (f m r : ℕ) (s : ℤ) → length out ≤ 2 → length is ≤ 8 → length ks ≤ 8 → s +ℤ inner g out f ks r ≡ inner g out f is m → ∣ s ∣ ≤ 369435906932736
  inner_part out is ks f m r s ho hi hk e = part_size s (inner g out f ks r) (inner g out f is m) e (inner_size out is f m ho hi) (inner_size out ks f r ho hk)

  -- and for the update from what the members cost at best: 336·2^40 for what a neighbour gains, 672·2^40 for what their edge gains
  pub gains_block : (b : List ℕ) → length (boundary g b) ≤ 2 → length b ≤ 8 → TableSums 184717953466368 (block_table g b)
  gains_block b ho hi = table_size (block_table g b) (λ f. inner_size (boundary g b) b f (best_mask g b f) ho hi)
