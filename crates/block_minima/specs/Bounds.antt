-- The size rule's bounds of the sums over listed decisions, of each sum whole and on the way.
-- Assumes nothing.
use Rattle.std.specs.Prelude.{◌≡◌, List, ℕ, ◌≤◌, length, ℤ, ◌+ℤ◌}
use Rattle.std.proofs.Common.{arith}
use Rattle.whole.specs.Parts.{∣◌∣}
use Rattle.whole.specs.Words.{chosen}
use Rattle.rules.specs.Graph.{Graph, row}
use Rattle.rules.specs.Size.{Within}
use Rattle.rules.specs.SmallBlock.{inner}
use Rattle.size_laws.specs.SumSizes.{chosen_edges, chosen_part, inner_size, inner_part}
use Rattle.block_minima.specs.Weights.{weights, weights_inner}

module _ (g : Graph) (v : Within (weights g.linear g.edges)) (list : List ℕ) (few : length list ≤ 8) where
  pub pull_size : (i m : ℕ) → ∣ chosen (row g i list) m ∣ ≤ 17592186044416
  pull_size i m = omega (arith, chosen_edges (weights g.linear g.edges) v i list m)

  -- what is left of the list is no longer
  pub pull_part : (i : ℕ) (left : List ℕ) (m r : ℕ) (s : ℤ) → length left ≤ length list → s +ℤ chosen (row g i left) r ≡ chosen (row g i list) m → ∣ s ∣ ≤ 35184372088832
  pull_part i left m r s l e = omega (arith, chosen_part (weights g.linear g.edges) v i list left m r s e)

  module _ (out : List ℕ) (narrow : length out ≤ 2) where
    pub cost_size : (f m : ℕ) → ∣ inner g out f list m ∣ ≤ 184717953466368
    cost_size f m = rw (weights_inner g out f list m) (inner_size (weights g.linear g.edges) v out list f m narrow few)

    pub cost_part : (f : ℕ) (left : List ℕ) (m r : ℕ) (s : ℤ) → length left ≤ length list → s +ℤ inner g out f left r ≡ inner g out f list m → ∣ s ∣ ≤ 369435906932736
    cost_part f left m r s l e = inner_part (weights g.linear g.edges) v out list left f m r s narrow few (omega arith) (rw (weights_inner g out f left r, weights_inner g out f list m) at e)
