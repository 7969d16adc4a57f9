-- What the code that finds a block's minima is handed.
-- Assumes nothing.
use Rattle.std.specs.Prelude.{◌≡◌, refl, cond, List, [], ◌∷◌, ℕ, suc, ◌-◌, ◌/◌, ◌^◌, ◌<◌, ◌≤◌, length, get_or, ℤ, pos, ◌+ℤ◌}
use Rattle.std.proofs.Common.{ap, arith}
use Rattle.rules.specs.Graph.{Graph, graph, lin, row}
use Rattle.rules.specs.SmallBlock.{inner, cheapest}
use Rattle.whole.specs.Parts.{∣◌∣}
use Rattle.whole.specs.Words.{odd, chosen}

-- a graph of which only the weights count
abbrev pub weights : List ℤ → List ℤ → Graph
weights linear edges = graph 64 (pos 0) linear edges []

pub weights_inner : (g : Graph) (out : List ℕ) (f : ℕ) (b : List ℕ) (m : ℕ) → inner g out f b m ≡ inner (weights g.linear g.edges) out f b m
unfolding inner
weights_inner g out f [] m = refl
weights_inner g out f (i ∷ is) m =
    ap (λ (z : ℤ). cond (odd m) (lin g i +ℤ chosen (row g i out) f +ℤ chosen (row g i is) (m / 2)) (pos 0) +ℤ z) (weights_inner g out f is (m / 2))

-- a list of decisions, as long as a block may be
pub record Listed (list : List ℕ) : Type 0 where
  pub few : length list ≤ 8
  pub low : (k : ℕ) → k < length list → get_or list k 0 < 64

-- those behind the first are one too
pub listed_tail : (x : ℕ) (xs : List ℕ) → Listed (x ∷ xs) → Listed xs
listed_tail x xs w = record { few = omega (arith, w.few); low = λ k l. w.low (suc k) (omega arith) }

-- the lowest of the cheapest masks of `count` bits, and its cost
pub record Minimum (c : ℕ → ℤ) (count mask : ℕ) (cost : ℤ) : Type 0 where
  pub lowest : mask ≡ cheapest c (2 ^ count - 1)
  pub costs : cost ≡ c mask
  pub bounded : ∣ cost ∣ ≤ 184717953466368
