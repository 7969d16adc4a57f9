-- The bounds of a graph's weights: of a decision's edges, and of what is left when a decision is dropped.
-- Assumes nothing.
use Rattle.std.specs.Prelude.{◌≡◌, List, ℕ, zero, suc, ◌+◌, ◌*◌, ◌≤◌, get_or, ℤ, pos}
use Rattle.std.proofs.Common.{sym, arith}
use Rattle.std.proofs.Math.Path.{subst}
use Rattle.whole.specs.Parts.{∣◌∣}
use Rattle.rules.specs.Graph.{Graph, graph, drop_to, neighbours}
use Rattle.rules.specs.Size.{Within}
use Rattle.accepted_laws.specs.Small.{Small, small_set, small_clear, small_map}
use Rattle.graph.specs.Near.{three, near_at}

pub small_three : {b : ℕ} {ws : List ℤ} → Small b ws → Small b (three ws (pos 0))
small_three {b} {ws} s = record { each = at }
  where
    at : (k : ℕ) → ∣ get_or (three ws (pos 0)) k (pos 0) ∣ ≤ b
    at zero = s.each 0
    at (suc zero) = s.each 1
    at (suc (suc zero)) = s.each 2
    at (suc (suc (suc k))) = omega arith

pub small_near : {b : ℕ} (g : Graph) (i : ℕ) → Small b g.edges → Small b (near_at g i).weights
unfolding near_at
small_near g i s = small_three (small_map (λ j. get_or g.edges (64 * i + j) (pos 0)) (neighbours g i) (λ j. s.each (64 * i + j)))

-- the size rule does not look at the states
pub within_any : {g : Graph} (ss : List ℕ) → Within g → Within (graph g.n g.constant g.linear g.edges ss)
within_any ss w = record { constant = w.constant; linear = w.linear; edges = w.edges }

-- the size rule's bounds hold of what is left when a decision is dropped
module _ (s i : ℕ) (g d : Graph) (h : d ≡ drop_to s i g) (w : Within g) where
  pub dropped_within : Within d
  unfolding drop_to
  dropped_within = subst (λ (x : Graph). Within x) (sym h) (record {
    constant = w.constant;
    linear = (small_set {l = g.linear} i (pos 0) (record { each = w.linear }) (omega arith)).each;
    edges = (small_clear {e = g.edges} i g.n (record { each = w.edges })).each;
  })
