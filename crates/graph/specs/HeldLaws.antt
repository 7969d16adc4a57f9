-- What an update of an array is to the graph.
-- Assumes nothing.
use Rattle.std.specs.Prelude.{◌≡◌, List, ℕ, ◌+◌, ◌*◌, get_or, set, ℤ, pos, ◌+ℤ◌}
use Rattle.rules.specs.Graph.{graph, add_linear, add_edge}

module _ (n : ℕ) (c : ℤ) (l e : List ℤ) (ss : List ℕ) (v : ℤ) where
  pub linear_gain : (l₁ : List ℤ) (k : ℕ) → l₁ ≡ set l k (get_or l k (pos 0) +ℤ v) → add_linear k v (graph n c l e ss) ≡ graph n c l₁ e ss
  unfolding add_linear
  linear_gain l₁ k h = rw h

  pub edge_gain : (e₁ : List ℤ) (j k : ℕ) → e₁ ≡ set (set e (64 * j + k) (get_or e (64 * j + k) (pos 0) +ℤ v)) (64 * k + j) (get_or e (64 * k + j) (pos 0) +ℤ v)
      → add_edge j k v (graph n c l e ss) ≡ graph n c l e₁ ss
  unfolding add_edge
  edge_gain e₁ j k h = rw h
