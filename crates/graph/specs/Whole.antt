-- What each graph is like that the code holds: how long its lists are, and its edges.
-- Assumes nothing.
use Rattle.std.specs.Prelude.{◌≡◌, ℕ, ◌<◌, ◌≤◌, length, pos}
use Rattle.rules.specs.Graph.{Graph, edge}

pub record Whole (g : Graph) : Type 0 where
  pub small : g.n ≤ 64
  pub linear_long : length g.linear ≡ 64
  pub edges_long : length g.edges ≡ 4096
  pub states_long : length g.states ≡ 64
  pub both : (i j : ℕ) → i < 64 → j < 64 → edge g i j ≡ edge g j i
  pub none : (i j : ℕ) → i < 64 → j < 64 → g.n ≤ j → edge g i j ≡ pos 0
