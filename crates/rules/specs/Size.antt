-- 01, "Size rule": what it gives at the end of every reduction.
-- Assumes nothing.
use Rattle.std.specs.Prelude.{ℕ, ◌≤◌, get_or, pos}
use Rattle.whole.specs.Parts.{∣◌∣}
use Rattle.rules.specs.Graph.{Graph, lin}

-- "the reduced constant and each linear weight stay within ±2^40 and each edge within ±2^41"
pub record Within (g : Graph) : Type 0 where
  pub constant : ∣ g.constant ∣ ≤ 1099511627776
  pub linear : (i : ℕ) → ∣ lin g i ∣ ≤ 1099511627776
  pub edges : (k : ℕ) → ∣ get_or g.edges k (pos 0) ∣ ≤ 2199023255552
