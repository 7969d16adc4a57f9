-- 01, "Size rule": "the absolute values of all weights given, linear and pair, before any adding up, total at most 2^40", and
-- "the reduced cost only takes values the original takes". The statements; their laws stand in ValueLaws.
-- Assumes nothing.
use Rattle.std.specs.Prelude.{◌≡◌, Bool, List, [], ◌∷◌, ℕ, ◌+◌, ◌≤◌, ℤ, pos, ◌≤ℤ◌}
use Rattle.whole.specs.Words.{neg}
use Rattle.whole.specs.Parts.{plus_part, minus_part}
use Rattle.rules.specs.Graph.{Graph}
use Rattle.cost_laws.specs.CostLaws.{cost}

-- the positive weights of a list added up, and the negative ones without their sign
unfoldable pub up : List ℤ → ℕ
up [] = 0
up (w ∷ ws) = plus_part w + up ws

unfoldable pub down : List ℤ → ℕ
down [] = 0
down (w ∷ ws) = minus_part w + down ws

-- z lies in [−n, p]
pub record Between (n p : ℕ) (z : ℤ) : Type 0 where
  pub low : neg n ≤ℤ z
  pub high : z ≤ℤ pos p

-- every value of a graph's cost lies in one range of length at most 2^40 around 0
pub record Narrow (g : Graph) : Type 0 where
  pub below : ℕ
  pub above : ℕ
  pub range : below + above ≤ 1099511627776
  pub values : (x : ℕ → Bool) → Between below above (cost g x)

-- every value of g''s cost is a value of g's
pub record TakenFrom (g g' : Graph) : Type 0 where
  pub plan : (ℕ → Bool) → ℕ → Bool
  pub same : (x : ℕ → Bool) → cost g' x ≡ cost g (plan x)
