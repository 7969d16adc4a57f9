-- Lists of different decisions below n.
-- Assumes nothing.
use Rattle.std.specs.Prelude.{◌≡◌, false, List, [], ◌∷◌, ℕ, ◌<◌}
use Rattle.whole.specs.Words.{mem}

-- each below n, and none again further on
pub data Apart (n : ℕ) : List ℕ → Type 0 where
  none : Apart n []
  one : {x : ℕ} {xs : List ℕ} → x < n → mem x xs ≡ false → Apart n xs → Apart n (x ∷ xs)
