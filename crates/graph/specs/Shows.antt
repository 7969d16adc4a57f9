-- A mask of 64 bits for each decision: bit j of mask i is set where i and j are neighbours.
-- Assumes nothing.
use Rattle.std.specs.Prelude.{◌≡◌, not, List, ℕ, ◌+◌, ◌*◌, ◌^◌, ◌<◌, ◌≤◌, length, get_or, replicate, ℤ, pos}
use Rattle.whole.specs.Words.{bit, is_zero_z}

-- the edges are those of n decisions, the same both ways round, and the masks show them
pub record Shows (n : ℕ) (e : List ℤ) (m : List ℕ) : Type 0 where
  pub long : length m ≡ 64
  pub edges_long : length e ≡ 4096
  pub fits : (i : ℕ) → get_or m i 0 < 2 ^ 64
  pub bits : (i j : ℕ) → i < 64 → j < 64 → bit (get_or m i 0) j ≡ not (is_zero_z (get_or e (64 * i + j) (pos 0)))
  pub both : (i j : ℕ) → i < 64 → j < 64 → get_or e (64 * i + j) (pos 0) ≡ get_or e (64 * j + i) (pos 0)
  pub none : (i j : ℕ) → i < 64 → j < 64 → n ≤ j → get_or e (64 * i + j) (pos 0) ≡ pos 0

-- the masks before there is any edge. Shut, so that they are not written out
unfoldable pub no_masks : List ℕ
no_masks = replicate 64 0
