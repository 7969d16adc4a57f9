-- What the search holds as 64-bit masks, and what it finds.
-- Assumes nothing.
use Rattle.std.specs.Prelude.{List, ℕ, get_or, Option, Some, None}
use Rattle.whole.specs.Masks.{these}
use Rattle.rules.specs.SmallBlock.{Block, none, members}

-- each decision's neighbours, by its mask
abbrev pub near_by : List ℕ → ℕ → List ℕ
near_by masks i = these (get_or masks i 0)

-- a block as the code has it: its members, if there is one
abbrev pub block_of : Option (List ℕ) → Block
block_of None = none
block_of (Some b) = members b
