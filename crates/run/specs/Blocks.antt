-- A block that is due, and what is asked where it is eliminated.
-- Assumes nothing.
use Rattle.std.specs.Prelude.{cond, List, ℕ, ◌+◌, ◌<◌, ◌≤◌, length}
use Rattle.rules.specs.Options.{small_block}
use Rattle.rules.specs.declared.Options.{Options}
use Rattle.rules.specs.Graph.{Graph}
use Rattle.rules.specs.Size.{Within}
use Rattle.rules.specs.SmallBlock.{Block, none, find_block}
use Rattle.cost_laws.specs.Found.{SmallBlock}
use Rattle.state.specs.Counting.{Countable}
use Rattle.run.specs.declared.Reached.{Reached}

-- "When the queue is empty and small block is on, search for a block."
abbrev pub due_in : Options → Graph → Block
due_in opt g = cond (small_block opt) (find_block g) none

-- a block that can be eliminated: there is room for its steps and its counts
pub record Removable (g : Graph) (at : Reached) (b : List ℕ) : Type 0 where
  pub within : Within g
  pub block : SmallBlock g b
  pub room : length at.steps + length b ≤ 64
  pub counted : Countable at.state.tally
  pub blocks : at.state.blocks < 4294967295
