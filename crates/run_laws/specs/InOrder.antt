-- What holds of every state of a run: the statements. Their laws stand in proofs/InOrderLaws.antt.
-- Assumes nothing.
use Rattle.std.specs.Prelude.{◌≡◌, ◌+◌, ◌*◌, ◌≤◌, length}
use Rattle.whole.specs.Pigeon.{Apart}
use Rattle.rules.specs.Graph.{Graph}
use Rattle.rules.specs.Run.{State}
use Rattle.sound_laws.specs.Sound.{Sound}

-- the counts, against the steps and the units
pub record Counted (s : State) : Type 0 where
  -- a step for each decision eliminated, contracted or in a block
  pub steps : s.counted.eliminated + s.counted.contracted + s.counted.in_blocks ≡ length s.steps
  pub three : s.counted.three ≤ s.counted.eliminated
  pub weakly : s.counted.weakly ≤ s.counted.contracted
  -- a take does one of these, or nothing
  pub takes : s.counted.eliminated + s.counted.contracted + s.counted.skipped ≤ s.takes
  -- "2 to 8 members"
  pub blocks : 2 * s.blocks ≤ s.counted.in_blocks

-- a state of a run that began at g
pub record InOrder (g : Graph) (s : State) : Type 0 where
  -- its graph comes from g by its steps
  pub sound : Sound g s.steps s.graph
  -- each waiting decision is below n, and none waits twice
  pub queue : Apart g.n s.queue
  pub counted : Counted s

-- what the code's arrays and numbers rest on
pub record Room (s : State) : Type 0 where
  pub n : s.graph.n ≤ 64
  -- at most 64 wait, and none twice
  pub queue : length s.queue ≤ 64
  pub waiting : Apart 64 s.queue
  pub steps : length s.steps ≤ 64
  pub eliminated : s.counted.eliminated ≤ 64
  pub three : s.counted.three ≤ 64
  pub contracted : s.counted.contracted ≤ 64
  pub weakly : s.counted.weakly ≤ 64
  pub in_blocks : s.counted.in_blocks ≤ 64
  pub blocks : s.blocks ≤ 32
  pub skipped : s.counted.skipped ≤ s.takes
