-- What clauses see of a queue: who waits, the front first; and how they stand in its ring, which is the queue's own affair.
-- Assumes nothing.
use Rattle.std.specs.Prelude.{ℕ, List}

pub record Waiting : Type 0 where
  pub who : List ℕ
  -- the 64 places, used or not, and which of them is the front's
  pub places : List ℕ
  pub head : ℕ
