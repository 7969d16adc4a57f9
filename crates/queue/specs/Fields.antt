-- What clauses see of a queue, and its fields again.
-- Assumes nothing.
use Rattle.std.specs.Prelude.{ℕ, ◌^◌, ◌<◌, List, [], ◌∷◌, length}
use Rattle.std.specs.Int.Bits.{bit_or}
use Rattle.queue.specs.Waiting.{Waiting}
use Rattle.queue.specs.Items.{items, QueueKept}
use Rattle.queue.specs.declared.Queue.TheInside.{Inside}

abbrev pub seen : Inside → Waiting
seen q = record { who = items q; places = q.places; head = q.head }

-- the mask of some decisions
unfoldable pub mask_of : List ℕ → ℕ
mask_of [] = 0
mask_of (d ∷ ds) = bit_or (2 ^ d) (mask_of ds)

abbrev pub fields : Waiting → Inside
fields w = record { head = w.head; len = length w.who; waiting = mask_of w.who; places = w.places }

-- what every queue keeps, and that its mask has no other bits
pub record QueueWhole (q : Inside) : Type 0 where
  pub kept : QueueKept q
  pub mask : q.waiting < 2 ^ 64
