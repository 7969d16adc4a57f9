-- What waits in a queue: a list, the front first.
-- Assumes nothing.
use Rattle.std.specs.Prelude.{ℕ, zero, suc, ◌%◌, ◌<◌, List, [], ◌∷◌, ◌≡◌, length, get_or}
use Rattle.whole.specs.Words.{mem, bit}
use Rattle.whole.specs.Pigeon.{Apart}
use Rattle.queue.specs.declared.Queue.TheInside.{Inside}

-- n entries of a ring of 64, from place h on, which goes round
unfoldable pub ring_from : List ℕ → ℕ → ℕ → List ℕ
ring_from r h zero = []
ring_from r h (suc n) = get_or r (h % 64) 0 ∷ ring_from r (suc h) n

abbrev pub items : Inside → List ℕ
items q = ring_from q.places q.head q.len

-- what every queue keeps: it has 64 places; no decision waits twice, so at most 64 wait; and the mask says which
pub record QueueKept (q : Inside) : Type 0 where
  pub long : length q.places ≡ 64
  pub head : q.head < 64
  pub apart : Apart 64 (items q)
  pub shown : (k : ℕ) → k < 64 → bit q.waiting k ≡ mem k (items q)
