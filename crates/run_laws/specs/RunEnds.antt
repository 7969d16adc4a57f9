-- What a run has left to do. That it ends stands in proofs/RunEnds.antt.
-- Assumes nothing.
use Prim.Native.Nat.{ℕ, ◌+◌, ◌*◌, ◌-◌}
use Rattle.std.proofs.Math.ListN.{length}
use Rattle.rules.specs.Run.{State}

-- what is left to do: each waiting decision is a take, and each decision that may still leave may fill the queue once more
abbrev pub work_left : ℕ → State → ℕ
work_left n s = length s.queue + 65 * (n - length s.steps)
