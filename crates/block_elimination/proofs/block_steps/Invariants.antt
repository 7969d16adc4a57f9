use Rattle.std.proofs.Common.{◌≡◌, ◌≤◌, ◌++◌, length, get_or, map}
use Rattle.whole.specs.Words.{tab}
use Rattle.rules.specs.Record.{hold}
use Rattle.block_elimination.specs.Block.{member_step}
use Rattle.block_elimination.proofs.block_steps.Given as goal

abbrev pub invariant-loop-k : goal.invariant-loop-k
invariant-loop-k l = (l.k ≤ length l.members) × (l.steps ≡ l.initial.steps ++ map hold (tab (λ k. member_step l.outside l.won k (get_or l.members k 0)) l.k))
