use Rattle.std.proofs.Common.{◌<◌, ◌+◌, ◌-◌, ◌^◌, length}
use Rattle.whole.specs.Masks.{these}
use Rattle.small_block.specs.ByMasks.{near_by}
use Rattle.small_block.specs.Reaching.{Reaching}
use Rattle.small_block.proofs.falls_apart.Given as goal

abbrev pub invariant-loop-left : goal.invariant-loop-left
invariant-loop-left l = record {
  left_fits : l.left < 2 ^ 64;
  reaching : Reaching (near_by l.near) (these l.aside) l.u l.around l.seen l.todo.0 l.left;
}

abbrev pub decreases-loop-left : goal.decreases-loop-left
decreases-loop-left l = 2 ^ 64 - l.seen + length (these l.todo.0)
