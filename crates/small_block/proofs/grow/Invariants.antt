use Rattle.std.proofs.Common.{◌≤◌, ◌-◌, length}
use Rattle.whole.specs.Masks.{these}
use Rattle.small_block.specs.ByMasks.{near_by}
use Rattle.small_block.specs.Explored.{Explored}
use Rattle.small_block.proofs.grow.Given as goal

abbrev pub invariant-loop-i : goal.invariant-loop-i
invariant-loop-i l = record {
  through : l.done ≤ length l.found;
  explored : Explored (near_by l.near) (these l.aside) l.seed l.found l.done l.seen;
}

abbrev pub decreases-loop-i : goal.decreases-loop-i
decreases-loop-i l = 64 - l.done
