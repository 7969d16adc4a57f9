use Rattle.std.proofs.Common.{◌≡◌, ◌≤◌, length, ◌+ℤ◌}
use Rattle.rules.specs.SmallBlock.{inner}
use Rattle.block_minima.specs.Weights.{weights, Listed}
use Rattle.block_minima.proofs.inner_cost.Given as goal

abbrev pub invariant-loop-i : goal.invariant-loop-i
invariant-loop-i l = record {
  fewer : length l.left ≤ length l.members;
  listed : Listed l.left;
  summed : l.sum +ℤ inner (weights l.linear l.edges) l.outside l.filling l.left l.rest ≡ inner (weights l.linear l.edges) l.outside l.filling l.members l.mask;
}

abbrev pub decreases-loop-i : goal.decreases-loop-i
decreases-loop-i l = length l.left
