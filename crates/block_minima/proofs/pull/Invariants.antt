use Rattle.std.proofs.Common.{◌≡◌, drop, ◌+ℤ◌}
use Rattle.whole.specs.Words.{chosen}
use Rattle.rules.specs.Graph.{row}
use Rattle.block_minima.specs.Weights.{weights}
use Rattle.block_minima.proofs.pull.Given as goal

abbrev pub invariant-loop-j : goal.invariant-loop-j
invariant-loop-j l =
    l.sum +ℤ chosen (row (weights l.linear l.edges) l.i (drop l.j-index l.list)) l.rest ≡ chosen (row (weights l.linear l.edges) l.i l.list) l.mask
