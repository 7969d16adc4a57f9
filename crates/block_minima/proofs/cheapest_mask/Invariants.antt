use Rattle.std.proofs.Common.{◌≡◌, ◌-◌}
use Rattle.rules.specs.SmallBlock.{inner, cheapest}
use Rattle.block_minima.specs.Weights.{weights}
use Rattle.block_minima.proofs.cheapest_mask.Given as goal

abbrev pub invariant-loop-m : goal.invariant-loop-m
invariant-loop-m l = record {
  lowest : l.best ≡ cheapest (inner (weights l.linear l.edges) l.outside l.filling l.members) (l.m - 1);
  costs : l.least ≡ inner (weights l.linear l.edges) l.outside l.filling l.members l.best;
}
