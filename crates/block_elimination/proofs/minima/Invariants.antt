use Rattle.std.proofs.Common.{◌≡◌, length}
use Rattle.rules.specs.SmallBlock.{inner}
use Rattle.block_minima.specs.Weights.{weights}
use Rattle.block_elimination.specs.Block.{Lowest}
use Rattle.block_elimination.proofs.minima.Given as goal

abbrev pub invariant-loop-f : goal.invariant-loop-f
invariant-loop-f l = (length l.won ≡ 4) × Lowest (λ f. inner (weights l.linear l.edges) l.outside f l.members) (length l.members) l.f l.won
