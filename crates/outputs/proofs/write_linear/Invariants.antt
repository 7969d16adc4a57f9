use Rattle.std.proofs.Common.{◌≡◌}
use Rattle.outputs.specs.Out.{rest}
use Rattle.outputs.proofs.Weights.{weights}
use Rattle.outputs.proofs.write_linear.Given as goal

abbrev pub invariant-loop-k : goal.invariant-loop-k
invariant-loop-k l = l.linear ≡ weights l.weights (rest l.fn.r) l.k
