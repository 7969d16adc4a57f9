use Rattle.std.proofs.Common.{◌≡◌}
use Rattle.outputs.specs.Out.{rest}
use Rattle.outputs.proofs.Rows.{rows}
use Rattle.outputs.proofs.write_edges.Given as goal

abbrev pub invariant-loop-a : goal.invariant-loop-a
invariant-loop-a l = l.edges ≡ rows l.e (rest l.fn.r) l.a
