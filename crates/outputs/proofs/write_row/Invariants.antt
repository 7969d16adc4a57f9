use Rattle.outputs.specs.Out.{rest}
use Rattle.outputs.proofs.Rows.{Stored}
use Rattle.outputs.proofs.write_row.Given as goal

abbrev pub invariant-loop-j : goal.invariant-loop-j
invariant-loop-j l = Stored l.e (rest l.r) l.i l.j-iterator.0 l.row
