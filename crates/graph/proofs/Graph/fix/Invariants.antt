use Rattle.whole.specs.Masks.{these}
use Rattle.graph.proofs.Fixing.{Spreading}
use Rattle.graph.proofs.Graph.fix.Given as goal

abbrev pub invariant-loop-j : goal.invariant-loop-j
invariant-loop-j l = Spreading l.i l.fn.self l.self (these l.j-iterator.0)
