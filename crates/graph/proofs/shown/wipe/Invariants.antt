use Rattle.whole.specs.Masks.{these}
use Rattle.graph.proofs.Wiping.{Wiping}
use Rattle.graph.proofs.shown.wipe.Given as goal

abbrev pub invariant-loop-j : goal.invariant-loop-j
invariant-loop-j l = Wiping l.i l.fn.edges l.fn.masks l.edges l.masks (these l.j-iterator.0)
