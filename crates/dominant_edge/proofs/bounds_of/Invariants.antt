use Rattle.std.proofs.Common.{◌≡◌, ◌+ℤ◌}
use Rattle.whole.specs.Masks.{these}
use Rattle.rules.specs.DominantEdge.{negatives, positives}
use Rattle.dominant_edge.proofs.Finding.{edges_to}
use Rattle.dominant_edge.proofs.bounds_of.Given as goal

abbrev pub invariant-loop-j : goal.invariant-loop-j
invariant-loop-j l =
    (l.lo +ℤ negatives (edges_to l.edges l.i (these l.j-iterator.0)) ≡ l.a +ℤ negatives (edges_to l.edges l.i (these l.m)))
    × (l.hi +ℤ positives (edges_to l.edges l.i (these l.j-iterator.0)) ≡ l.a +ℤ positives (edges_to l.edges l.i (these l.m)))
