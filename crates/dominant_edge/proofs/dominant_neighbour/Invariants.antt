use Rattle.std.proofs.Common.{◌≡◌}
use Rattle.whole.specs.Masks.{these}
use Rattle.rules.specs.Graph.{Graph, neighbours}
use Rattle.rules.specs.DominantEdge.{dominates, first}
use Rattle.dominant_edge.specs.Answer.{MatchesAt}
use Rattle.dominant_edge.proofs.dominant_neighbour.Given as goal

abbrev pub invariant-loop-j : goal.invariant-loop-j
invariant-loop-j l =
    (g : Graph) → MatchesAt l.a l.m l.i l.edges g → first (dominates g l.i) (these l.j-iterator.0) ≡ first (dominates g l.i) (neighbours g l.i)
