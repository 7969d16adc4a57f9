use Rattle.dominant_edge.proofs.Giving.{Keeps}
use Rattle.dominant_edge.proofs.give_edges.Given as goal

abbrev pub invariant-loop-t : goal.invariant-loop-t
invariant-loop-t l = Keeps l.turned l.row l.m l.j l.fn.g l.t-iterator.0 l.g
