use Rattle.graph.proofs.Adding.{Adding}
use Rattle.graph.proofs.shown.add_terms.Given as goal

abbrev pub invariant-loop-i : goal.invariant-loop-i
invariant-loop-i l =
    Adding l.firsts l.seconds l.term_weights l.fn.lin l.fn.edges l.fn.masks l.lin l.edges l.masks l.i-iterator.a.a.rest.now l.i-iterator.a.b.rest.now l.i-iterator.b.rest.now
