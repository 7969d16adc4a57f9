use Rattle.degree_three.proofs.Taking.{Taken}
use Rattle.degree_three.proofs.add_pairs_to.Given as goal

abbrev pub invariant-loop-pair : goal.invariant-loop-pair
invariant-loop-pair l = Taken l.near.list l.entries l.fn.g l.g l.pair-index
