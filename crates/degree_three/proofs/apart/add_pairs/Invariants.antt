use Rattle.degree_three.proofs.Parting.{Apart}
use Rattle.degree_three.proofs.apart.add_pairs.Given as goal

abbrev pub invariant-loop-pair : goal.invariant-loop-pair
invariant-loop-pair l = Apart l.near.list l.entries l.fn.edges l.fn.masks l.edges l.masks l.pair-index
