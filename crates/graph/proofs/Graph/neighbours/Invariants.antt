use Rattle.std.proofs.Common.{◌≡◌, ◌++◌, get_or}
use Rattle.whole.specs.Masks.{these}
use Rattle.graph.specs.Near.{near_among}
use Rattle.graph.proofs.Graph.neighbours.Given as goal

abbrev pub invariant-loop-j : goal.invariant-loop-j
invariant-loop-j l =
    (l.near ≡ near_among l.self-inside.edges l.i l.yielded)
    × (l.yielded ++ these l.j-iterator.0 ≡ these (get_or l.self-inside.masks l.i 0))
