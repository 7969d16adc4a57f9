use Rattle.std.proofs.Common.{◌≡◌, ◌≤◌, drop}
use Rattle.accepted_laws.specs.Mass.{mass}
use Rattle.rules.specs.Fixing.{fix_all}
use Rattle.graph.proofs.Graph.fix_all.Given as goal

abbrev pub invariant-loop-i : goal.invariant-loop-i
invariant-loop-i l = (mass l.self ≤ 2199023255552) × (fix_all 0 l.fixings l.fn.self ≡ fix_all l.i (drop l.i l.fixings) l.self)
