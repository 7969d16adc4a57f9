use Rattle.std.proofs.Common.{◌≡◌, drop}
use Rattle.rules.specs.Record.{sums, check}
use Rattle.record.proofs.sums.sums_of.Given as goal

abbrev pub invariant-loop-b : goal.invariant-loop-b
invariant-loop-b l = sums (record { s1 = l.sums.s1; s2 = l.sums.s2 }) (drop l.b-index l.bytes) ≡ check l.bytes
