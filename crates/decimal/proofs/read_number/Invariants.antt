use Rattle.decimal.specs.ReadLaws.{SoFar}
use Rattle.decimal.proofs.read_number.Given as goal

abbrev pub invariant-loop-i : goal.invariant-loop-i
invariant-loop-i l = SoFar l.max l.end l.text l.i l.v
