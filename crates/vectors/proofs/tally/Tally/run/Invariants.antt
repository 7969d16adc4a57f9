use Rattle.std.proofs.Common.{◌≤◌, length}
use Rattle.vectors.proofs.tally.Tally.run.Given as goal

abbrev pub invariant-loop-entry : goal.invariant-loop-entry
invariant-loop-entry g l = length l.rest ≤ length l.text

abbrev pub decreases-loop-entry : goal.decreases-loop-entry
decreases-loop-entry g l = length l.rest
