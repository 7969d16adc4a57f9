use Rattle.back.proofs.PlanTurns.{Taken}
use Rattle.back.proofs.plans.projected.Given as goal

abbrev pub invariant-loop-i : goal.invariant-loop-i
invariant-loop-i l = Taken l.states l.plan l.out l.k l.i
