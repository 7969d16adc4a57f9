use Rattle.std.proofs.Common.{◌+◌, ◌-◌}
use Rattle.rules.specs.Run as rule
use Rattle.run.specs.Course.{ToPass}
use Rattle.run.proofs.passes.Given as goal

abbrev pub invariant-loop-g : goal.invariant-loop-g
invariant-loop-g l = ToPass l.budget l.options (rule.run l.budget l.options (rule.begin l.options l.fn.g)) l.g l.reached

abbrev pub decreases-loop-g : goal.decreases-loop-g
decreases-loop-g l = l.budget - (l.reached.state.takes + l.reached.state.blocks)
