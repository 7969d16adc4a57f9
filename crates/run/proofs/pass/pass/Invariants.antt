use Rattle.std.proofs.Common.{◌+◌, ◌-◌, ◌≤◌}
use Rattle.rules.specs.Run as rule
use Rattle.run.specs.Course.{ToPass, InPass}
use Rattle.run.proofs.pass.pass.Given as goal

abbrev pub invariant-loop-first : goal.invariant-loop-first
invariant-loop-first l = record {
  spent : l.fn.at.state.takes + l.fn.at.state.blocks ≤ l.at.state.takes + l.at.state.blocks;
  course : (E : rule.Ended) → ToPass l.budget l.options E l.fn.g l.fn.at → InPass l.budget l.options E l.g l.at l.q.who;
}

abbrev pub decreases-loop-first : goal.decreases-loop-first
decreases-loop-first l = l.budget - (l.at.state.takes + l.at.state.blocks)
