use Rattle.std.proofs.Common.{drop}
use Rattle.rules.specs.Record.{steps_of}
use Rattle.rules.specs.WriteText.{step_lines}
use Rattle.decimal.specs.Puts.{Left}
use Rattle.write_text.proofs.put_steps.Given as goal

abbrev pub invariant-loop-s : goal.invariant-loop-s
invariant-loop-s l = Left l.initial.page (step_lines (steps_of l.record)) l.page (step_lines (drop l.s-index (steps_of l.record)))
