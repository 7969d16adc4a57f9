use Rattle.std.proofs.Common.{◌-◌, ◌≡◌}
use Rattle.whole.specs.Words.{from, upto, all}
use Rattle.rules.specs.Record.{step_fine}
use Rattle.broken.proofs.Decided.{HasDecided}
use Rattle.broken.proofs.steps_fine.Given as goal

abbrev pub invariant-loop-s : goal.invariant-loop-s
invariant-loop-s l = record {
  fine : all (step_fine l.fn.r) (upto l.fn.r.count) ≡ all (step_fine l.fn.r) (from l.s-index (l.fn.r.count - l.s-index));
  decided : HasDecided l.fn.r l.s-index l.decided;
}
