use Rattle.std.proofs.Common.{◌≡◌, ℕ, ◌+◌, ◌*◌, ◌<◌, length, get_or}
use Rattle.rules.specs.Record.{no_step, step_in}
use Rattle.record.proofs.read.steps_in.Given as goal

abbrev pub invariant-loop-k : goal.invariant-loop-k
invariant-loop-k l = record {
  long : length l.step-items ≡ 64;
  read : (i : ℕ) → i < l.k → get_or l.step-items i no_step ≡ step_in l.block (76 + 6 * i);
}
