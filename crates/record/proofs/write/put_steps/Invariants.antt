use Rattle.std.proofs.Common.{◌≡◌, ◌+◌, ◌*◌, drop}
use Rattle.std.proofs.lemmas.List.Edits.{sets}
use Rattle.rules.specs.Record.{steps_bytes}
use Rattle.record.proofs.write.put_steps.Given as goal

-- what is still to be stored
abbrev pub invariant-loop-k : goal.invariant-loop-k
invariant-loop-k l = sets l.body (76 + 6 * l.k) (steps_bytes (drop l.k l.s-items)) ≡ sets l.initial.body 76 (steps_bytes l.s-items)
