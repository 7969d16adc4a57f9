use Rattle.std.proofs.Common.{◌-◌, ◌/◌, ◌^◌}
use Rattle.rules.specs.WriteText.{listed, choices_of}
use Rattle.decimal.specs.Puts.{Left}
use Rattle.write_text.proofs.put_choices.Given as goal

abbrev pub invariant-loop-i : goal.invariant-loop-i
invariant-loop-i l = Left l.initial.page (listed (choices_of l.k l.m)) l.page (listed (choices_of (l.k - l.i) (l.m / 2 ^ l.i)))
