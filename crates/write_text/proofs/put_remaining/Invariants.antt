use Rattle.std.proofs.Common.{◌≡◌, ℕ, Bool, ◌-◌, ◌+◌, eqb, length, get_or}
use Rattle.whole.specs.Words.{those, from}
use Rattle.rules.specs.Back.{remaining_of}
use Rattle.rules.specs.WriteText.{listed}
use Rattle.decimal.specs.Puts.{Left}
use Rattle.write_text.proofs.put_remaining.Given as goal

abbrev pub invariant-loop-i : goal.invariant-loop-i
invariant-loop-i l =
    let p : ℕ → Bool = λ i. eqb (get_or l.states i 0) 2 in
    record {
      bytes : Left l.initial.page (listed (remaining_of l.states)) l.page (listed (those p (from l.i (length l.states - l.i))));
      count : l.count + length (those p (from l.i (length l.states - l.i))) ≡ length (remaining_of l.states);
    }
