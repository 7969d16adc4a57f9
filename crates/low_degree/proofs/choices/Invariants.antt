use Rattle.std.proofs.Common.{◌≡◌, ◌<◌, ◌≤◌, ◌+◌, ◌-◌, ◌^◌}
use Rattle.whole.specs.Words.{bits_from}
use Rattle.low_degree.proofs.Laws.{chosen_at}
use Rattle.low_degree.proofs.choices.Given as goal

abbrev pub invariant-loop-m : goal.invariant-loop-m
invariant-loop-m l =
    (l.m ≤ l.masks) × (l.bits < 2 ^ l.m) × (l.bits + bits_from (chosen_at l.fn.deltas) l.m (l.masks - l.m) ≡ bits_from (chosen_at l.fn.deltas) 0 l.masks)
