use Rattle.std.proofs.Common.{◌≡◌, ◌++◌, length}
use Rattle.whole.specs.Masks.{these}
use Rattle.queue.specs.Items.{items}
use Rattle.queue.proofs.Queue.push_all.Given as goal

-- those who have joined, and those who are still to join
abbrev pub invariant-loop-d : goal.invariant-loop-d
invariant-loop-d l = record {
  can : (goal.iterator-loop-d).can_next l.d-iterator;
  ends : (goal.iterator-loop-d).is_finite l.d-iterator;
  head : l.next-inside.head ≡ l.initial.next-inside.head;
  waiting : l.next-inside.waiting ≡ l.initial.next-inside.waiting;
  long : length l.next-inside.places ≡ 64;
  joined : items l.next-inside ++ these l.d-iterator.0 ≡ items l.initial.next-inside ++ these l.new;
}
