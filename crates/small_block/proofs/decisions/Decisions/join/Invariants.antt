use Rattle.std.proofs.Common.{◌≡◌, ◌≤◌, ◌++◌, length, take}
use Rattle.whole.specs.Masks.{these}
use Rattle.small_block.proofs.decisions.Decisions.join.Given as goal

-- those that are there, and those that are still to join
abbrev pub invariant-loop-j : goal.invariant-loop-j
invariant-loop-j l = record {
  can : (goal.iterator-loop-j).can_next l.j-iterator;
  ends : (goal.iterator-loop-j).is_finite l.j-iterator;
  few : l.self-inside.count ≤ 64;
  long : length l.self-inside.order ≡ 64;
  joined : take l.self-inside.count l.self-inside.order ++ these l.j-iterator.0 ≡ take l.initial.self-inside.count l.initial.self-inside.order ++ these l.new;
}
