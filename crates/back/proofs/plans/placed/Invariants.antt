use Rattle.std.proofs.Common.{◌≡◌, ◌++◌, ◌≤◌, length, take, drop}
use Rattle.rules.specs.Back.{place}
use Rattle.back.proofs.plans.placed.Given as goal

abbrev pub invariant-loop-i : goal.invariant-loop-i
invariant-loop-i l = record {
  few : l.k ≤ l.i;
  long : length l.plan ≡ 64;
  so_far : take l.i l.plan ++ place (drop l.i l.states) (drop l.k l.answer) ≡ place l.states l.answer;
}
