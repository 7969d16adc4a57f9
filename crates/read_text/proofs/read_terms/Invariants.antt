use Rattle.std.proofs.Common.{◌≡◌, ◌-◌, [], length, take}
use Rattle.rules.specs.ReadText.{terms}
use Rattle.read_text.proofs.read_terms.Given as goal

abbrev pub invariant-loop-m : goal.invariant-loop-m
invariant-loop-m l = record {
  firsts : length l.read.firsts ≡ 1024;
  seconds : length l.read.seconds ≡ 1024;
  weights : length l.read.weights ≡ 1024;
  ahead : terms [] [] [] l.k l.text ≡ terms (take l.m l.read.firsts) (take l.m l.read.seconds) (take l.m l.read.weights) (l.k - l.m) l.rest;
}
