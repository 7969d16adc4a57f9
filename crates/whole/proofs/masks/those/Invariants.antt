use Rattle.std.proofs.Common.{◌≡◌, ℕ, Bool, ◌<◌}
use Rattle.whole.specs.Sift.{Sifted}
use Rattle.whole.proofs.masks.those.Given as goal

abbrev pub invariant-loop-j : goal.invariant-loop-j
invariant-loop-j g l = record {
  can : (goal.iterator-loop-j g).can_next l.j-iterator;
  ends : (goal.iterator-loop-j g).is_finite l.j-iterator;
  sifted : (p : ℕ → Bool) → ((k : ℕ) (b : Bool) → k < 64 → goal.F-post g l.passes k b → b ≡ p k) → Sifted p l.of l.j-iterator.0 l.found;
}
