use Rattle.std.proofs.Common.{◌≡◌, Bool, ℕ, ◌<◌, ◌≤◌, ◌-◌, List, ◌++◌, eqb, length, get_or}
use Rattle.whole.specs.Words.{those, from}
use Rattle.outputs.specs.Out.{rest}
use Rattle.outputs.specs.Listing.{Listing}
use Rattle.outputs.proofs.still_there.Given as goal

abbrev pub two : List ℕ → ℕ → Bool
two ss i = eqb (get_or ss i 0) 2

abbrev pub invariant-loop-i : goal.invariant-loop-i
invariant-loop-i l = record {
  few : l.r.len ≤ l.i;
  long : length l.r.list ≡ 64;
  each : (k : ℕ) → get_or l.r.list k 0 < 64;
  listing : Listing l.i l.r.list l.r.places l.r.len;
  all : rest l.r ++ those (two l.states) (from l.i (l.n - l.i)) ≡ those (two l.states) (from 0 l.n);
}
