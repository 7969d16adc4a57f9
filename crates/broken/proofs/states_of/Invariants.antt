use Rattle.std.proofs.Common.{◌≡◌, true, take}
use Rattle.broken.specs.Masks.{Picks, is_unfixed, is_eliminated, all_known}
use Rattle.broken.proofs.states_of.Given as goal

abbrev pub invariant-loop-i : goal.invariant-loop-i
invariant-loop-i l = record {
  known : all_known (take l.i l.states) ≡ true;
  unfixed : Picks l.sorted.unfixed (is_unfixed l.states l.i);
  eliminated : Picks l.sorted.eliminated (is_eliminated l.states l.i);
}
