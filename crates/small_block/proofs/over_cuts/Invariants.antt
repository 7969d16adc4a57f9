use Rattle.std.proofs.Common.{◌≡◌}
use Rattle.rules.specs.SmallBlock.{over_cuts}
use Rattle.whole.specs.Masks.{these}
use Rattle.small_block.specs.ByMasks.{near_by}
use Rattle.small_block.specs.Seeking.{first_of, at_cut}
use Rattle.small_block.proofs.over_cuts.Given as goal

abbrev pub invariant-loop-c : goal.invariant-loop-c
invariant-loop-c l = record {
  can : (goal.iterator-loop-c).can_next l.c-iterator;
  ends : (goal.iterator-loop-c).is_finite l.c-iterator;
  leads : over_cuts (near_by l.near) (these l.live) (these l.removed) (these l.live) ≡ first_of (at_cut (near_by l.near) (these l.live) (these l.removed)) (these l.c-iterator.0);
}
