use Rattle.whole.specs.Masks.{these}
use Rattle.small_block.specs.ByMasks.{near_by}
use Rattle.small_block.specs.Seeking.{Seeking}
use Rattle.small_block.proofs.first_small.Given as goal

abbrev pub invariant-loop-s : goal.invariant-loop-s
invariant-loop-s l = record {
  can : (goal.iterator-loop-s).can_next l.s-iterator;
  ends : (goal.iterator-loop-s).is_finite l.s-iterator;
  seeking : Seeking (near_by l.near) (these l.aside) (these l.live) l.s-iterator.0 l.seen;
}
