use Rattle.std.proofs.Common.{◌≡◌, [], ◌∷◌}
use Rattle.rules.specs.SmallBlock.{over_cuts, search}
use Rattle.whole.specs.Masks.{these}
use Rattle.small_block.specs.ByMasks.{near_by}
use Rattle.small_block.specs.Seeking.{first_of}
use Rattle.small_block.proofs.search.Given as goal

abbrev pub invariant-loop-r : goal.invariant-loop-r
invariant-loop-r l = record {
  can : (goal.iterator-loop-r).can_next l.r-iterator;
  ends : (goal.iterator-loop-r).is_finite l.r-iterator;
  leads : search (near_by l.fn.near) (these l.fn.live) ≡ first_of (λ r. over_cuts (near_by l.fn.near) (these l.fn.live) (r ∷ []) (these l.fn.live)) (these l.r-iterator.0);
}
