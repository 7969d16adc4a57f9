use Rattle.std.proofs.Common.{◌≡◌, Bool, true, false, ◌&&◌, leb, List, ℕ, length, refl, sym, ap, ◌∙◌}
use Rattle.rules.specs.SmallBlock.{small}
use Rattle.whole.specs.Masks.{these, mem_these}
use Rattle.whole.specs.Walks.{item_below}
use Rattle.small_block.specs.Seeking.{seek_none, seek_skip, seek_free, seek_found, seek_on}
use Rattle.small_block.proofs.first_small.Goals as goal

pub loop-s-init : goal.loop-s-init
loop-s-init c = record {
  can = tt;
  ends = tt;
  seeking = rw c.into_iter-s-iterator.ensures.into_iter_gives (record { past = these c.args.aside; leads = refl; marks = λ k b. sym (mem_these c.args.aside k b); holds = λ k m. m });
}

pub grow-found-requires : goal.grow-found-requires
grow-found-requires c =
    let step = c.in-Some.ensures.steps in
    let below = item_below _ _ _ step in
    (c.requires, below, sym (mem_these c.args.aside c.in-Some.s below) ∙ seek_free c.loop-s.invariant.seeking c.in-Some.s c.next.new.self.0 step (sym c.if-not-has.ensures))

-- the size that the slice has
sized : (found slice : List ℕ) (t : Bool) → slice ≡ found → t ≡ (leb 2 (length slice) && leb (length slice) 8) → small found ≡ t
sized found slice t e h = sym (h ∙ ap small e)

pub returns-then-is_small : goal.returns-then-is_small
returns-then-is_small c =
    let g = c.grow-found in
    seek_found c.loop-s.invariant.seeking c.in-Some.s c.next.new.self.0 c.in-Some.ensures.steps (sym c.if-not-has.ensures) g.result.0 g.result.1 g.ensures
    (sized g.result.0 c.as_slice.result.now true c.as_slice.ensures c.if-is_small.ensures)

pub loop-s-preserved-then-not-has : goal.loop-s-preserved-then-not-has
loop-s-preserved-then-not-has c =
    let g = c.grow-found in
    record {
      can = tt;
      ends = tt;
      seeking = seek_on c.loop-s.invariant.seeking c.in-Some.s c.next.new.self.0 c.in-Some.ensures.steps (sym c.if-not-has.ensures) g.result.0 g.result.1 g.ensures
          (sized g.result.0 c.as_slice.result.now false c.as_slice.ensures c.if-is_small.ensures);
    }

pub loop-s-preserved : goal.loop-s-preserved
loop-s-preserved c = record { can = tt; ends = tt; seeking = seek_skip c.loop-s.invariant.seeking c.in-Some.s c.next.new.self.0 c.in-Some.ensures.steps (sym c.if-not-has.ensures) }

pub returns : goal.returns
returns c = seek_none c.loop-s.invariant.seeking c.in-None.ensures.steps.0
