use Rattle.std.proofs.Common.{◌≡◌, ◌<◌, false, ℕ, sym, ◌∙◌, arith, true}
use Rattle.whole.specs.Words.{mem, bit}
use Rattle.whole.specs.Masks.{these, mem_these, these_below}
use Rattle.whole.specs.Walks.{item_below}
use Rattle.small_block.specs.ByMasks.{near_by}
use Rattle.small_block.specs.Reaching.{reach_begins, reach_all, reach_stop, reach_turn, reach_less}
use Rattle.small_block.proofs.falls_apart.Goals as goal
use Rattle.small_block.proofs.falls_apart.Goals.{Start, In-Some, After-without-new}

-- who is not in a mask is not among its decisions
free : (aside u : ℕ) → u < 64 → bit aside u ≡ false → mem u (these aside) ≡ false
free aside u l h = mem_these aside u l ∙ h

asked : (aside around : ℕ) → ((k : ℕ) → mem k (these around) ≡ true → bit aside k ≡ false) → (k : ℕ) → mem k (these around) ≡ true → mem k (these aside) ≡ false
asked aside around h k m = free aside k (these_below around k m) (h k m)

pub loop-left-init : goal.loop-left-init
loop-left-init c =
    let a = c.args in
    record {
      left_fits = omega arith;
      reaching = reach_begins (near_by a.near.now) c.requires.0 (these a.aside) a.u a.around a.aside c.single.result c.without-left.result
          c.requires.1 (free a.aside a.u c.requires.1 c.requires.2) (λ k b. sym (mem_these a.aside k b)) c.single.ensures c.without-left.ensures;
    }

pub returns-in_default : goal.returns-in_default
returns-in_default c =
    let a = c.args in
    let l = c.loop-left in
    reach_stop a.near.now c.requires.0 c.requires.1 (free a.aside a.u c.requires.1 c.requires.2) (asked a.aside a.around c.requires.3) l.invariant.reaching
    c.in_default.ensures.steps.0 c.loop-left-test.true l.invariant.left_fits

pub offset_bounds-near-j : goal.offset_bounds-near-j
offset_bounds-near-j c = omega (arith, item_below _ _ _ c.in-Some.ensures.steps)

pub bounds-near-j : goal.bounds-near-j
bounds-near-j c = item_below _ _ _ c.in-Some.ensures.steps

pub loop-left-preserved : goal.loop-left-preserved
loop-left-preserved c =
    let a = c.args in
    record {
      left_fits = omega arith;
      reaching = reach_turn a.near.now c.requires.0 c.requires.1 (free a.aside a.u c.requires.1 c.requires.2) (asked a.aside a.around c.requires.3) c.loop-left.invariant.reaching
          c.in-Some.j c.next.new.self.0 c.in-Some.ensures.steps c.without-new.result c.without-new.ensures c.without-left-in-loop-left.result c.without-left-in-loop-left.ensures;
    }

pub loop-left-smaller : goal.loop-left-smaller
loop-left-smaller c =
    let a = c.args in
    reach_less a.near.now c.requires.0 c.requires.1 (free a.aside a.u c.requires.1 c.requires.2) (asked a.aside a.around c.requires.3) c.loop-left.invariant.reaching
    c.in-Some.j c.next.new.self.0 c.in-Some.ensures.steps c.without-new.result c.without-new.ensures (omega arith) (omega arith)

pub returns : goal.returns
returns c =
    let a = c.args in
    reach_all a.near.now c.requires.0 c.requires.1 (free a.aside a.u c.requires.1 c.requires.2) (asked a.aside a.around c.requires.3) c.loop-left.invariant.reaching
    c.loop-left-test.false
