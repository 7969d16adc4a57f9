use Rattle.std.proofs.Common.{◌≡◌, ◌<◌, ◌^◌, ◌∷◌, bit_or, List, ℕ, sym, ap, ◌∙◌}
use Rattle.rules.specs.SmallBlock.{Block, among}
use Rattle.whole.specs.Masks.{these}
use Rattle.whole.specs.Walks.{item_below}
use Rattle.small_block.specs.ByMasks.{near_by}
use Rattle.small_block.specs.Aside.{with_same, among_same}
use Rattle.small_block.specs.Seeking.{first_of, at_cut, over_cuts_lem, first_none, first_found, first_on}
use Rattle.small_block.proofs.over_cuts.Goals as goal

pub loop-c-init : goal.loop-c-init
loop-c-init c =
    let a = c.args in
    let near = near_by a.near.now in
    record {
      can = tt;
      ends = tt;
      leads = over_cuts_lem near (these a.live) (these a.removed) (these a.live)
          ∙ ap (first_of (at_cut near (these a.live) (these a.removed))) (sym c.cuts.ensures ∙ ap (λ (m : _). these m.0) (sym c.into_iter-c-iterator.ensures.into_iter_gives));
    }

pub single-requires : goal.single-requires
single-requires c = item_below _ _ _ c.in-Some.ensures.steps

-- with c and the removed one set aside, as one mask
aside : (near : List ℕ) (live removed c one : ℕ) (b : Block) → c < 64 → one ≡ 2 ^ c → b ≡ among (near_by near) (these (bit_or one removed)) (these (bit_or one removed)) (these live)
    → b ≡ at_cut (near_by near) (these live) (these removed) c
aside near live removed c one b l e h = h ∙ among_same (near_by near) (these (bit_or one removed)) (c ∷ these removed) (with_same c removed one l e) (these live) _ _ (with_same c removed one l e)

pub returns-in-Some-first_small : goal.returns-in-Some-first_small
returns-in-Some-first_small c =
    let a = c.args in
    let step = c.in-Some.ensures.steps in
    first_found (at_cut (near_by a.near.now) (these a.live) (these a.removed)) _ c.in-Some.c _ step c.in-Some-first_small.found
    (aside a.near.now a.live a.removed c.in-Some.c c.single.result _ (item_below _ _ _ step) c.single.ensures c.in-Some-first_small.ensures)
    ∙ sym c.loop-c.invariant.leads

pub loop-c-preserved : goal.loop-c-preserved
loop-c-preserved c =
    let a = c.args in
    let step = c.in-Some.ensures.steps in
    record {
      can = tt;
      ends = tt;
      leads = c.loop-c.invariant.leads ∙ first_on (at_cut (near_by a.near.now) (these a.live) (these a.removed)) _ c.in-Some.c _ step
          (aside a.near.now a.live a.removed c.in-Some.c c.single.result _ (item_below _ _ _ step) c.single.ensures c.in_default.ensures);
    }

pub returns : goal.returns
returns c =
    let a = c.args in
    first_none (at_cut (near_by a.near.now) (these a.live) (these a.removed)) _ c.in-None.ensures.steps.0 ∙ sym c.loop-c.invariant.leads
