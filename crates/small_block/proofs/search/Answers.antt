use Rattle.std.proofs.Common.{◌≡◌, ◌<◌, ◌^◌, [], ◌∷◌, List, ℕ, sym, ap, ◌∙◌}
use Rattle.rules.specs.SmallBlock.{Block, members, none, or_else, over_cuts, search}
use Rattle.whole.specs.Masks.{these, these_none}
use Rattle.whole.specs.Walks.{item_below, these_single}
use Rattle.small_block.specs.ByMasks.{near_by}
use Rattle.small_block.specs.Seeking.{first_of, search_lem, first_none, first_found, first_on}
use Rattle.small_block.proofs.search.Goals as goal

-- what the rules search where one is removed
abbrev one_removed : List ℕ → ℕ → ℕ → Block
one_removed near live r = over_cuts (near_by near) (these live) (r ∷ []) (these live)

-- where the mask is of nobody, and of one
nobody_is : (near : List ℕ) (live : ℕ) (b : Block) → b ≡ over_cuts (near_by near) (these live) (these 0) (these live) → b ≡ over_cuts (near_by near) (these live) [] (these live)
nobody_is near live b h = h ∙ ap (λ (xs : List ℕ). over_cuts (near_by near) (these live) xs (these live)) these_none

one_is : (near : List ℕ) (live r one : ℕ) (b : Block) → r < 64 → one ≡ 2 ^ r → b ≡ over_cuts (near_by near) (these live) (these one) (these live) → b ≡ one_removed near live r
one_is near live r one b l e h = h ∙ ap (λ (xs : List ℕ). over_cuts (near_by near) (these live) xs (these live)) (ap these e ∙ these_single r l)

-- then the others decide
module _ (near : List ℕ) (live : ℕ) where
  led : (b : Block) → b ≡ over_cuts (near_by near) (these live) (these 0) (these live) → search (near_by near) (these live) ≡ or_else b (first_of (one_removed near live) (these live))
  led b h = search_lem (near_by near) (these live) ∙ ap (λ (x : Block). or_else x (first_of (one_removed near live) (these live))) (sym (nobody_is near live b h))

pub returns-in-Some : goal.returns-in-Some
returns-in-Some c = sym (led c.args.near.now c.args.live (members c.in-Some.found) c.in-Some.ensures)

pub loop-r-init : goal.loop-r-init
loop-r-init c =
    let a = c.args in
    record {
      can = tt;
      ends = tt;
      leads = led a.near.now a.live none c.in_default.ensures ∙ ap (λ (m : _). first_of (one_removed a.near.now a.live) (these m.0)) (sym c.into_iter-r-iterator.ensures.into_iter_gives);
    }

pub single-requires : goal.single-requires
single-requires c = item_below _ _ _ c.in-Some-r.ensures.steps

pub returns-in-Some-over_cuts : goal.returns-in-Some-over_cuts
returns-in-Some-over_cuts c =
    let a = c.args in
    let step = c.in-Some-r.ensures.steps in
    first_found (one_removed a.near.now a.live) _ c.in-Some-r.r _ step c.in-Some-over_cuts.found
    (one_is a.near.now a.live c.in-Some-r.r c.single.result _ (item_below _ _ _ step) c.single.ensures c.in-Some-over_cuts.ensures)
    ∙ sym c.loop-r.invariant.leads

pub loop-r-preserved : goal.loop-r-preserved
loop-r-preserved c =
    let a = c.args in
    let step = c.in-Some-r.ensures.steps in
    record {
      can = tt;
      ends = tt;
      leads = c.loop-r.invariant.leads ∙ first_on (one_removed a.near.now a.live) _ c.in-Some-r.r _ step
          (one_is a.near.now a.live c.in-Some-r.r c.single.result _ (item_below _ _ _ step) c.single.ensures c.in_default-over_cuts.ensures);
    }

pub returns : goal.returns
returns c =
    let a = c.args in
    first_none (one_removed a.near.now a.live) _ c.in-None.ensures.steps.0 ∙ sym c.loop-r.invariant.leads
