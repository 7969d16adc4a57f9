use Rattle.std.proofs.Common.{◌≡◌, ◌<◌, ◌++◌, ℕ, List, get_or, length, sym, ap, ◌∙◌, subst, arith, ◌+◌, ◌-◌, bit_or, ltb-false, length-append}
use Rattle.whole.specs.Masks.{these, without, mem_these}
use Rattle.whole.specs.Walks.{these_single}
use Rattle.whole.specs.Members.{apart_at}
use Rattle.cost_laws.specs.Growth.{Network}
use Rattle.small_block.specs.ByMasks.{near_by}
use Rattle.small_block.specs.Explored.{Explored, explored_begins, explored_apart, explored_few, explored_end, explored_next}
use Rattle.small_block.proofs.grow.Goals as goal

-- the seed alone
pub join-requires : goal.join-requires
join-requires c = omega (arith, ap length c.new-found.ensures, ap length (ap these c.single-2.ensures ∙ these_single c.args.seed c.requires.1))

pub loop-i-init : goal.loop-i-init
loop-i-init c =
    let a = c.args in
    record {
      through = omega arith;
      explored = explored_begins (near_by a.near.now) c.requires.0 (these a.aside) a.seed a.aside c.single.result c.join.new.self c.requires.1
          (mem_these a.aside a.seed c.requires.1 ∙ c.requires.2) (λ k b. sym (mem_these a.aside k b)) c.single.ensures
          (c.join.ensures ∙ ap (λ (xs : List ℕ). xs ++ these c.single-2.result) c.new-found.ensures ∙ ap these c.single-2.ensures ∙ these_single a.seed c.requires.1);
    }

-- who is gone through, as the slice lends it
module _ (found slice : List ℕ) (done i : ℕ) (lent : slice ≡ found) (looked : (done < length slice) × ((d : ℕ) → i ≡ get_or slice done d)) where
  within : done < length found
  within = omega (arith, looked.0, ap length lent)

  here : i ≡ get_or found done 0
  here = looked.1 0 ∙ ap (λ (xs : List ℕ). get_or xs done 0) lent

  module _ (masks : List ℕ) (net : Network 64 (near_by masks)) {aside : List ℕ} {seed seen : ℕ} (w : Explored (near_by masks) aside seed found done seen) where
    low : i < 64
    low = subst (λ (k : ℕ). k < 64) (sym here) (apart_at 64 found done (explored_apart w) within)

    less : 64 - (done + 1) < 64 - done
    less = omega (arith, explored_few w, within)

    more : (new : ℕ) → new ≡ without (get_or masks i 0) seen → Explored (near_by masks) aside seed (found ++ these new) (done + 1) (bit_or seen new)
    more new is = explored_next masks w net within i new here is

pub offset_bounds-near-i : goal.offset_bounds-near-i
offset_bounds-near-i c = omega (arith, low c.loop-i.found c.as_slice.result.now c.loop-i.done c.in-Some.field-0.now c.as_slice.ensures c.in-Some.ensures.lookup.3 c.args.near.now c.requires.0 c.loop-i.invariant.explored)

pub bounds-near-i : goal.bounds-near-i
bounds-near-i c = low c.loop-i.found c.as_slice.result.now c.loop-i.done c.in-Some.field-0.now c.as_slice.ensures c.in-Some.ensures.lookup.3 c.args.near.now c.requires.0 c.loop-i.invariant.explored

pub join-requires-in-Some : goal.join-requires-in-Some
join-requires-in-Some c =
    let w = more c.loop-i.found c.as_slice.result.now c.loop-i.done c.in-Some.field-0.now c.as_slice.ensures c.in-Some.ensures.lookup.3 c.args.near.now c.requires.0 c.loop-i.invariant.explored c.without-new.result c.without-new.ensures in
    omega (arith, length-append c.loop-i.found (these c.without-new.result), explored_few w)

pub loop-i-smaller : goal.loop-i-smaller
loop-i-smaller c = less c.loop-i.found c.as_slice.result.now c.loop-i.done c.in-Some.field-0.now c.as_slice.ensures c.in-Some.ensures.lookup.3 c.args.near.now c.requires.0 c.loop-i.invariant.explored

pub loop-i-preserved : goal.loop-i-preserved
loop-i-preserved c =
    let a = c.args in
    let l = c.loop-i in
    let new = c.without-new.result in
    record {
      through = omega (arith, within l.found c.as_slice.result.now l.done c.in-Some.field-0.now c.as_slice.ensures c.in-Some.ensures.lookup.3, ap length c.join-in-Some.ensures, length-append l.found (these new));
      explored = subst (λ (xs : List ℕ). Explored (near_by a.near.now) (these a.aside) a.seed xs (l.done + 1) (bit_or l.seen new)) (sym c.join-in-Some.ensures)
          (more l.found c.as_slice.result.now l.done c.in-Some.field-0.now c.as_slice.ensures c.in-Some.ensures.lookup.3 a.near.now c.requires.0 l.invariant.explored new c.without-new.ensures);
    }

pub returns : goal.returns
returns c =
    let l = c.loop-i in
    let all : length l.found ≡ l.done = omega (arith, l.invariant.through, ltb-false l.done (length c.as_slice.result.now) (sym c.in_default.ensures.lookup.0), ap length c.as_slice.ensures) in
    record { is = explored_end l.invariant.explored all; marks = l.invariant.explored.marks }
