use Rattle.std.proofs.Common.{◌++◌, ℕ, List, get_or, length, refl, ap, ◌∙◌, subst, arith, take_all, add-one, take-suc}
use Rattle.whole.specs.Pigeon.{pigeon}
use Rattle.whole.specs.Masks.{these, these_apart}
use Rattle.small_block.specs.Tables.{Around, around_none, around_more, around_boundary}
use Rattle.small_block.proofs.boundary_of.Goals as goal

pub loop-i-init : goal.loop-i-init
loop-i-init c = around_none c.masks-masks.result.now

pub loop-i-preserved : goal.loop-i-preserved
loop-i-preserved c =
    let i : ℕ = get_or c.args.members.now c.loop-i.i-index 0 in
    let more = take-suc c.args.members.now c.loop-i.i-index 0 c.loop-i-test.true in
    rw (add-one, more) (around_more c.loop-i.invariant i (get_or c.masks-masks.result.now i 0) c.single-own.result refl c.single-own.ensures)

pub join-requires : goal.join-requires
join-requires c = omega (arith, ap length c.new-outside.ensures, pigeon 64 (these_apart c.without.result))

pub returns : goal.returns
returns c =
    let l = c.loop-i in
    let whole = take_all l.i-index c.args.members.now c.loop-i-test.false in
    c.join.ensures ∙ ap (λ (xs : List ℕ). xs ++ these c.without.result) c.new-outside.ensures ∙ ap these c.without.ensures
    ∙ around_boundary (subst (λ (xs : List ℕ). Around c.masks-masks.result.now xs l.joined l.own) whole l.invariant) c.args.g.now c.known.ensures.small c.masks-masks.ensures
