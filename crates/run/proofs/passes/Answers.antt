use Rattle.std.proofs.Common.{◌≡◌, ◌+◌, ◌<◌, ◌∙◌, [], ap, sym, arith}
use Rattle.std.proofs.lemmas.Result.{err_from_is_err_and}
use Rattle.rules.specs.Outcome.{units}
use Rattle.rules.specs.Run as rule
use Rattle.run.specs.Blocks.{due_in}
use Rattle.run.specs.BlocksLaws.{none_due, block_due, found_on, removed_holds}
use Rattle.run.specs.Course.{InPass}
use Rattle.run.specs.CourseLaws.{course_begins, used, searchable, course_onward, over_here, cut_here, removable}
use Rattle.run.specs.declared.Reached.{Reached}
use Rattle.run.proofs.passes.Goals as goal
use Rattle.run.proofs.passes.Goals.{In_ok-pass, In-Some}

pub loop-g-init : goal.loop-g-init
loop-g-init c = rw c.requires.1 (course_begins c.args.budget c.args.options c.args.g.now c.requires.0)

-- cut short in a pass
pub returns-in_err-pass : goal.returns-in_err-pass
returns-in_err-pass c =
    let e = err_from_is_err_and c.from_residual.result c.from_residual.ensures.1 in
    rw e.1 (c.in_err-pass.ensures.0 _ c.loop-g.invariant)

-- ---- nobody waits
rest : (c : In_ok-pass) → InPass c.args.budget c.args.options (rule.run c.args.budget c.args.options (rule.begin c.args.options c.args.g.now)) c.pass.new.g c.pass.new.at []
rest c = c.in_ok-pass.ensures.0 _ c.loop-g.invariant

pub due_block-requires : goal.due_block-requires
due_block-requires c = let p = rest c in searchable _ _ _ p.state c.pass.new.g c.pass.new.at p.course

pub returns-in_default : goal.returns-in_default
returns-in_default c =
    let p = rest (goal.at.returns-in_default c).In_ok-pass in
    over_here _ _ _ p.state c.pass.new.g c.pass.new.at p.course (none_due c.args.options p.state (sym p.queued) (c.in_default.ensures ∙ ap (due_in c.args.options) p.course.holds.graph))

pub units-requires : goal.units-requires
units-requires c =
    let p = rest (goal.at.units-requires c).In_ok-pass in
    omega (arith, used _ _ _ p.state c.pass.new.g c.pass.new.at p.course, p.course.few, c.ranges.budget.fits)

-- ---- a block is due
module _ (c : In-Some) (E : rule.Ended) (p : InPass c.args.budget c.args.options E c.pass.new.g c.pass.new.at []) where
  block : rule.next c.args.options p.state ≡ rule.due (rule.blocked c.args.options c.in-Some.found p.state)
  block = block_due c.args.options p.state (sym p.queued) c.in-Some.found (c.in-Some.ensures ∙ ap (due_in c.args.options) p.course.holds.graph)

  used_here : c.pass.new.at.state.takes + c.pass.new.at.state.blocks ≡ units p.state
  used_here = used _ _ _ p.state c.pass.new.g c.pass.new.at p.course

pub returns-then-units-budget : goal.returns-then-units-budget
returns-then-units-budget c =
    let s = (goal.at.returns-then-units-budget c).In-Some in
    let p = rest (goal.at.returns-then-units-budget c).In_ok-pass in
    cut_here _ _ _ p.state c.pass.new.g c.pass.new.at p.course _ (block s _ p) (sym (used_here s _ p) ∙ sym c.units.ensures ∙ c.if-units-budget.true)

-- ---- a unit is left
pub take_block-requires : goal.take_block-requires
take_block-requires c =
    let s = (goal.at.take_block-requires c).In-Some in
    let p = rest (goal.at.take_block-requires c).In_ok-pass in
    rw c.as_slice.ensures (removable _ _ _ p.state c.pass.new.g c.pass.new.at p.course c.in-Some.found (found_on c.args.options c.pass.new.g c.in-Some.found c.in-Some.ensures)
    (omega (arith, used_here s _ p, p.course.few, c.units.ensures, c.if-units-budget.false, c.ranges.budget.fits)))

pub loop-g-smaller : goal.loop-g-smaller
loop-g-smaller c =
    let s = (goal.at.loop-g-smaller c).In-Some in
    let p = rest (goal.at.loop-g-smaller c).In_ok-pass in
    omega (arith, used_here s _ p, p.course.few, c.units.ensures, c.if-units-budget.false, c.in_ok-pass.ensures.1, ap (λ (r : Reached). r.state.takes + r.state.blocks) c.take_block.ensures.1)

pub loop-g-preserved : goal.loop-g-preserved
unfolding rule.blocked
loop-g-preserved c =
    let s = (goal.at.loop-g-preserved c).In-Some in
    let p = rest (goal.at.loop-g-preserved c).In_ok-pass in
    let less : units p.state < c.args.budget = omega (arith, used_here s _ p, p.course.few, c.units.ensures, c.if-units-budget.false) in
    let h = removed_holds c.args.options p.state c.pass.new.g c.take_block.new.g c.pass.new.at c.take_block.new.at c.in-Some.found p.course.holds (rw (← c.as_slice.ensures) c.take_block.ensures.0) (rw (← c.as_slice.ensures) c.take_block.ensures.1) in
    record {
      state = rule.blocked c.args.options c.in-Some.found p.state;
      course = course_onward _ _ _ p.state c.pass.new.g c.pass.new.at p.course _ c.take_block.new.g c.take_block.new.at less (block s _ p) h;
      queued = ap (rule.waiting c.args.options) h.graph;
    }
