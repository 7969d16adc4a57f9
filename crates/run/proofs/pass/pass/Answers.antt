use Rattle.std.proofs.Common.{◌≡◌, ◌+◌, ◌<◌, ◌≤◌, ◌∷◌, ◌∙◌, ℕ, ap, sym, arith}
use Rattle.rules.specs.Outcome.{units}
use Rattle.rules.specs.Run as rule
use Rattle.state.specs.declared.State.{State}
use Rattle.run.specs.Course.{InPass}
use Rattle.run.specs.CourseLaws.{used, countable, ready, take_cut, taken_no, taken_yes, step_room}
use Rattle.run.proofs.pass.pass.Goals as goal
use Rattle.run.proofs.pass.pass.Goals.{In-Some}

-- ---- at a turn's start
module _ (c : In-Some) where
  here : InPass c.args.budget c.args.options c.requires.0 c.loop-first.g c.loop-first.at c.loop-first.q.who
  here = c.loop-first.invariant.course c.requires.0 c.requires.1

  -- the units of the code are those of the rules' state, at most the budget
  spent : c.loop-first.at.state.takes + c.loop-first.at.state.blocks ≤ c.args.budget
  spent = let p = here in omega (arith, used _ _ _ p.state c.loop-first.g c.loop-first.at p.course, p.course.few)

  -- who waits: the front, and those behind it
  line : (E : rule.Ended) (p : InPass c.args.budget c.args.options E c.loop-first.g c.loop-first.at c.loop-first.q.who) → p.state.queue ≡ c.in-Some.first.0 ∷ c.in-Some.first.1.who
  line E p = sym p.queued ∙ c.in-Some.ensures.0

  -- a unit is left
  module _ (u : ℕ) (is : u ≡ c.loop-first.at.state.takes + c.loop-first.at.state.blocks) (more : u ≡ c.args.budget → ⊥) where
    less : c.loop-first.at.state.takes + c.loop-first.at.state.blocks < c.args.budget
    less = omega (arith, spent)

    low : (E : rule.Ended) (p : InPass c.args.budget c.args.options E c.loop-first.g c.loop-first.at c.loop-first.q.who) → units p.state < c.args.budget
    low E p = omega (arith, less, used _ _ E p.state c.loop-first.g c.loop-first.at p.course)

pub units-requires : goal.units-requires
units-requires c = omega (arith, spent (goal.at.units-requires c).In-Some, c.ranges.budget.fits)

pub returns-then-units-budget : goal.returns-then-units-budget
returns-then-units-budget c =
    let l = c.loop-first in (
      (λ E a.
          let p = l.invariant.course E a in
          take_cut _ _ E p.state l.g l.at p.course c.in-Some.first.0 c.in-Some.first.1.who (line (goal.at.returns-then-units-budget c).In-Some E p) (sym (used _ _ E p.state l.g l.at p.course) ∙ sym c.units.ensures ∙ c.if-units-budget.true)),
      l.invariant.spent,
    )

pub take-taken-requires : goal.take-taken-requires
take-taken-requires c =
    let p = here (goal.at.take-taken-requires c).In-Some in
    ready _ _ _ p.state c.loop-first.g c.loop-first.at p.course c.in-Some.first.0 c.in-Some.ensures.1

pub after-at-requires : goal.after-at-requires
after-at-requires c =
    let s = (goal.at.after-at-requires c).In-Some in
    let p = here s in
    let u : c.loop-first.at.state.takes + c.loop-first.at.state.blocks < 4294967295 = omega (arith, less s c.units.result c.units.ensures c.if-units-budget.false, c.ranges.budget.fits) in
    (countable _ _ _ p.state c.loop-first.g c.loop-first.at p.course u, omega (arith, u))

pub push-requires : goal.push-requires
push-requires c =
    let s = (goal.at.push-requires c).In-Some in
    let p = here s in
    step_room _ _ _ p.state c.loop-first.g c.loop-first.at p.course c.in-Some.first.0 c.in-Some.first.1.who (line s _ p) (low s c.units.result c.units.ensures c.if-units-budget.false _ p) c.take-taken.result c.take-taken.new.g c.take-taken.ensures c.in-Some-made.made c.in-Some-made.is

pub loop-first-smaller : goal.loop-first-smaller
loop-first-smaller c = omega (arith, less (goal.at.loop-first-smaller c).In-Some c.units.result c.units.ensures c.if-units-budget.false, ap (λ (s : State). s.takes + s.blocks) c.after-at.ensures)

pub loop-first-preserved : goal.loop-first-preserved
loop-first-preserved c =
    let l = c.loop-first in
    let s = (goal.at.loop-first-preserved c).In-Some in
    record {
      spent = omega (arith, l.invariant.spent, ap (λ (s : State). s.takes + s.blocks) c.after-at.ensures);
      course = λ E a.
          let p = l.invariant.course E a in
          rw c.after-at.ensures (taken_no _ _ E p.state l.g l.at p.course c.in-Some.first.0 c.in-Some.first.1.who (line s E p) (low s c.units.result c.units.ensures c.if-units-budget.false E p) c.take-taken.result c.take-taken.new.g c.take-taken.ensures c.in-None.is);
    }

pub loop-first-smaller-in-Some-made : goal.loop-first-smaller-in-Some-made
loop-first-smaller-in-Some-made c = omega (arith, less (goal.at.loop-first-smaller-in-Some-made c).In-Some c.units.result c.units.ensures c.if-units-budget.false, ap (λ (s : State). s.takes + s.blocks) c.after-at.ensures)

pub loop-first-preserved-in-Some-made : goal.loop-first-preserved-in-Some-made
loop-first-preserved-in-Some-made c =
    let l = c.loop-first in
    let s = (goal.at.loop-first-preserved-in-Some-made c).In-Some in
    record {
      spent = omega (arith, l.invariant.spent, ap (λ (s : State). s.takes + s.blocks) c.after-at.ensures);
      course = λ E a.
          let p = l.invariant.course E a in
          rw (c.after-at.ensures, c.push.ensures, c.rejoin-q.ensures)
          (taken_yes _ _ E p.state l.g l.at p.course c.in-Some.first.0 c.in-Some.first.1.who (line s E p) (low s c.units.result c.units.ensures c.if-units-budget.false E p) c.take-taken.result c.take-taken.new.g c.take-taken.ensures c.in-Some-made.made c.in-Some-made.is);
    }
