use Rattle.std.proofs.Common.{◌≡◌, refl, ap, ◌∙◌, arith, ℕ, ◌<◌, length, take}
use Rattle.back.proofs.PlanTurns.{entries, left_all, take_entry, take_nothing, taken_all}
use Rattle.back.proofs.plans.projected.Goals as goal
use Rattle.back.proofs.plans.projected.Goals.{then-s-eq2, else-s-eq2}

pub loop-i-init : goal.loop-i-init
loop-i-init c = record { few = omega arith; long = refl; zeros = refl; so_far = ap (entries c.args.plan.now) (left_all c.args.states.now) }

pub loop-i-preserved : goal.loop-i-preserved
loop-i-preserved c =
    let l = c.loop-i in
    let a = c.args in
    let ss = a.states.now in
    let n : l.i < length ss = omega arith in
    elim c.if-s-eq2.branch [
      | then-s-eq2 w ↦ rw (w.out-is, w.k-is, w.byte_at.ensures) (take_entry ss a.plan.now l.out l.k l.i l.invariant c.requires n w.if-s-eq2.true)
      | else-s-eq2 w ↦ rw (w.out-is, w.k-is) (take_nothing ss a.plan.now l.out l.k l.i l.invariant c.requires n w.if-s-eq2.false)
    ]

pub returns : goal.returns
returns c =
    let l = c.loop-i in
    let ss = c.args.states.now in
    let i : length ss ≡ l.i = omega arith in
    ap (λ (m : ℕ). take m l.out) i ∙ taken_all ss c.args.plan.now l.out l.k l.i l.invariant c.requires i
