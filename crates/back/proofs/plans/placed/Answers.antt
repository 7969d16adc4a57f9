use Rattle.std.proofs.Common.{◌≡◌, refl, ap, ◌∙◌, arith, ℕ, ◌<◌, length, get_or, set, take, length-set}
use Rattle.back.proofs.PlanTurns.{put_in, put_remaining, put_other, put_all}
use Rattle.back.proofs.plans.placed.Goals as goal
use Rattle.back.proofs.plans.placed.Goals.{then-s-eq2, else-s-eq2}

pub loop-i-init : goal.loop-i-init
loop-i-init c = record { few = omega arith; long = refl; so_far = refl }

pub loop-i-preserved : goal.loop-i-preserved
loop-i-preserved c =
    let l = c.loop-i in
    let a = c.args in
    let ss = a.states.now in
    let v : c.put_in.result ≡ put_in (get_or ss l.i 0) (get_or a.answer.now l.k 0) = rw (← c.byte_at.ensures) c.put_in.ensures in
    let n : l.i < length ss = omega arith in
    let m : l.i < length l.plan = omega (arith, c.requires) in
    let h : length (set l.plan l.i c.put_in.result) ≡ 64 = length-set l.plan l.i c.put_in.result ∙ l.invariant.long in
    elim c.if-s-eq2.branch [
      | then-s-eq2 w ↦ record { few = omega arith; long = h; so_far = rw w.k-is (put_remaining ss a.answer.now l.plan _ l.i l.k _ n m v l.invariant.so_far w.if-s-eq2.true) }
      | else-s-eq2 w ↦ record { few = omega arith; long = h; so_far = rw w.k-is (put_other ss a.answer.now l.plan _ l.i l.k _ n m v l.invariant.so_far w.if-s-eq2.false) }
    ]

pub returns : goal.returns
returns c =
    let l = c.loop-i in
    let ss = c.args.states.now in
    let i : length ss ≡ l.i = omega arith in
    ap (λ (m : ℕ). take m l.plan) i ∙ put_all ss c.args.answer.now l.plan l.i l.k (omega arith) l.invariant.so_far
