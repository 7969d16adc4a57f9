use Rattle.std.proofs.Common.{◌∙◌, refl, ap, sym, ℕ, List, arith, length, take, take_all, reverse, fold}
use Rattle.std.proofs.lemmas.Iterator.Adapters.{YieldsList-from_rev_slice}
use Rattle.std.proofs.lemmas.Iterator.Consumers.{YieldsList-turn, YieldsList-end}
use Rattle.std.proofs.lemmas.List.{length_push}
use Rattle.std.proofs.lemmas.List.Sums.{fold_more}
use Rattle.rules.specs.Back.{play}
use Rattle.rules.specs.Record.{played}
use Rattle.rules.specs.declared.Step.{Step}
use Rattle.back.specs.PlayTurns.{fold_back}
use Rattle.back.proofs.play.play_back.Goals as goal

abbrev f : List ℕ → Step → List ℕ
f x s = play (played s) x

pub loop-s-init : goal.loop-s-init
loop-s-init c = refl

pub loop-s-preserved : goal.loop-s-preserved
loop-s-preserved c =
    let t = YieldsList-turn (YieldsList-from_rev_slice c.args.steps.now cc) c.loop-s.yielded _ c.loop-s.yielded_by _ _ c.in-Some.s c.in-Some.is c.next.ensures.steps in
    let all = reverse c.args.steps.now in
    let k = length c.loop-s.yielded in
    let s = c.in-Some.s.now in
    c.play_step-next.ensures ∙ ap (play (played s)) c.loop-s.invariant
    ∙ ap (λ (s : Step). f (fold f c.args.plan (take k all)) s) t.1
    ∙ sym (fold_more f c.args.plan all k s t.0)
    ∙ ap (λ (n : ℕ). fold f c.args.plan (take n all)) (sym (length_push c.loop-s.yielded c.in-Some.s))

pub returns : goal.returns
returns c =
    let t = YieldsList-end (YieldsList-from_rev_slice c.args.steps.now cc) c.loop-s.yielded _ c.loop-s.yielded_by _ _ c.in-None.is c.next.ensures.steps in
    let all = reverse c.args.steps.now in
    c.loop-s.invariant ∙ ap (fold f c.args.plan) (take_all (length c.loop-s.yielded) all (omega (arith, t.1))) ∙ fold_back c.args.steps.now c.args.plan
