use Rattle.std.proofs.Common.{◌++◌, [], ◌∷◌, List, ℕ, length, get_or, map, arith, sym, ap, ap₂, ◌∙◌, append-nil, length-append}
use Rattle.std.proofs.lemmas.List.{length-map}
use Rattle.whole.specs.Words.{tab}
use Rattle.whole.specs.Lists.{length_tab}
use Rattle.rules.specs.Eliminate as rule
use Rattle.rules.specs.Record.{hold}
use Rattle.rules.specs.declared.Step.{Step}
use Rattle.block_elimination.specs.Block.{member_step}
use Rattle.block_elimination.specs.BlockLaws.{held_more}
use Rattle.block_elimination.proofs.block_steps.Goals as goal

pub loop-k-init : goal.loop-k-init
unfolding tab
loop-k-init c = (omega arith, sym (append-nil _))

pub push-requires : goal.push-requires
push-requires c =
    let l = c.loop-k in
    let a = c.args in
    let step : ℕ → rule.Step = λ k. member_step a.outside.now a.won k (get_or a.members.now k 0) in
    let made = tab step l.k in
    omega (arith, c.requires.3, ap length l.invariant.1, length-append a.steps.now (map hold made), length-map made hold, length_tab step l.k)

pub loop-k-preserved : goal.loop-k-preserved
loop-k-preserved c =
    let l = c.loop-k in
    let a = c.args in
    let step : ℕ → rule.Step = λ k. member_step a.outside.now a.won k (get_or a.members.now k 0) in
    (omega arith, c.push.ensures ∙ ap₂ (λ (xs : List Step) (y : Step). xs ++ y ∷ []) l.invariant.1 c.member_step.ensures ∙ held_more a.steps.now step l.k)
