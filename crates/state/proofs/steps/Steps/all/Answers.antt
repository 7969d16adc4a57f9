use Rattle.std.proofs.Common.{sym, ap, ◌∙◌, length, List, ℕ, ◌++◌, ◌-◌, replicate, take}
use Rattle.rules.specs.declared.Step.{Step}
use Rattle.rules.specs.Record.{no_step}
use Rattle.state.specs.StepsLaws.{made_length}
use Rattle.state.proofs.steps.Steps.all.Goals as goal

pub returns : goal.returns
returns c =
    let s = c.self.inside in
    c.self.invariant.list
    ∙ ap (λ (k : ℕ). take s.count s.list ++ replicate (64 - k) no_step) (sym (made_length s c.self.invariant))
    ∙ ap (λ (made : List Step). made ++ replicate (64 - length made) no_step) c.self.view_is
