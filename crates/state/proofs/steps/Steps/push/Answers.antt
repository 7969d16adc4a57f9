use Rattle.std.proofs.Common.{◌<◌, ◌+◌, ℕ, ap, length, arith, set, subst}
use Rattle.state.specs.Steps.{StepsKept}
use Rattle.state.specs.StepsLaws.{made_length, kept_more}
use Rattle.state.proofs.steps.Steps.push.Goals as goal

pub invariant_of-self : goal.invariant_of-self
invariant_of-self c =
    let s = c.self.inside in
    let k = c.self.invariant in
    let room : s.count < 64 = omega (arith, made_length s k, ap length c.self.view_is, c.requires) in
    subst (λ (at : ℕ). StepsKept (record { list = set s.list at c.args.step; count = s.count + 1 })) (omega arith) (kept_more s k c.args.step room)
