use Rattle.std.proofs.Common.{ap, length, arith}
use Rattle.state.specs.StepsLaws.{made_length}
use Rattle.state.proofs.steps.Steps.len.Goals as goal

pub returns : goal.returns
returns c = omega (arith, made_length c.self.inside c.self.invariant, ap length c.self.view_is)
