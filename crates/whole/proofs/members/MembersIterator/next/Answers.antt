use Rattle.std.proofs.Common.{arith}
use Rattle.whole.specs.Masks.{these_end, these_length, turn}
use Rattle.whole.proofs.members.MembersIterator.next.Goals as goal

pub returns-then-self-eq0-clause-steps : goal.returns-then-self-eq0-clause-steps
returns-then-self-eq0-clause-steps c = (these_end _ c.if-self-eq0.true, these_end _ c.if-self-eq0.true)

pub returns-clause-steps : goal.returns-clause-steps
returns-clause-steps c = (turn c.args.self.now.0 c.if-self-eq0.false (omega arith)).parts

pub returns-clause-goes : goal.returns-clause-goes
returns-clause-goes c = record {
  on = λ f. (tt, f, omega (arith, these_length c.args.self.now.0 c.if-self-eq0.false (omega arith)));
  keeps = tt;
  rests = λ f. f;
}
