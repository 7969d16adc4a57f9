-- `write_text::put_reply` meets its contract: each arm writes what its answer says. Assumes nothing.
use Rattle.write_text.specs.Outcomes.{replied}
use Rattle.write_text.proofs.put_reply.Goals as goal

pub returns-in-Ok : goal.returns-in-Ok
unfolding replied
returns-in-Ok c = rw c.in-Ok.is c.put_result.ensures

pub returns-in-Err : goal.returns-in-Err
unfolding replied
returns-in-Err c = rw (c.in-Err.is, ← c.from.ensures) c.put_refusal.ensures
