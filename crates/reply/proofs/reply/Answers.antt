-- `reply::reply` meets its contract: each arm writes the reply to what the text was read as. Assumes nothing.
use Rattle.rules.specs.Program.{reply, program}
use Rattle.reply.proofs.reply.Goals as goal

pub returns-in-Ok : goal.returns-in-Ok
unfolding program
returns-in-Ok c = rw (← c.in-Ok.ensures, ← c.objective.ensures) c.reply_to.ensures

pub returns-in-Err : goal.returns-in-Err
unfolding program reply
returns-in-Err c = rw (← c.in-Err.ensures, ← c.from.ensures) c.put_refusal.ensures
