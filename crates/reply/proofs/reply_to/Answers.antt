-- `reply::reply_to` meets its contract: the call's outputs are fit to be written, and what is written is the reply. Assumes nothing.
use Rattle.std.proofs.Common.{refl}
use Rattle.reply.specs.CallLaws.{gives_fair, gives_shown}
use Rattle.reply.proofs.reply_to.Goals as goal

pub put_reply-requires : goal.put_reply-requires
put_reply-requires c = (c.requires, (gives_fair refl refl c.reduce-reduction.ensures).0)

pub returns : goal.returns
returns c = gives_shown refl refl c.reduce-reduction.ensures c.put_reply.ensures
