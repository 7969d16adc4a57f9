use Rattle.std.proofs.Common.{sym, ◌∙◌}
use Rattle.block_elimination.specs.BlockLaws.{drops_more, drops_none}
use Rattle.block_elimination.proofs.drop_all.Goals as goal

pub loop-i-preserved : goal.loop-i-preserved
loop-i-preserved c =
    let l = c.loop-i in
    sym (drops_more c.args.members.now l.i-index l.g c.drop_to.new.self c.loop-i-test.true c.drop_to.ensures) ∙ l.invariant

pub returns : goal.returns
returns c =
    let l = c.loop-i in
    sym (drops_none c.args.members.now l.i-index l.g c.loop-i-test.false) ∙ l.invariant
