use Rattle.std.proofs.Common.{rules, SFits, w64, refl}
use Rattle.whole.specs.Words.{tab}
use Rattle.whole.specs.Ints.{rd}
use Rattle.block_elimination.specs.Block.{cost_at}
use Rattle.block_elimination.proofs.table.Goals as goal

pub returns : goal.returns
unfolding tab
returns c =
    let a : SFits w64 (cost_at c.args.won 0) = search rules in
    let b : SFits w64 (cost_at c.args.won 1) = search rules in
    let d : SFits w64 (cost_at c.args.won 2) = search rules in
    let e : SFits w64 (cost_at c.args.won 3) = search rules in
    rw (rd a, rd b, rd d, rd e) refl
