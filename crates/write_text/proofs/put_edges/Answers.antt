use Rattle.std.proofs.Common.{get_or, pos, arith, rules, SFits, w64}
use Rattle.whole.specs.Ints.{rd}
use Rattle.write_text.specs.WriteLaws.{edges_left, edges_none}
use Rattle.decimal.specs.Puts.{left_after, left_fits, left_none}
use Rattle.write_text.proofs.put_edges.Goals as goal

pub put_cell-requires : goal.put_cell-requires
put_cell-requires c =
    let l = c.loop-k in
    let es = c.args.edges.now in
    let f : SFits w64 (get_or es l.k (pos 0)) = search rules in
    rw (rd f) (omega (arith, left_fits l.invariant (edges_left es l.k (omega arith)), l.invariant.still.long), omega arith)

pub loop-k-preserved : goal.loop-k-preserved
loop-k-preserved c =
    let l = c.loop-k in
    let es = c.args.edges.now in
    let f : SFits w64 (get_or es l.k (pos 0)) = search rules in
    left_after l.invariant (edges_left es l.k (omega arith)) (rw (rd f) at c.put_cell.ensures)

pub returns : goal.returns
returns c =
    let l = c.loop-k in left_none (rw (edges_none c.args.edges.now l.k (omega arith)) at l.invariant)
