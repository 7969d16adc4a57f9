use Rattle.std.proofs.Common.{refl, arith}
use Rattle.accepted_laws.specs.Small.{small_more}
use Rattle.degree_three.proofs.Entries.{entry_back}
use Rattle.degree_three.proofs.Taking.{table_is, taken_asks, taken_more, taken_all}
use Rattle.degree_three.proofs.add_pairs_to.Goals as goal

pub loop-pair-init : goal.loop-pair-init
loop-pair-init c = record { same = refl; small = small_more 2199023255552 c.requires.1 (omega arith); decisions = refl }

pub add_edge-requires : goal.add_edge-requires
add_edge-requires c =
    let a = c.args in
    let s = c.requires in
    let l = c.loop-pair in
    rw (c.from-j.ensures, c.from-k.ensures, entry_back a.entries s.2)
    (taken_asks a.near.list a.entries a.g.now l.g l.pair-index c.loop-pair-test.true l.invariant s.2 _ (table_is l.pair-index c.loop-pair-test.true) s.0)

pub loop-pair-preserved : goal.loop-pair-preserved
loop-pair-preserved c =
    let a = c.args in
    let s = c.requires in
    let l = c.loop-pair in
    taken_more a.near.list a.entries a.g.now l.g l.pair-index c.loop-pair-test.true l.invariant s.2 _ (table_is l.pair-index c.loop-pair-test.true)
    c.add_edge.new.self (rw (c.from-j.ensures, c.from-k.ensures, entry_back a.entries s.2) at c.add_edge.ensures)

pub returns : goal.returns
returns c = let l = c.loop-pair in taken_all c.args.near.list c.args.entries c.args.g.now l.g l.pair-index (omega arith) l.invariant
