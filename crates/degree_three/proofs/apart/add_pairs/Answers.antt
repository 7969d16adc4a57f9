use Rattle.std.proofs.Common.{arith}
use Rattle.degree_three.proofs.Entries.{entry_back}
use Rattle.degree_three.proofs.Taking.{table_is}
use Rattle.degree_three.proofs.Parting.{apart_none, apart_asks, apart_more, apart_all}
use Rattle.degree_three.proofs.apart.add_pairs.Goals as goal

pub loop-pair-init : goal.loop-pair-init
loop-pair-init c = let a = c.args in apart_none a.near.list a.entries a.edges.now a.masks.now c.requires.1

pub add_edge-requires : goal.add_edge-requires
add_edge-requires c =
    let a = c.args in
    let s = c.requires in
    let l = c.loop-pair in
    rw (c.from-j.ensures, c.from-k.ensures, entry_back a.entries s.2)
    (apart_asks a.near.list a.entries a.edges.now l.edges a.masks.now l.masks l.pair-index c.loop-pair-test.true l.invariant s.2 _ (table_is l.pair-index c.loop-pair-test.true) _ (λ k h. omega (arith, s.0 k h)))

pub loop-pair-preserved : goal.loop-pair-preserved
loop-pair-preserved c =
    let a = c.args in
    let s = c.requires in
    let l = c.loop-pair in
    let made = rw (c.from-j.ensures, c.from-k.ensures, entry_back a.entries s.2) at c.add_edge.ensures in
    apart_more a.near.list a.entries a.edges.now l.edges a.masks.now l.masks l.pair-index c.loop-pair-test.true l.invariant s.2 _ (table_is l.pair-index c.loop-pair-test.true)
    c.add_edge.new.edges c.add_edge.new.masks made.0 made.1

pub returns : goal.returns
returns c =
    let a = c.args in
    let l = c.loop-pair in
    apart_all a.near.list a.entries a.edges.now l.edges a.masks.now l.masks l.pair-index (omega arith) l.invariant
