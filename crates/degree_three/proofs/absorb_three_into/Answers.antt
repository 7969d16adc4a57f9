use Rattle.rules.specs.DegreeThree.{absorb3}
use Rattle.degree_three.proofs.Entries.{entry_back}
use Rattle.degree_three.proofs.Absorbing.{asks0, asks1, asks2, pairs_ask}
use Rattle.degree_three.proofs.absorb_three_into.Goals as goal

pub add_linear-requires : goal.add_linear-requires
add_linear-requires c =
    let a = c.args in
    let s = c.requires in
    let back = entry_back a.entries s.2 in
    rw (c.from.ensures, c.add_constant.ensures, back 0, back 1) (asks0 a.near.list a.entries a.g.now c.known.ensures.small s.0 s.1 s.2)

pub add_linear-requires-2 : goal.add_linear-requires-2
add_linear-requires-2 c =
    let a = c.args in
    let s = c.requires in
    let back = entry_back a.entries s.2 in
    rw (c.from-2.ensures, c.add_linear.ensures, c.from.ensures, c.add_constant.ensures, back 0, back 1, back 2) (asks1 a.near.list a.entries a.g.now c.known.ensures.small s.0 s.1 s.2)

pub add_linear-requires-3 : goal.add_linear-requires-3
add_linear-requires-3 c =
    let a = c.args in
    let s = c.requires in
    let back = entry_back a.entries s.2 in
    rw (c.from-3.ensures, c.add_linear-2.ensures, c.from-2.ensures, c.add_linear.ensures, c.from.ensures, c.add_constant.ensures, back 0, back 1, back 2, back 4)
    (asks2 a.near.list a.entries a.g.now c.known.ensures.small s.0 s.1 s.2)

pub add_pairs_to-requires : goal.add_pairs_to-requires
add_pairs_to-requires c =
    let a = c.args in
    let s = c.requires in
    let back = entry_back a.entries s.2 in
    rw (c.add_linear-3.ensures, c.from-3.ensures, c.add_linear-2.ensures, c.from-2.ensures, c.add_linear.ensures, c.from.ensures, c.add_constant.ensures, back 0, back 1, back 2, back 4)
    (pairs_ask a.near.list a.entries a.g.now c.known.ensures.small s.0 s.1 s.2)

pub returns : goal.returns
unfolding absorb3
returns c =
    let a = c.args in
    let s = c.requires in
    let back = entry_back a.entries s.2 in
    rw (c.add_pairs_to.ensures, c.add_linear-3.ensures, c.from-3.ensures, c.add_linear-2.ensures, c.from-2.ensures, c.add_linear.ensures, c.from.ensures, c.add_constant.ensures, back 0, back 1, back 2, back 4)
