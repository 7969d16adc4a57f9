use Rattle.degree_three.proofs.Entries as entry
use Rattle.rules.specs.DegreeThree.{moebius}
use Rattle.whole.specs.Lists.{cons_same}
use Rattle.whole.specs.Words.{tab}
use Rattle.std.proofs.Common.{refl}
use Rattle.degree_three.proofs.moebius.Goals as goal

pub overflow_sub-u3 : goal.overflow_sub-u3
overflow_sub-u3 c = (entry.u3 c.args.t c.requires).fits

pub overflow_sub-u7 : goal.overflow_sub-u7
overflow_sub-u7 c = (entry.u7 c.args.t c.requires).fits

pub overflow_sub-e5 : goal.overflow_sub-e5
overflow_sub-e5 c = (entry.e5 c.args.t c.requires).fits

pub overflow_sub-e6 : goal.overflow_sub-e6
overflow_sub-e6 c = (entry.e6 c.args.t c.requires).fits

pub overflow_sub-e7 : goal.overflow_sub-e7
overflow_sub-e7 c = (entry.e7 c.args.t c.requires).fits

pub returns : goal.returns
unfolding tab moebius
returns c =
    let t = c.args.t in
    let s = c.requires in
    cons_same (entry.given_back t s 0)
    (cons_same (entry.s1 t s).back
    (cons_same (entry.u2 t s).back
    (cons_same (entry.u3 t s).back
    (cons_same (entry.e4 t s).back (cons_same (entry.e5 t s).back (cons_same (entry.e6 t s).back (cons_same (entry.e7 t s).back refl)))))))
