use Rattle.std.proofs.Common.{sym, arith, get_or, pos}
use Rattle.whole.specs.Ints.{rd}
use Rattle.low_degree.proofs.Laws.{gains, first_asks, second_asks, pair_asks, absorb_none, absorb_one, absorb_two}
use Rattle.low_degree.proofs.absorb.Goals as goal

pub add_linear-requires : goal.add_linear-requires
add_linear-requires c =
    let a = c.args in
    let s = c.requires in
    let m = gains a.t s.3 in
    rw (c.add_constant.ensures, m.r1, m.r0, rd m.d1) (first_asks a.t s.3 a.g.now s.2 a.ends.now s.0 c.in-len1.len_at_least)

pub add_linear-requires-in-len2-up : goal.add_linear-requires-in-len2-up
add_linear-requires-in-len2-up c =
    let a = c.args in
    let s = c.requires in
    let m = gains a.t s.3 in
    rw (c.add_constant.ensures, m.r1, m.r0, rd m.d1) (first_asks a.t s.3 a.g.now s.2 a.ends.now s.0 (omega (arith, c.in-len2-up.len_at_least)))

pub overflow_sub-t2 : goal.overflow_sub-t2
overflow_sub-t2 c = let m = gains c.args.t c.requires.3 in rw (m.r2, m.r0) m.d2

pub add_linear-requires-in-len2-up-2 : goal.add_linear-requires-in-len2-up-2
add_linear-requires-in-len2-up-2 c =
    let a = c.args in
    let s = c.requires in
    let m = gains a.t s.3 in
    rw (c.add_linear-in-len2-up.ensures, c.add_constant.ensures, m.r2, m.r1, m.r0, rd m.d2, rd m.d1) (second_asks a.t s.3 a.g.now s.2 a.ends.now s.0 c.in-len2-up.len_at_least)

pub overflow_sub-t3 : goal.overflow_sub-t3
overflow_sub-t3 c = let m = gains c.args.t c.requires.3 in rw (m.r3, m.r1) m.e1

pub overflow_sub-t3-in-len2-up : goal.overflow_sub-t3-in-len2-up
overflow_sub-t3-in-len2-up c = let m = gains c.args.t c.requires.3 in rw (m.r3, m.r1, m.r2, rd m.e1) m.e2

pub overflow_add-t3 : goal.overflow_add-t3
overflow_add-t3 c = let m = gains c.args.t c.requires.3 in rw (m.r3, m.r1, m.r2, m.r0, rd m.e1, rd m.e2) m.e3

pub add_edge-requires : goal.add_edge-requires
add_edge-requires c =
    let a = c.args in
    let s = c.requires in
    let m = gains a.t s.3 in
    rw (c.add_linear-in-len2-up-2.ensures, c.add_linear-in-len2-up.ensures, c.add_constant.ensures, m.r3, m.r2, m.r1, m.r0, rd m.e1, rd m.e2, rd m.e3, rd m.d2, rd m.d1)
    (pair_asks a.t s.3 a.g.now s.2 a.ends.now s.0 c.in-len2-up.len_at_least (s.4 (omega (arith, s.1, c.in-len2-up.len_at_least))))

pub returns-in-empty : goal.returns-in-empty
returns-in-empty c =
    let a = c.args in
    let m = gains a.t c.requires.3 in
    rw (c.add_constant.ensures, m.r0) (sym (absorb_none (λ m. get_or a.t m (pos 0)) a.g.now a.ends.now c.in-empty.len_below))

pub returns-in-len1 : goal.returns-in-len1
returns-in-len1 c =
    let a = c.args in
    let m = gains a.t c.requires.3 in
    rw (c.add_linear.ensures, c.add_constant.ensures, m.r1, m.r0, rd m.d1) (sym (absorb_one (λ m. get_or a.t m (pos 0)) a.g.now a.ends.now c.in-len1.len_at_least c.in-len1.len_below))

pub returns-in-len2-up : goal.returns-in-len2-up
returns-in-len2-up c =
    let a = c.args in
    let m = gains a.t c.requires.3 in
    rw (c.add_edge.ensures, c.add_linear-in-len2-up-2.ensures, c.add_linear-in-len2-up.ensures, c.add_constant.ensures, m.r3, m.r2, m.r1, m.r0, rd m.e1, rd m.e2, rd m.e3, rd m.d2, rd m.d1)
    (sym (absorb_two (λ m. get_or a.t m (pos 0)) a.g.now a.ends.now c.in-len2-up.len_at_least))
