use Rattle.std.proofs.Common.{arith, ◌∙◌}
use Rattle.whole.specs.Ints.{rd}
use Rattle.graph.proofs.Adding.{term_fits, termed_same, termed_other}
use Rattle.graph.proofs.shown.add_term.Goals as goal

pub add_linear-requires : goal.add_linear-requires
add_linear-requires c =
    let a = c.args in
    rw (rd c.ranges.w) (omega (arith, c.requires.0), (term_fits a.i a.j a.w a.lin.now a.edges.now c.requires.2).0)

pub add_edge-requires : goal.add_edge-requires
add_edge-requires c =
    let a = c.args in
    let f = (term_fits a.i a.j a.w a.lin.now a.edges.now c.requires.2).1 in
    rw (rd c.ranges.w) (omega (arith, c.requires.0), omega (arith, c.requires.1), f _, f _)

pub returns-then-i-j : goal.returns-then-i-j
returns-then-i-j c =
    let a = c.args in
    let t = termed_same a.i a.j a.w a.lin.now a.edges.now c.if-i-j.true c.add_linear.new.lin (c.add_linear.ensures ∙ rw (rd c.ranges.w)) in
    (t.0, t.1, λ n p q s. s)

pub returns-else-i-j : goal.returns-else-i-j
returns-else-i-j c =
    let a = c.args in
    let t = termed_other a.i a.j a.w a.lin.now a.edges.now c.if-i-j.false c.add_edge.new.edges (c.add_edge.ensures.0 ∙ rw (rd c.ranges.w)) in
    (t.0, t.1, c.add_edge.ensures.1)
