use Rattle.low_degree.proofs.Laws.{sums_fit, deltas_are}
use Rattle.whole.specs.Ints.{rd}
use Rattle.low_degree.proofs.deltas.Goals as goal

pub overflow_add-result-12 : goal.overflow_add-result-12
overflow_add-result-12 c = let a = c.args in let m = sums_fit a.a a.near.weights c.requires.0 c.requires.1 in rw (rd m.a0, rd m.x0, rd m.y0, rd m.z0, rd m.s1, rd m.s3) m.s7

pub returns : goal.returns
returns c = let a = c.args in let m = sums_fit a.a a.near.weights c.requires.0 c.requires.1 in
    rw (rd m.a0, rd m.x0, rd m.y0, rd m.z0, rd m.s1, rd m.s2, rd m.s3, rd m.s4, rd m.s5, rd m.s6, rd m.s7) (deltas_are a.a a.near.weights)
