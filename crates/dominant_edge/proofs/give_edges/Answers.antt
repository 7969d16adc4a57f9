use Rattle.std.specs.Int.{w64}
use Rattle.std.proofs.Common.{◌≡◌, ◌+ℤ◌, SFits, ℤ, get_or, pos, neg_ℤ, sym, ap, ◌∙◌, subst, arith, Bool}
use Rattle.whole.specs.Fits.{read}
use Rattle.size_laws.specs.Sizes.{neg_size}
use Rattle.rules.specs.Graph.{Graph, edge, add_linear, add_edge}
use Rattle.dominant_edge.proofs.Giving.{gift, keeps_same, keeps_gift, keeps_end, at_in, at_low, weight_fits, edge_fits, minus}
use Rattle.dominant_edge.proofs.give_edges.Goals as goal

pub loop-t-preserved-then-t-j : goal.loop-t-preserved-then-t-j
loop-t-preserved-then-t-j c = keeps_same c.loop-t.invariant c.in-Some.t _ c.in-Some.ensures.steps c.if-t-j.true

pub add_linear-requires : goal.add_linear-requires
add_linear-requires c =
    let k = c.loop-t.invariant in
    let step = c.in-Some.ensures.steps in
    let t = c.in-Some.t in
    let s = c.requires in
    let w : ℤ = get_or c.args.row.now t (pos 0) in
    let small = s.3.each t in
    rw (read w (omega arith)) (at_low k t _ step, weight_fits k t _ step w (s.4 t c.if-t-j.false) small)

pub add_edge-requires : goal.add_edge-requires
unfolding add_linear
add_edge-requires c =
    let k = c.loop-t.invariant in
    let step = c.in-Some.ensures.steps in
    let t = c.in-Some.t in
    let s = c.requires in
    let w : ℤ = get_or c.args.row.now t (pos 0) in
    let small = s.3.each t in
    let e = c.add_linear.ensures in
    let many : c.add_linear.new.self.n ≡ c.args.g.now.n = ap (λ (x : Graph). x.n) e ∙ k.as_many in
    rw (minus w (omega arith)) (
      omega (arith, many, s.1),
      omega (arith, many, s.2 t (k.among t (at_in k t _ step))),
      subst (λ (x : Graph). SFits w64 (edge x c.args.j t +ℤ neg_ℤ w)) (sym e) (edge_fits k t _ step (neg_ℤ w) s.5 (neg_size w small)),
    )

pub loop-t-preserved-then-turned : goal.loop-t-preserved-then-turned
loop-t-preserved-then-turned c =
    let j = c.args.j in
    let t = c.in-Some.t in
    let w : ℤ = get_or c.args.row.now t (pos 0) in
    let small = c.requires.3.each t in
    keeps_gift c.loop-t.invariant t _ c.in-Some.ensures.steps c.requires.0 c.if-t-j.false c.add_edge.new.self
    ((rw (minus w (omega arith)) at c.add_edge.ensures) ∙ ap (add_edge j t (neg_ℤ w)) (rw (read w (omega arith)) at c.add_linear.ensures) ∙ ap (λ (b : Bool). gift b j t w c.loop-t.g) (sym c.if-turned.true))

pub add_edge-requires-else-turned : goal.add_edge-requires-else-turned
add_edge-requires-else-turned c =
    let k = c.loop-t.invariant in
    let step = c.in-Some.ensures.steps in
    let t = c.in-Some.t in
    let s = c.requires in
    let w : ℤ = get_or c.args.row.now t (pos 0) in
    let small = s.3.each t in
    rw (read w (omega arith))
    (omega (arith, k.as_many, s.1), omega (arith, k.as_many, s.2 t (k.among t (at_in k t _ step))), edge_fits k t _ step w s.5 small)

pub loop-t-preserved : goal.loop-t-preserved
loop-t-preserved c =
    let t = c.in-Some.t in
    let w : ℤ = get_or c.args.row.now t (pos 0) in
    let small = c.requires.3.each t in
    keeps_gift c.loop-t.invariant t _ c.in-Some.ensures.steps c.requires.0 c.if-t-j.false c.add_edge-else-turned.new.self
    ((rw (read w (omega arith)) at c.add_edge-else-turned.ensures) ∙ ap (λ (b : Bool). gift b c.args.j t w c.loop-t.g) (sym c.if-turned.false))

pub returns : goal.returns
returns c = keeps_end c.loop-t.invariant c.in-None.ensures.steps.0
