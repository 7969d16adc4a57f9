use Rattle.std.proofs.Common.{◌≡◌, ◌<◌, ◌*◌, ◌+◌, ◌-◌, refl, ◌∙◌, ap, sym, get_or, arith, length, take, drop, ℕ}
use Rattle.std.proofs.lemmas.List.{length-take-le}
use Rattle.outputs.specs.Out.{rest}
use Rattle.outputs.specs.RestLaws.{rest_few, rest_low, edges_out}
use Rattle.outputs.proofs.Rows.{rows_begin, zeros_next, rows_more, rows_end}
use Rattle.outputs.proofs.write_edges.Goals as goal

pub slice_bounds-fill-end-2 : goal.slice_bounds-fill-end-2
slice_bounds-fill-end-2 c = sym (length-take-le _ c.args.edges.now (omega arith))

pub loop-a-init : goal.loop-a-init
loop-a-init c = rows_begin c.args.e.now (rest c.args.r) _ c.args.edges.now c.fill.new.self refl c.requires.0 (c.fill.ensures.after (λ y e. e))

pub bounds-masks-i : goal.bounds-masks-i
bounds-masks-i c = rest_low c.args.r c.requires.1 c.loop-a.a c.loop-a-test.true

pub write_row-requires : goal.write_row-requires
write_row-requires c =
    let a = c.args in
    let l = c.loop-a in
    let rs = rest a.r in
    let p = c.requires in
    let low : l.a < 64 = omega (arith, rest_few a.r p.1) in
    let i : get_or rs l.a 0 < 64 = rest_low a.r p.1 l.a c.loop-a-test.true in
    let n : 64 * l.a + 64 - 64 * l.a ≡ 64 = omega arith in
    (ap (λ (m : ℕ). take m (drop (64 * l.a) l.edges)) n ∙ zeros_next a.e.now rs l.edges l.a l.invariant low, omega arith, p.1, p.2, λ j h. p.3.1.bits (get_or rs l.a 0) j i h)

pub loop-a-preserved : goal.loop-a-preserved
loop-a-preserved c =
    let a = c.args in
    let l = c.loop-a in
    let n : 64 * l.a + 64 - 64 * l.a ≡ 64 = omega arith in
    rw n (rows_more a.e.now (rest a.r) l.edges l.a l.invariant c.loop-a-test.true c.write_row.new.row c.write_row.ensures)

pub returns : goal.returns
returns c =
    let a = c.args in
    let l = c.loop-a in
    let all : l.a ≡ length (rest a.r) = omega arith in
    rows_end a.e.now (rest a.r) l.edges l.a l.invariant all (rest_few a.r c.requires.1) ∙ sym (edges_out a.r c.requires.1 a.e.now)
