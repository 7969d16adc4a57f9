use Rattle.std.specs.Int.{w64}
use Rattle.std.proofs.Common.{◌≡◌, ℕ, ◌+◌, ◌*◌, ◌≤◌, ◌+ℤ◌, ℤ, neg_ℤ, to_z, of_z, true, false, ap, ◌∙◌, arith}
use Rattle.whole.specs.Parts.{∣◌∣}
use Rattle.whole.specs.Fits.{read, sum_fits}
use Rattle.size_laws.specs.Sizes.{neg_size}
use Rattle.size_laws.specs.SumSizes.{taken_size}
use Rattle.rules.specs.Graph.{Graph, lin, edge, neighbours, add_constant, add_linear}
use Rattle.rules.specs.DominantEdge.{positive, turn, move}
use Rattle.rules.specs.Size.{Within}
use Rattle.graph.specs.Small.{dropped_within}
use Rattle.dominant_edge.proofs.Giving.{left_dropped, left_constant, gain_fits, ready, row_gone, minus, by_turning, by_moving, step_by}
use Rattle.dominant_edge.proofs.contract.Goals as goal

-- ---- j takes the part of 1 − x
pub add_constant-requires : goal.add_constant-requires
add_constant-requires c =
    let s = c.requires in
    let small : ∣ c.linear-a.result ∣ ≤ 1099511627776 = omega (arith, ap ∣◌∣ c.linear-a.ensures, s.2.linear c.args.i) in
    let within = dropped_within 3 c.args.i c.args.g.now c.drop_to.new.self c.drop_to.ensures s.2 in
    rw (read c.linear-a.result (omega arith)) (sum_fits c.drop_to.new.self.constant c.linear-a.result (omega (arith, within.constant)) (omega arith))

pub add_linear-requires : goal.add_linear-requires
add_linear-requires c =
    let g = c.args.g.now in
    let i = c.args.i in
    let j = c.args.j in
    let s = c.requires in
    let small : ∣ c.linear-a.result ∣ ≤ 1099511627776 = omega (arith, ap ∣◌∣ c.linear-a.ensures, s.2.linear i) in
    let left = left_constant g i _ _ c.add_constant.new.self (left_dropped g i c.drop_to.new.self c.drop_to.ensures) c.add_constant.ensures in
    rw (minus c.linear-a.result (omega arith)) (omega (arith, s.1, c.known.ensures.small), gain_fits g i j s.2 _ left (neg_ℤ c.linear-a.result) (omega (arith, neg_size c.linear-a.result small)))

pub give_edges-requires : goal.give_edges-requires
give_edges-requires c =
    let g = c.args.g.now in
    let i = c.args.i in
    let s = c.requires in
    let left = left_constant g i _ _ c.add_constant.new.self (left_dropped g i c.drop_to.new.self c.drop_to.ensures) c.add_constant.ensures in
    ready g i c.args.j s.2 _ left _ c.add_linear.new.self c.add_linear.ensures c.mask-m.result c.row-row.result (omega (arith, s.1, c.known.ensures.small)) s.1 c.mask-m.ensures c.row-row.ensures

pub returns-then-w-gt0 : goal.returns-then-w-gt0
returns-then-w-gt0 c =
    let g = c.args.g.now in
    let i = c.args.i in
    let j = c.args.j in
    let s = c.requires in
    let a = c.linear-a.result in
    let w = c.edge-w.result in
    let small : ∣ a ∣ ≤ 1099511627776 = omega (arith, ap ∣◌∣ c.linear-a.ensures, s.2.linear i) in
    let short : ∣ w ∣ ≤ 2199023255552 = omega (arith, ap ∣◌∣ c.edge-w.ensures, s.2.edges (64 * i + j)) in
    let q : positive g i j ≡ true = rw (read w (omega arith), c.edge-w.ensures) at c.if-w-gt0.true in
    let more = (rw (read a (omega arith), c.linear-a.ensures) at c.add_constant.ensures) ∙ ap (add_constant (lin g i)) c.drop_to.ensures in
    let less = (rw (minus a (omega arith), c.linear-a.ensures) at c.add_linear.ensures) ∙ ap (add_linear j (neg_ℤ (lin g i))) more in (
      by_turning g i j c.give_edges.new.g q (c.give_edges.ensures g i (row_gone g i c.row-row.result c.row-row.ensures c.mask-m.result c.mask-m.ensures) ∙ ap (turn g i j (neighbours g i)) less),
      step_by g i j true c.step_over.result q c.step_over.ensures,
    )

-- ---- j takes the part of x, and gains the decision's weight and their edge
module _ (g : Graph) (w : Within g) (i j : ℕ) (x y : ℤ) (p : x ≡ lin g i) (q : y ≡ edge g i j) where
  gain : to_z w64 (of_z w64 (to_z w64 (of_z w64 x) +ℤ to_z w64 (of_z w64 y))) ≡ lin g i +ℤ edge g i j
  gain =
      let small : ∣ lin g i ∣ ≤ 1099511627776 = w.linear i in
      let short : ∣ edge g i j ∣ ≤ 2199023255552 = w.edges (64 * i + j) in
      rw (p, q, read (lin g i) (omega arith), read (edge g i j) (omega arith)) (read (lin g i +ℤ edge g i j) (omega (arith, taken_size g w i j)))

pub add_linear-requires-2 : goal.add_linear-requires-2
add_linear-requires-2 c =
    let g = c.args.g.now in
    let i = c.args.i in
    let j = c.args.j in
    let s = c.requires in
    let left = left_dropped g i c.drop_to.new.self c.drop_to.ensures in
    rw (gain g s.2 i j _ _ c.linear-a.ensures c.edge-w.ensures) (omega (arith, s.1, c.known.ensures.small), gain_fits g i j s.2 _ left (lin g i +ℤ edge g i j) (omega (arith, taken_size g s.2 i j)))

pub give_edges-requires-2 : goal.give_edges-requires-2
give_edges-requires-2 c =
    let g = c.args.g.now in
    let i = c.args.i in
    let s = c.requires in
    let left = left_dropped g i c.drop_to.new.self c.drop_to.ensures in
    ready g i c.args.j s.2 _ left _ c.add_linear-2.new.self c.add_linear-2.ensures c.mask-m.result c.row-row.result (omega (arith, s.1, c.known.ensures.small)) s.1 c.mask-m.ensures c.row-row.ensures

pub returns : goal.returns
returns c =
    let g = c.args.g.now in
    let i = c.args.i in
    let j = c.args.j in
    let s = c.requires in
    let w = c.edge-w.result in
    let short : ∣ w ∣ ≤ 2199023255552 = omega (arith, ap ∣◌∣ c.edge-w.ensures, s.2.edges (64 * i + j)) in
    let q : positive g i j ≡ false = rw (read w (omega arith), c.edge-w.ensures) at c.if-w-gt0.false in
    let more = (rw (gain g s.2 i j _ _ c.linear-a.ensures c.edge-w.ensures) at c.add_linear-2.ensures) ∙ ap (add_linear j (lin g i +ℤ edge g i j)) c.drop_to.ensures in (
      by_moving g i j c.give_edges-2.new.g q (c.give_edges-2.ensures g i (row_gone g i c.row-row.result c.row-row.ensures c.mask-m.result c.mask-m.ensures) ∙ ap (move g i j (neighbours g i)) more),
      step_by g i j false c.step_over-2.result q c.step_over-2.ensures,
    )
