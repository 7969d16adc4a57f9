use Rattle.std.proofs.Common.{get_or, pos, arith}
use Rattle.degree_three.proofs.Weights.{weight_asks, weight_few, weight_gains, constant_asks, constant_gains, absorb_made}
use Rattle.degree_three.proofs.apart.absorb_three.Goals as goal

pub add_linear-requires : goal.add_linear-requires
add_linear-requires c =
    let a = c.args in
    let s = c.requires in
    weight_asks a.entries s.2 _ c.from.result _ c.from.ensures (s.0 0 (omega arith)) (record { each = s.1.linear }) (omega arith)

pub add_linear-requires-2 : goal.add_linear-requires-2
add_linear-requires-2 c =
    let a = c.args in
    let s = c.requires in
    let one = weight_few a.entries s.2 _ c.from.result (record { each = s.1.linear }) c.add_linear.ensures in
    weight_asks a.entries s.2 _ c.from-2.result _ c.from-2.ensures (s.0 1 (omega arith)) one (omega arith)

pub add_linear-requires-3 : goal.add_linear-requires-3
add_linear-requires-3 c =
    let a = c.args in
    let s = c.requires in
    let one = weight_few a.entries s.2 _ c.from.result (record { each = s.1.linear }) c.add_linear.ensures in
    let two = weight_few a.entries s.2 _ c.from-2.result one c.add_linear-2.ensures in
    weight_asks a.entries s.2 _ c.from-3.result _ c.from-3.ensures (s.0 2 (omega arith)) two (omega arith)

pub add_pairs-requires : goal.add_pairs-requires
add_pairs-requires c = (λ k h. omega (arith, c.requires.0 k h), record { each = c.requires.1.edges }, c.requires.2)

pub overflow_add-result : goal.overflow_add-result
overflow_add-result c = constant_asks c.args.entries c.requires.2 _ c.args.constant c.requires.1.constant

pub returns : goal.returns
returns c =
    let a = c.args in
    let s = c.requires in (
      λ n ss. absorb_made (λ m. get_or a.entries m (pos 0)) a.near.list n a.constant _ a.lin.now c.add_linear.new.lin c.add_linear-2.new.lin c.add_linear-3.new.lin a.edges.now c.add_pairs.new.edges ss
          (constant_gains a.entries s.2 _ a.constant s.1.constant)
          (weight_gains a.entries s.2 _ _ c.from.ensures c.add_linear.ensures)
          (weight_gains a.entries s.2 _ _ c.from-2.ensures c.add_linear-2.ensures)
          (weight_gains a.entries s.2 _ _ c.from-3.ensures c.add_linear-3.ensures)
          (c.add_pairs.ensures.0 n _ c.add_linear-3.new.lin ss),
      c.add_pairs.ensures.1,
    )
