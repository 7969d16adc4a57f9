use Rattle.std.proofs.Common.{arith, ap, refl, sym, ◌∙◌, List, true, false, ◌≤◌, ◌<◌, ◌≡◌, ℕ, ◌-◌, ◌^◌, length, ℤ, to_z, of_z, w64}
use Rattle.std.specs.Int.Signed.{lt_z}
use Rattle.std.proofs.Math.Pow.{pow_pos}
use Rattle.whole.specs.Parts.{∣◌∣}
use Rattle.whole.specs.Ints.{rd}
use Rattle.whole.specs.Fits.{fit}
use Rattle.whole.specs.Masks.{single_is}
use Rattle.rules.specs.Graph.{Graph}
use Rattle.rules.specs.Size.{Within}
use Rattle.rules.specs.SmallBlock.{inner, cheapest}
use Rattle.block_minima.specs.Weights.{weights, Listed}
use Rattle.block_minima.specs.Turns.{cheapest_next}
use Rattle.block_minima.specs.Bounds.{cost_size}
use Rattle.block_minima.proofs.cheapest_mask.Goals as goal
use Rattle.block_minima.proofs.cheapest_mask.Goals.{then-cost-least, else-cost-least}

-- the cost of a mask, that it fits, and is read as it is
module _ (g : Graph) (v : Within (weights g.linear g.edges)) (members out : List ℕ) (w : Listed members) (narrow : length out ≤ 2) (f m : ℕ) where
  bounded : ∣ inner g out f members m ∣ ≤ 184717953466368
  bounded = cost_size g v members w.few out narrow f m

  read : (z : ℤ) → z ≡ inner g out f members m → to_z w64 (of_z w64 z) ≡ inner g out f members m
  read z e = rw e (rd (fit (inner g out f members m) (omega (arith, bounded))))

pub loop-m-init : goal.loop-m-init
unfolding cheapest
loop-m-init c =
    let a = c.args in
    let r = c.requires in
    record { lowest = refl; costs = read (weights a.linear.now a.edges.now) r.0 a.members.now a.outside.now r.1 r.3 a.filling 0 c.inner_cost-least.result c.inner_cost-least.ensures }

pub loop-m-preserved : goal.loop-m-preserved
loop-m-preserved c =
    let l = c.loop-m in
    let a = c.args in
    let r = c.requires in
    let g = weights a.linear.now a.edges.now in
    let cost = inner g a.outside.now a.filling a.members.now in
    let is = read g r.0 a.members.now a.outside.now r.1 r.3 a.filling l.m c.inner_cost-cost.result c.inner_cost-cost.ensures in
    elim c.if-cost-least.branch [
      | then-cost-least w ↦
          let t : lt_z (cost l.m) (cost l.best) ≡ true = rw (← is, ← l.invariant.costs) w.if-cost-least.true in
          record {
            lowest = w.best-is ∙ sym (cheapest_next cost l.m l.best true (omega arith) l.invariant.lowest t);
            costs = rw (w.least-is, w.best-is) is;
          }
      | else-cost-least w ↦
          let t : lt_z (cost l.m) (cost l.best) ≡ false = rw (← is, ← l.invariant.costs) w.if-cost-least.false in
          record {
            lowest = w.best-is ∙ sym (cheapest_next cost l.m l.best false (omega arith) l.invariant.lowest t);
            costs = rw (w.least-is, w.best-is) l.invariant.costs;
          }
    ]

pub returns : goal.returns
returns c =
    let l = c.loop-m in
    let a = c.args in
    let r = c.requires in
    let g = weights a.linear.now a.edges.now in
    let count : ℕ = length c.args.members.now in
    let few : count < 64 = omega (arith, c.requires.1.few) in
    let last : l.m - 1 ≡ 2 ^ count - 1 = omega (arith, single_is count few, pow_pos count) in
    record {
      lowest = l.invariant.lowest ∙ ap (cheapest (inner g a.outside.now a.filling a.members.now)) last;
      costs = l.invariant.costs;
      bounded = omega (arith, ap ∣◌∣ l.invariant.costs, bounded g r.0 a.members.now a.outside.now r.1 r.3 a.filling l.best);
    }
