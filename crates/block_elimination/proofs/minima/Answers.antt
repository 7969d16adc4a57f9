use Rattle.std.proofs.Common.{◌≡◌, ◌<◌, ◌≤◌, ◌^◌, ℕ, ℤ, length, arith, pow_mono, length-set, ◌∙◌, subst}
use Rattle.whole.specs.Masks.{single_is}
use Rattle.rules.specs.SmallBlock.{inner}
use Rattle.block_minima.specs.Weights.{weights, Minimum}
use Rattle.block_elimination.specs.BlockLaws.{lowest_more}
use Rattle.block_elimination.proofs.minima.Goals as goal

-- the minimum at a filling that is f, however it is written
at : (c : ℕ → ℕ → ℤ) {count k mask : ℕ} {cost : ℤ} (f : ℕ) → Minimum (c k) count mask cost → k ≡ f → Minimum (c f) count mask cost
at c {count} {k} {mask} {cost} f m e = subst (λ (x : ℕ). Minimum (c x) count mask cost) e m

pub loop-f-preserved : goal.loop-f-preserved
loop-f-preserved c =
    let l = c.loop-f in
    let a = c.args in
    let own : ℕ → ℕ → ℤ = λ f. inner (weights a.linear.now a.edges.now) a.outside.now f a.members.now in
    let few : 2 ^ length a.outside.now ≤ 4 = pow_mono {j = 2} c.requires.3 in
    let here : l.f < length l.won = omega (arith, l.invariant.0, single_is (length a.outside.now) (omega (arith, c.requires.3))) in (
      length-set l.won l.f c.cheapest_mask.result ∙ l.invariant.0,
      lowest_more own (length a.members.now) l.f l.won c.cheapest_mask.result here l.invariant.1 (at own l.f c.cheapest_mask.ensures (omega arith)),
    )
