use Rattle.std.proofs.Common.{arith, List, ◌≤◌, ◌≡◌, ℕ, ◌%◌, subst, ℤ, ◌+ℤ◌, to_z, w64, eq-eqb, ne_eqb, SFits}
use Rattle.std.proofs.lemmas.List.{nil_from_length}
use Rattle.std.proofs.Math.IntN.{+ℤ_idr}
use Rattle.whole.specs.Parts.{∣◌∣}
use Rattle.whole.specs.Ints.{ints, zarith, rd}
use Rattle.whole.specs.Fits.{fit}
use Rattle.rules.specs.Graph.{Graph, lin}
use Rattle.rules.specs.Size.{Within}
use Rattle.block_minima.specs.Weights.{weights, Listed, listed_tail}
use Rattle.block_minima.specs.Turns.{inner_turn, inner_end}
use Rattle.block_minima.specs.Bounds.{cost_part}
use Rattle.block_minima.proofs.inner_cost.Goals as goal
use Rattle.block_minima.proofs.inner_cost.Goals.{then-rest-eq1, else-rest-eq1}

-- the member's weight, its pulls and the sum so far fit
own : (g : Graph) → Within g → (i : ℕ) → SFits w64 (lin g i)
own g h i = fit _ (omega (arith, h.linear i))

fits : (z : ℤ) → ∣ z ∣ ≤ 17592186044416 → SFits w64 z
fits z h = fit z (omega arith)

two : (z out : ℤ) → ∣ z ∣ ≤ 1099511627776 → ∣ out ∣ ≤ 17592186044416 → SFits w64 (z +ℤ out)
two z out hz ho = simp ints (omega (zarith, hz, ho))

three : (z out in' : ℤ) → ∣ z ∣ ≤ 1099511627776 → ∣ out ∣ ≤ 17592186044416 → ∣ in' ∣ ≤ 17592186044416 → SFits w64 (z +ℤ out +ℤ in')
three z out in' hz ho hi = simp ints (omega (zarith, hz, ho, hi))

four : (s z out in' : ℤ) → ∣ s ∣ ≤ 369435906932736 → ∣ z ∣ ≤ 1099511627776 → ∣ out ∣ ≤ 17592186044416 → ∣ in' ∣ ≤ 17592186044416 → SFits w64 (s +ℤ (z +ℤ out +ℤ in'))
four s z out in' hs hz ho hi = simp ints (omega (zarith, hs, hz, ho, hi))

pub overflow_add-sum-then-rest-eq1-2 : goal.overflow_add-sum-then-rest-eq1-2
overflow_add-sum-then-rest-eq1-2 c =
    let a = c.args in
    let l = c.loop-i in
    let g = weights a.linear.now a.edges.now in
    let i : ℕ = c.in-Some.field-0-0.now in
    let z : ℤ = lin g i in
    let bound : ∣ z ∣ ≤ 1099511627776 = c.requires.0.linear i in
    let so_far = cost_part g c.requires.0 a.members.now c.requires.1.few a.outside.now c.requires.3 a.filling l.left.now a.mask l.rest (to_z w64 l.sum-bits) l.invariant.fewer l.invariant.summed in
    rw (
      rd (own g c.requires.0 i),
      rd (fits c.pull-out.result c.pull-out.ensures.1),
      rd (two z c.pull-out.result bound c.pull-out.ensures.1),
      rd (fits c.pull-within.result c.pull-within.ensures.1),
      rd (three z c.pull-out.result c.pull-within.result bound c.pull-out.ensures.1 c.pull-within.ensures.1),
    )
    (four (to_z w64 l.sum-bits) z c.pull-out.result c.pull-within.result so_far bound c.pull-out.ensures.1 c.pull-within.ensures.1)

pub loop-i-preserved : goal.loop-i-preserved
loop-i-preserved c =
    let a = c.args in
    let l = c.loop-i in
    let g = weights a.linear.now a.edges.now in
    let i : ℕ = c.in-Some.field-0-0.now in
    let later : List ℕ = c.in-Some.later.now in
    let parts = c.in-Some.ensures.cases.0 in
    let z : ℤ = lin g i in
    let bound : ∣ z ∣ ≤ 1099511627776 = c.requires.0.linear i in
    let so_far = cost_part g c.requires.0 a.members.now c.requires.1.few a.outside.now c.requires.3 a.filling l.left.now a.mask l.rest (to_z w64 l.sum-bits) l.invariant.fewer l.invariant.summed in
    let next = inner_turn l.left.now l.rest (to_z w64 l.sum-bits) _ g a.outside.now a.filling i later parts l.invariant.summed in
    let listed = listed_tail i later (subst Listed parts l.invariant.listed) in
    elim c.if-rest-eq1.branch [
      | then-rest-eq1 w ↦
          let o = w.pull-out in
          let p = w.pull-within in
          let e : to_z w64 c.if-rest-eq1.sum-bits ≡ to_z w64 l.sum-bits +ℤ (z +ℤ o.result +ℤ p.result) =
          rw (
            w.sum-is,
            rd (own g c.requires.0 i),
            rd (fits o.result o.ensures.1),
            rd (two z o.result bound o.ensures.1),
            rd (fits p.result p.ensures.1),
            rd (three z o.result p.result bound o.ensures.1 p.ensures.1),
            rd (four (to_z w64 l.sum-bits) z o.result p.result so_far bound o.ensures.1 p.ensures.1),
          ) in
          record { fewer = omega (arith, l.invariant.fewer, c.in-Some.ensures.cases.1); listed = listed; summed = rw (e, o.ensures.0, p.ensures.0, ← next, eq-eqb (l.rest % 2) 1 w.if-rest-eq1.true) }
      | else-rest-eq1 w ↦ record {
        fewer = omega (arith, l.invariant.fewer, c.in-Some.ensures.cases.1);
        listed = listed;
        summed = rw (w.sum-is, ← next, ne_eqb (l.rest % 2) 1 w.if-rest-eq1.false, +ℤ_idr (to_z w64 l.sum-bits));
      }
    ]

pub returns : goal.returns
returns c =
    let l = c.loop-i in
    let a = c.args in
    inner_end l.left.now l.rest (to_z w64 l.sum-bits) _ (weights a.linear.now a.edges.now) a.outside.now a.filling (nil_from_length l.left.now c.in_default.ensures.cases) l.invariant.summed
