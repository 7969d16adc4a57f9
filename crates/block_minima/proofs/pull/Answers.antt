use Rattle.std.proofs.Common.{arith, List, ◌≤◌, [], ◌∷◌, ap, ◌≡◌, ℕ, ◌+◌, ◌*◌, ◌%◌, drop, length, slice_index_or, ℤ, ◌+ℤ◌, to_z, w64, eq-eqb, ne_eqb, add-one, drop-cons, length-drop, SFits}
use Rattle.std.proofs.Math.IntN.{+ℤ_idr}
use Rattle.std.proofs.lemmas.List.{nil_from_length}
use Rattle.whole.specs.Parts.{∣◌∣}
use Rattle.whole.specs.Ints.{ints, zarith, rd}
use Rattle.whole.specs.Fits.{fit}
use Rattle.rules.specs.Graph.{Graph, edge}
use Rattle.rules.specs.Size.{Within}
use Rattle.block_minima.specs.Weights.{weights}
use Rattle.block_minima.specs.Turns.{chosen_turn, chosen_end}
use Rattle.block_minima.specs.Bounds.{pull_size, pull_part}
use Rattle.block_minima.proofs.pull.Goals as goal
use Rattle.block_minima.proofs.pull.Goals.{then-rest-eq1, else-rest-eq1}

-- an edge fits, and the sum with it
module _ (g : Graph) (v : Within g) (i j : ℕ) where
  kept : SFits w64 (edge g i j)
  kept = fit _ (omega (arith, v.edges (64 * i + j)))

  more : (s : ℤ) → ∣ s ∣ ≤ 35184372088832 → SFits w64 (s +ℤ edge g i j)
  more s h = simp ints (omega (zarith, h, v.edges (64 * i + j)))

-- what is left of a list from a place on, and past its end
fewer : (q : ℕ) (list : List ℕ) → length (drop q list) ≤ length list
fewer q list = omega (arith, length-drop q list)

none_left : (q : ℕ) (list : List ℕ) → length list ≤ q → drop q list ≡ []
none_left q list h = nil_from_length (drop q list) (omega (arith, length-drop q list))

pub overflow_add-sum-then-rest-eq1 : goal.overflow_add-sum-then-rest-eq1
overflow_add-sum-then-rest-eq1 c =
    let a = c.args in
    let l = c.loop-j in
    let g = weights a.linear.now a.edges.now in
    let list = a.list.now in
    let x : ℕ = slice_index_or list l.j-index 0 in
    let so_far = pull_part g c.requires.0 list c.requires.1.few a.i (drop l.j-index list) a.mask l.rest (to_z w64 l.sum-bits) (fewer l.j-index list) l.invariant in
    rw (rd (kept g c.requires.0 a.i x)) (more g c.requires.0 a.i x (to_z w64 l.sum-bits) so_far)

pub loop-j-preserved : goal.loop-j-preserved
loop-j-preserved c =
    let a = c.args in
    let l = c.loop-j in
    let g = weights a.linear.now a.edges.now in
    let list = a.list.now in
    let x : ℕ = slice_index_or list l.j-index 0 in
    let so_far = pull_part g c.requires.0 list c.requires.1.few a.i (drop l.j-index list) a.mask l.rest (to_z w64 l.sum-bits) (fewer l.j-index list) l.invariant in
    let parts : drop l.j-index list ≡ x ∷ drop (l.j-index + 1) list = rw add-one (drop-cons list l.j-index 0 c.loop-j-test.true) in
    let next = chosen_turn (drop l.j-index list) l.rest (to_z w64 l.sum-bits) _ (edge g a.i) x (drop (l.j-index + 1) list) parts l.invariant in
    elim c.if-rest-eq1.branch [
      | then-rest-eq1 w ↦
          let e : to_z w64 c.if-rest-eq1.sum-bits ≡ to_z w64 l.sum-bits +ℤ edge g a.i x =
          rw (w.sum-is, rd (kept g c.requires.0 a.i x), rd (more g c.requires.0 a.i x (to_z w64 l.sum-bits) so_far)) in
          rw (e, ← next, eq-eqb (l.rest % 2) 1 w.if-rest-eq1.true)
      | else-rest-eq1 w ↦ rw (w.sum-is, ← next, ne_eqb (l.rest % 2) 1 w.if-rest-eq1.false, +ℤ_idr (to_z w64 l.sum-bits))
    ]

pub returns : goal.returns
returns c =
    let l = c.loop-j in
    let a = c.args in
    let g = weights a.linear.now a.edges.now in
    let list = a.list.now in
    let is = chosen_end (drop l.j-index list) l.rest (to_z w64 l.sum-bits) _ (edge g a.i) (none_left l.j-index list c.loop-j-test.false) l.invariant in
    (is, omega (arith, ap ∣◌∣ is, pull_size g c.requires.0 list c.requires.1.few a.i a.mask))
