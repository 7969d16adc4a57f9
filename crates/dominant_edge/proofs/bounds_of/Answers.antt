use Rattle.std.specs.Int.{w64}
use Rattle.std.proofs.Common.{to_z, of_z, ap, ◌∙◌, ◌≤◌, ◌*◌, ◌+◌, ◌+ℤ◌, ℤ, pos, get_or}
use Rattle.whole.specs.Parts.{∣◌∣}
use Rattle.whole.specs.Words.{below0, above0}
use Rattle.whole.specs.Masks.{these}
use Rattle.whole.specs.Ints.{rd}
use Rattle.whole.specs.Sum.{sum_next}
use Rattle.rules.specs.DominantEdge.{negatives, positives}
use Rattle.dominant_edge.proofs.Finding.{edges_to, lo_small, hi_small, Turn, turn, negatives_turn, positives_turn, negatives_end, positives_end, bounds_match}
use Rattle.dominant_edge.proofs.bounds_of.Goals as goal

turned : (c : goal.After-min-below) → Turn (to_z w64 c.loop-j.lo-bits) (to_z w64 c.loop-j.hi-bits) (get_or c.args.edges.now (64 * c.args.i + c.in-Some.j) (pos 0)) c.min-below.result
turned c =
    let l = c.loop-j in
    let v = l.invariant in
    let s = c.requires in
    let a = c.args in
    let e = a.edges.now in
    let small : ∣ to_z w64 (of_z w64 a.a) ∣ ≤ 1099511627776 = rw (rd c.ranges.a) s.1 in
    turn (to_z w64 l.lo-bits) (to_z w64 l.hi-bits) (get_or e (64 * a.i + c.in-Some.j) (pos 0)) c.min-below.result (lo_small e a.i s.2 (to_z w64 (of_z w64 a.a)) small a.m l.j-iterator.0 (to_z w64 l.lo-bits) v.0) (hi_small e a.i s.2 (to_z w64 (of_z w64 a.a)) small a.m l.j-iterator.0 (to_z w64 l.hi-bits) v.1)
    (s.2.each (64 * a.i + c.in-Some.j)) c.min-below.ensures.value

pub overflow_add-lo : goal.overflow_add-lo
overflow_add-lo c = (turned c).lo_fits

pub overflow_add-hi : goal.overflow_add-hi
overflow_add-hi c = (turned c).hi_fits

pub loop-j-preserved : goal.loop-j-preserved
loop-j-preserved c =
    let l = c.loop-j in
    let v = l.invariant in
    let a = c.args in
    let w : ℤ = get_or a.edges.now (64 * a.i + c.in-Some.j) (pos 0) in
    let t = turned c in
    let step = c.in-Some.ensures.steps in (
      sum_next (to_z w64 l.lo-bits) _ (below0 w) _ _ _ t.lo_next (negatives_turn a.edges.now a.i c.in-Some.j _ _ step) v.0,
      sum_next (to_z w64 l.hi-bits) _ (above0 w) _ _ _ t.hi_next (positives_turn a.edges.now a.i c.in-Some.j _ _ step) v.1,
    )

pub returns : goal.returns
returns c =
    let a = c.args in
    let l = c.loop-j in
    let v = l.invariant in
    let s = c.requires in
    let e = a.edges.now in
    let small : ∣ to_z w64 (of_z w64 a.a) ∣ ≤ 1099511627776 = rw (rd c.ranges.a) s.1 in
    let z = c.in-None.ensures.steps.0 in
    let back = rd c.ranges.a in (
      λ g seen. bounds_match g a.a a.m a.i e seen _
          (negatives_end e a.i _ (to_z w64 l.lo-bits) _ z v.0 ∙ ap (λ (x : ℤ). x +ℤ negatives (edges_to e a.i (these a.m))) back)
          (positives_end e a.i _ (to_z w64 l.hi-bits) _ z v.1 ∙ ap (λ (x : ℤ). x +ℤ positives (edges_to e a.i (these a.m))) back),
      lo_small e a.i s.2 (to_z w64 (of_z w64 a.a)) small a.m l.j-iterator.0 (to_z w64 l.lo-bits) v.0,
      hi_small e a.i s.2 (to_z w64 (of_z w64 a.a)) small a.m l.j-iterator.0 (to_z w64 l.hi-bits) v.1,
    )
