use Rattle.std.specs.Int.{w64}
use Rattle.std.proofs.Common.{◌≡◌, ◌≤◌, ◌+◌, ◌*◌, ℕ, Bool, List, Option, ℤ, pos, get_or, to_z, of_z, sym, ap, ◌∙◌, arith}
use Rattle.whole.specs.Parts.{∣◌∣}
use Rattle.whole.specs.Ints.{rd}
use Rattle.whole.specs.Fits.{read}
use Rattle.rules.specs.Graph.{Graph, edge}
use Rattle.accepted_laws.specs.Small.{Small}
use Rattle.dominant_edge.specs.declared.Bounds.{Bounds}
use Rattle.dominant_edge.specs.Answer.{bounds_at, test_of, MatchesAt, BoundsAre}
use Rattle.dominant_edge.proofs.Finding.{first_passes, first_fails, first_none}
use Rattle.dominant_edge.proofs.dominant_neighbour.Goals as goal

-- the test at hand is of the bounds and the edge of a graph that matches
tested : (g : Graph) (e : List ℤ) (a : ℤ) (m i j : ℕ) (b : Bounds) (r : Option Bool) → MatchesAt a m i e g → Small 2199023255552 e → BoundsAre b a m i e → r ≡ test_of b (to_z w64 (of_z w64 (get_or e (64 * i + j) (pos 0)))) → r ≡ test_of (bounds_at g i) (edge g i j)
tested g e a m i j b r seen s are t =
    let small : ∣ get_or e (64 * i + j) (pos 0) ∣ ≤ 2199023255552 = s.each (64 * i + j) in
    (rw (are g seen, read (get_or e (64 * i + j) (pos 0)) (omega arith)) at t) ∙ ap (λ (x : List ℤ). test_of (bounds_at g i) (get_or x (64 * i + j) (pos 0))) (sym seen.edges)

-- a graph that matches, with the weight as it is read back
back : (a : ℤ) (m i : ℕ) (e : List ℤ) (g : Graph) → to_z w64 (of_z w64 a) ≡ a → MatchesAt a m i e g → MatchesAt (to_z w64 (of_z w64 a)) m i e g
back a m i e g is seen = record { weight = seen.weight ∙ sym is; around = seen.around; edges = seen.edges }

pub returns-in-Some-test_edge : goal.returns-in-Some-test_edge
returns-in-Some-test_edge c =
    let a = c.args in
    let e = a.edges.now in
    let i = a.i in
    let j = c.in-Some.j in
    let b = c.bounds_of-bounds in
    λ g given.
    let seen = back a.a a.m i e g (rd c.ranges.a) given in
    let t = tested g e (to_z w64 (of_z w64 a.a)) a.m i j b.result c.test_edge.result seen c.requires.2 b.ensures.0 c.test_edge.ensures in
    first_passes g i j _ _ c.test_edge.result c.in-Some.ensures.steps t c.in-Some-test_edge.weak c.in-Some-test_edge.is (c.loop-j.invariant g seen)

pub loop-j-preserved : goal.loop-j-preserved
loop-j-preserved c =
    let a = c.args in
    let e = a.edges.now in
    let i = a.i in
    let j = c.in-Some.j in
    let b = c.bounds_of-bounds in
    λ g seen.
    let t = tested g e (to_z w64 (of_z w64 a.a)) a.m i j b.result c.test_edge.result seen c.requires.2 b.ensures.0 c.test_edge.ensures in
    first_fails g i j _ _ c.test_edge.result c.in-Some.ensures.steps t c.in_default.is (c.loop-j.invariant g seen)

pub returns : goal.returns
returns c =
    let a = c.args in
    λ g given. first_none g a.i _ c.in-None.ensures.steps.0 (c.loop-j.invariant g (back a.a a.m a.i a.edges.now g (rd c.ranges.a) given))
