use Rattle.std.specs.Int.{w64}
use Rattle.std.proofs.Common.{SFits, rules, arith, ◌≡◌, ◌+◌, ◌*◌, pos, get_or, length, refl, ap, ◌∙◌}
use Rattle.whole.specs.Ints.{rd}
use Rattle.rules.specs.Graph.{Graph}
use Rattle.graph.specs.Near.{near_at}
use Rattle.graph.specs.NearLaws.{near_more, near_full}
use Rattle.graph.specs.declared.Near.{Near}
use Rattle.graph.proofs.Nearing.{near_room, near_on, near_end}
use Rattle.graph.proofs.Graph.neighbours.Goals as goal
use Rattle.graph.proofs.Graph.neighbours.Goals.{then-near-lt3, else-near-lt3}

pub loop-j-init : goal.loop-j-init
loop-j-init c = rw c.into_iter-j-iterator.ensures.into_iter_gives (refl, refl)

pub overflow_add-near-in-loop-j : goal.overflow_add-near-in-loop-j
overflow_add-near-in-loop-j c =
    let l = c.loop-j in
    let room = near_room l.yielded c.in-Some.j l.j-iterator.0 c.next.new.self.0 _ l.invariant.1 c.in-Some.ensures.steps in
    let many : l.near.count ≡ length l.yielded = ap (λ (x : Near). x.count) l.invariant.0 in
    elim c.if-near-lt3.branch [
      | then-near-lt3 w ↦ omega (arith, ap (λ (x : Near). x.count) w.near-is)
      | else-near-lt3 w ↦ omega (arith, ap (λ (x : Near). x.count) w.near-is)
    ]

pub loop-j-preserved : goal.loop-j-preserved
loop-j-preserved c =
    let l = c.loop-j in
    let e = c.self.inside.edges in
    let i = c.args.i in
    let j = c.in-Some.j in
    let on = near_on l.yielded j l.j-iterator.0 c.next.new.self.0 _ l.invariant.1 c.in-Some.ensures.steps in
    elim c.if-near-lt3.branch [
      | then-near-lt3 w ↦
          let f : SFits w64 (get_or e (64 * i + j) (pos 0)) = search rules in
          rw w.near-is (near_more e i l.yielded j l.near l.invariant.0 _ (rd f) w.if-near-lt3.true, on)
      | else-near-lt3 w ↦ rw w.near-is (near_full e i l.yielded j l.near l.invariant.0 w.if-near-lt3.false, on)
    ]

pub returns : goal.returns
returns c =
    let l = c.loop-j in
    let g = c.self.inside in
    near_end g.n g.edges g.masks c.self.invariant.1 c.self.invariant.0 g.constant g.linear g.states c.args.i c.requires l.yielded l.j-iterator.0 l.near l.invariant.1 c.in-None.ensures.steps.0 l.invariant.0
    ∙ ap (λ (x : Graph). near_at x c.args.i) c.self.view_is
