use Rattle.std.proofs.Common.{to_z, of_z, arith, inl, inr, ◌≡◌, ◌∷◌, sym}
use Rattle.std.specs.Int.{w64}
use Rattle.graph.proofs.Laws.{mass_read}
use Rattle.graph.proofs.Adding.{Adding, adding_none, term_asked, adding_turn, adding_of, no_firsts, no_seconds, no_weights}
use Rattle.graph.proofs.shown.add_terms.Goals as goal
use Rattle.graph.proofs.shown.add_terms.Goals.{In-Some}

pub loop-i-init : goal.loop-i-init
loop-i-init c =
    let a = c.args in
    let both = c.zip-i-items.ensures in
    let pair = c.zip.ensures in
    rw c.into_iter-i-iterator.ensures.into_iter_gives
    (adding_of _ _ _ _ _ _ _ _ _ (adding_none a.firsts.now a.seconds.now a.term_weights.now a.lin.now a.edges.now a.masks.now c.requires.2)
    (rw (both.first, pair.first, c.iter.ensures.rest))
    (rw (both.first, pair.second.0))
    (sym both.second.0))

-- the turn's term, with those after it
turn : (c : In-Some) → Adding c.args.firsts.now c.args.seconds.now c.args.term_weights.now c.args.lin.now c.args.edges.now c.args.masks.now c.loop-i.lin c.loop-i.edges c.loop-i.masks
    (c.in-Some.i.now ∷ c.next.new.self.a.a.rest.now) (c.in-Some.j.now ∷ c.next.new.self.a.b.rest.now) (c.in-Some.w.now ∷ c.next.new.self.b.rest.now)
turn c = let s = c.in-Some.ensures.steps in adding_of _ _ _ _ _ _ _ _ _ c.loop-i.invariant s.0.0 s.0.1 s.1

weight : (c : In-Some) → to_z w64 (of_z w64 c.in-Some.w.now) ≡ c.in-Some.w.now
weight c = mass_read c.in-Some.w.now (omega (arith, (term_asked _ _ _ _ _ _ _ _ _ _ _ _ _ _ _ (turn c) c.requires.0 c.requires.1).2))

pub add_term-requires : goal.add_term-requires
add_term-requires c =
    let s = (goal.at.add_term-requires c).In-Some in
    let t = term_asked _ _ _ _ _ _ _ _ _ _ _ _ _ _ _ (turn s) c.requires.0 c.requires.1 in
    rw (weight s) (omega (arith, t.0, t.1), omega (arith, t.0, t.1), t.2)

pub loop-i-preserved : goal.loop-i-preserved
loop-i-preserved c =
    let s = (goal.at.loop-i-preserved c).In-Some in
    let e = rw (weight s) at c.add_term.ensures in
    adding_turn _ _ _ _ _ _ _ _ _ _ _ _ _ _ _ (turn s) c.add_term.new.lin c.add_term.new.edges c.add_term.new.masks (e.0, e.1) e.2

pub returns : goal.returns
returns c =
    let l = c.loop-i in
    elim c.in-None.ensures.steps [
      | inl z ↦ elim z.1 [ inl n ↦ no_firsts _ _ _ _ _ _ _ _ _ _ _ _ l.invariant n.1.0 | inr n ↦ no_seconds _ _ _ _ _ _ _ _ _ _ _ _ l.invariant n.1.0 ]
      | inr n ↦ no_weights _ _ _ _ _ _ _ _ _ _ _ _ l.invariant n.1.0
    ]
