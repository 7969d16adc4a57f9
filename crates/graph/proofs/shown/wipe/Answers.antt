use Rattle.std.proofs.Common.{subst}
use Rattle.whole.specs.Masks.{these}
use Rattle.graph.proofs.Wiping.{Wiping, wiping_begin, wiping_turn, wiping_end}
use Rattle.graph.proofs.shown.wipe.Goals as goal

pub loop-j-init : goal.loop-j-init
loop-j-init c = let a = c.args in rw c.into_iter-j-iterator.ensures.into_iter_gives (wiping_begin a.i a.edges.now a.masks.now (c.fits-masks a.i))

pub loop-j-preserved : goal.loop-j-preserved
loop-j-preserved c =
    let l = c.loop-j in
    let a = c.args in
    let w = subst (Wiping a.i a.edges.now a.masks.now l.edges l.masks) c.in-Some.ensures.steps l.invariant in
    wiping_turn a.i a.edges.now l.edges a.masks.now l.masks c.requires c.in-Some.j (these c.next.new.self.0) c.marked.result w c.marked.type_inv c.marked.ensures

pub returns : goal.returns
returns c =
    let l = c.loop-j in
    let a = c.args in
    wiping_end a.i a.edges.now l.edges a.masks.now l.masks c.requires (subst (Wiping a.i a.edges.now a.masks.now l.edges l.masks) c.in-None.ensures.steps.0 l.invariant)
