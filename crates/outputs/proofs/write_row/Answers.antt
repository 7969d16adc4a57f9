use Rattle.std.specs.Int.{w64}
use Rattle.std.proofs.Common.{SFits, rules, ◌+◌, ◌*◌, get_or, pos}
use Rattle.whole.specs.Ints.{rd}
use Rattle.outputs.specs.Out.{rest}
use Rattle.outputs.proofs.Rows.{stored_begin, stored_less, stored_more, stored_end}
use Rattle.outputs.proofs.write_row.Goals as goal

pub loop-j-init : goal.loop-j-init
loop-j-init c =
    let a = c.args in
    rw c.into_iter-j-iterator.ensures.into_iter_gives (stored_begin a.e.now a.i a.r.now c.requires.2 a.m c.requires.4 a.row.now c.requires.0)

pub loop-j-preserved : goal.loop-j-preserved
loop-j-preserved c =
    let a = c.args in
    let l = c.loop-j in
    stored_less a.e.now a.i a.r.now c.requires.2 c.requires.3 l.j-iterator.0 c.in-Some.j c.next.new.self.0 c.in-Some.ensures.steps l.row l.invariant c.if-b-r.false

pub loop-j-preserved-then-b-r : goal.loop-j-preserved-then-b-r
loop-j-preserved-then-b-r c =
    let a = c.args in
    let l = c.loop-j in
    let v : SFits w64 (get_or a.e.now (64 * a.i + c.in-Some.j) (pos 0)) = search rules in
    stored_more a.e.now a.i a.r.now c.requires.2 c.requires.3 l.j-iterator.0 c.in-Some.j c.next.new.self.0 c.in-Some.ensures.steps l.row l.invariant c.if-b-r.true _ (rd v)

pub returns : goal.returns
returns c =
    let a = c.args in
    let l = c.loop-j in
    stored_end a.e.now (rest a.r.now) a.i l.j-iterator.0 l.row l.invariant c.in-None.ensures.steps.0
