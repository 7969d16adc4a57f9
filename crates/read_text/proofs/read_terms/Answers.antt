use Rattle.std.proofs.Common.{◌≡◌, ◌∙◌, arith, rules, length-set}
use mir.Syntax.{w64}
use mir.Val.{SFits}
use Rattle.whole.specs.Ints.{rd}
use Rattle.whole.specs.Stores.{front_more}
use Rattle.read_text.specs.ReadLaws.{terms_step, terms_end}
use Rattle.read_text.proofs.read_terms.Goals as goal

pub returns-in_err-i : goal.returns-in_err-i
returns-in_err-i c =
    let l = c.loop-m in
    rw (c.from_residual.ensures, l.invariant.ahead, terms_step _ _ _ c.args.k l.m l.rest.now (omega arith), ← c.in_err-i.ensures)

pub returns-in_err-j : goal.returns-in_err-j
returns-in_err-j c =
    let l = c.loop-m in
    rw (c.from_residual-in_err-j.ensures, l.invariant.ahead, terms_step _ _ _ c.args.k l.m l.rest.now (omega arith), ← c.in_ok-i.ensures, ← c.in_err-j.ensures)

pub returns-in_err-w : goal.returns-in_err-w
returns-in_err-w c =
    let l = c.loop-m in
    rw (c.from_residual-in_err-w.ensures, l.invariant.ahead, terms_step _ _ _ c.args.k l.m l.rest.now (omega arith), ← c.in_ok-i.ensures, ← c.in_ok-j.ensures, ← c.in_err-w.ensures)

pub loop-m-preserved : goal.loop-m-preserved
loop-m-preserved c =
    let l = c.loop-m in
    let f : SFits w64 c.in_ok-w.w = search rules in
    record {
      firsts = length-set l.read.firsts l.m _ ∙ l.invariant.firsts;
      seconds = length-set l.read.seconds l.m _ ∙ l.invariant.seconds;
      weights = length-set l.read.weights l.m _ ∙ l.invariant.weights;
      ahead = rw (
        l.invariant.ahead,
        terms_step _ _ _ c.args.k l.m l.rest.now (omega arith),
        ← c.in_ok-i.ensures,
        ← c.in_ok-j.ensures,
        ← c.in_ok-w.ensures,
        rd f,
        front_more l.read.firsts l.m _ (omega arith),
        front_more l.read.seconds l.m _ (omega arith),
        front_more l.read.weights l.m _ (omega arith),
      );
    }

pub returns : goal.returns
returns c =
    let l = c.loop-m in
    let e : c.args.k ≡ l.m = omega arith in
    rw (l.invariant.ahead, terms_end _ _ _ c.args.k l.m l.rest.now (omega arith), e)
