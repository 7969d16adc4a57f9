use Rattle.std.proofs.Common.{◌≡◌, refl, sym, ap, ◌∙◌, rules, ℕ, ◌+◌, ◌%◌, ◌^◌, get_or}
use Rattle.rules.specs.Record.{Sums, check}
use Rattle.record.proofs.Bytes.{sums_turn, sums_over}
use Rattle.record.proofs.sums.sums_of.Goals as goal

pub loop-b-init : goal.loop-b-init
unfolding check
loop-b-init c = refl

pub loop-b-preserved : goal.loop-b-preserved
loop-b-preserved c =
    let l = c.loop-b in
    let b = c.args.bytes.now in
    let e : c.from.result ≡ get_or b l.b-index 0 = search rules in
    sym (sums_turn b l.b-index l.sums.s1 l.sums.s2 _ _ c.loop-b-test.true (ap (λ (x : ℕ). (l.sums.s1 + x) % 2 ^ 16) e) refl) ∙ l.invariant

pub returns : goal.returns
returns c =
    let l = c.loop-b in
    let e = sym (sums_over c.args.bytes.now l.b-index l.sums.s1 l.sums.s2 c.loop-b-test.false) ∙ l.invariant in
    (ap (λ (s : Sums). s.s1) e, ap (λ (s : Sums). s.s2) e)
