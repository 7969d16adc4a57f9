-- What `any` gives of each list is what the row asks of it.
use Rattle.std.proofs.Common.{◌≡◌, leb, rules, arith}
use Rattle.std.proofs.lemmas.Iterator.{YieldsList-from_slice}
use Rattle.whole.specs.Words.{some, one_of}
use Rattle.whole.specs.Chains.{some_from_any}
use Rattle.rules.specs.Refuse.{bad_index}
use Rattle.refusal.proofs.bad_index.Goals as goal

pub returns-then-any : goal.returns-then-any
unfolding bad_index one_of
returns-then-any c =
    let o = c.args.o in
    let e : c.any.result ≡ some (leb o.n) o.firsts.now =
    some_from_any (leb o.n) _ _ c.any.result c.any.ensures.ran (YieldsList-from_slice o.firsts.now cc) (λ x b q k. search rules) in
    grind arith

pub returns-else-any : goal.returns-else-any
unfolding bad_index one_of
returns-else-any c =
    let o = c.args.o in
    let e : c.any.result ≡ some (leb o.n) o.firsts.now =
    some_from_any (leb o.n) _ _ c.any.result c.any.ensures.ran (YieldsList-from_slice o.firsts.now cc) (λ x b q k. search rules) in
    let f : c.any-else-any.result ≡ some (leb o.n) o.seconds.now =
    some_from_any (leb o.n) _ _ c.any-else-any.result c.any-else-any.ensures.ran (YieldsList-from_slice o.seconds.now cc) (λ x b q k. search rules) in
    grind arith
