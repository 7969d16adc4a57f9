use Rattle.std.proofs.Common.{rules, ap, ◌∙◌, ◌&&◌, ltb, ℕ, List, ◌++◌}
use Rattle.whole.specs.Words.{mem}
use Rattle.whole.specs.Masks.{these}
use Rattle.state.specs.Joins.{may_join}
use Rattle.state.specs.JoinsLaws.{everyone_waits}
use Rattle.state.proofs.waiting.first_queue.Goals as goal

pub push_all-requires : goal.push_all-requires
unfolding mem
push_all-requires c = λ k m. ap (mem k) c.new-nobody.ensures

pub returns : goal.returns
returns c =
    let g = c.args.g.now in
    let who = c.those-who in
    c.push_all.ensures ∙ ap (λ (xs : List ℕ). xs ++ these who.result) c.new-nobody.ensures
    ∙ everyone_waits c.args.options g who.result c.known.ensures.small (who.ensures (λ k. ltb k g.n && may_join c.args.options g k) (λ k b l h. search rules))
