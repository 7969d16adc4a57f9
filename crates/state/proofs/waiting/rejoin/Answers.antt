use Rattle.std.proofs.Common.{rules, ◌∙◌, ◌≡◌}
use Rattle.whole.specs.Words.{those}
use Rattle.whole.specs.Masks.{these}
use Rattle.state.specs.Joins.{may_join}
use Rattle.state.specs.JoinsLaws.{rejoined, new_ones}
use Rattle.state.proofs.waiting.rejoin.Goals as goal
use Rattle.state.proofs.waiting.rejoin.Goals.{After-those-who}

-- those who may join, of the neighbours who do not wait
found : (c : After-those-who) → these c.those-who.result ≡ those (may_join c.args.options c.args.g.now) (these c.not_waiting-others.result)
found c = c.those-who.ensures (may_join c.args.options c.args.g.now) (λ k b l h. search rules)

pub push_all-requires : goal.push_all-requires
push_all-requires c =
    let a = c.args in
    let others = c.not_waiting-others in
    new_ones a.options a.g.now a.queue.who a.near others.result c.those-who.result others.ensures (found c)

pub returns : goal.returns
returns c =
    let a = c.args in
    let others = c.not_waiting-others in
    c.push_all.ensures ∙ rejoined a.options a.g.now a.queue.who a.near others.result c.those-who.result others.ensures (found (goal.at.returns c).After-those-who)
