use Rattle.std.proofs.Common.{◌≡◌, ◌∙◌, sym, ap, arith, rules, eqb, length, take_all, count_by}
use Rattle.rules.specs.Back.{remaining_of}
use Rattle.back.proofs.ListLaws.{count_places}
use Rattle.back.proofs.plans.remaining.Goals as goal

pub returns : goal.returns
unfolding remaining_of
returns c =
    let ss = c.args.states.now in
    let e : c.count.result ≡ count_by (λ s. eqb s 2) ss = search rules in
    e ∙ ap (count_by (λ s. eqb s 2)) (sym (take_all (length ss) ss (omega arith))) ∙ count_places (λ s. eqb s 2) ss (length ss) 0 (omega arith)
