use Rattle.std.proofs.Common.{◌≡◌, Err, false, length, refl, ap, sym, ◌∙◌}
use Rattle.std.proofs.lemmas.Result.{err_from_is_err_and}
use Rattle.rules.specs.Record.{broken}
use Rattle.rules.specs.Refuse.{answer_rows, grow_refusal}
use Rattle.rules.specs.Call.{grown, plan_after}
use Rattle.accepted_laws.specs.Answers.{row_stops, row_off_by}
use Rattle.back.specs.RefusalLaws.{answers_err, of_unbroken}
use Rattle.back.proofs.grow.grow_back.Goals as goal
use Rattle.back.proofs.grow.grow_back.Goals.{In_ok-row}

unbroken : (c : In_ok-row) → broken c.args.«record» ≡ false
unbroken c = sym c.is_broken.ensures ∙ row_off_by 12 refl c.in_ok-row.ensures

pub returns-in_err-row : goal.returns-in_err-row
unfolding grow_refusal plan_after
returns-in_err-row c =
    let a = c.args in
    let p = err_from_is_err_and c.from_residual.result c.from_residual.ensures.1 in
    answers_err _ c.in_err-row.field-0.0 (grown a.«record» a.answer.now) a.plan.now (p.1 ∙ ap Err p.2) (row_stops 12 _ _ c.is_broken.ensures c.in_err-row.ensures)

pub grow_unbroken-requires : goal.grow_unbroken-requires
grow_unbroken-requires c = unbroken (goal.at.grow_unbroken-requires c).In_ok-row

pub returns : goal.returns
unfolding grow_refusal plan_after
returns c =
    let a = c.args in
    of_unbroken (λ r. answer_rows r a.answer.now (length a.plan.now)) (λ r. grown r a.answer.now) a.plan.now a.«record» (unbroken (goal.at.returns c).In_ok-row) c.grow_unbroken.ensures
