use Rattle.std.proofs.Common.{◌≡◌, Err, false, length, refl, ap, sym, ◌∙◌}
use Rattle.std.proofs.lemmas.Result.{err_from_is_err_and}
use Rattle.rules.specs.Record.{broken}
use Rattle.rules.specs.Refuse.{plan_rows, project_refusal}
use Rattle.rules.specs.Call.{projected, answer_after}
use Rattle.accepted_laws.specs.Answers.{row_stops, row_off_by}
use Rattle.back.specs.RefusalLaws.{answers_err, of_unbroken}
use Rattle.back.proofs.project.project.Goals as goal
use Rattle.back.proofs.project.project.Goals.{In_ok-row}

unbroken : (c : In_ok-row) → broken c.args.«record» ≡ false
unbroken c = sym c.is_broken.ensures ∙ row_off_by 12 refl c.in_ok-row.ensures

pub returns-in_err-row : goal.returns-in_err-row
unfolding project_refusal answer_after
returns-in_err-row c =
    let a = c.args in
    let p = err_from_is_err_and c.from_residual.result c.from_residual.ensures.1 in
    answers_err _ c.in_err-row.field-0.0 (projected a.«record» a.plan.now) a.out.now (p.1 ∙ ap Err p.2) (row_stops 12 _ _ c.is_broken.ensures c.in_err-row.ensures)

pub project_unbroken-requires : goal.project_unbroken-requires
project_unbroken-requires c = unbroken (goal.at.project_unbroken-requires c).In_ok-row

pub returns : goal.returns
unfolding project_refusal answer_after
returns c =
    let a = c.args in
    of_unbroken (λ r. plan_rows r a.plan.now (length a.out.now)) (λ r. projected r a.plan.now) a.out.now a.«record» (unbroken (goal.at.returns c).In_ok-row) c.project_unbroken.ensures
