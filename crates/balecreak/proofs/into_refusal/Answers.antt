use Rattle.std.proofs.Common.{Err, refl, ap, sym, ◌∙◌, not, eqb, [], ◌∷◌}
use Rattle.std.proofs.lemmas.Result.{err_from_is_err_and}
use Rattle.rules.specs.Given.{of_lists}
use Rattle.rules.specs.Numbers.{answer_of}
use Rattle.rules.specs.Refuse.{first_row, reduce_rows}
use Rattle.accepted_laws.specs.Answers.{rows_stop, rows_pass}
use Rattle.balecreak.specs.Calls.{into_refusal}
use Rattle.balecreak.proofs.into_refusal.Goals as goal

pub returns-in_err-refusal : goal.returns-in_err-refusal
unfolding into_refusal
returns-in_err-refusal c =
    let a = c.args in
    let p = err_from_is_err_and c.from_residual.result c.from_residual.ensures.1 in
    ap answer_of (p.1 ∙ ap Err p.2) ∙ rows_stop (reduce_rows (of_lists a.o) a.l a.e (not (eqb a.c 14))) ((9, not (eqb a.b 512)) ∷ []) refl c.in_err-refusal.field-0.0 c.in_err-refusal.ensures

pub returns : goal.returns
unfolding into_refusal first_row
returns c =
    let a = c.args in
    c.row.ensures ∙ sym (rows_pass (reduce_rows (of_lists a.o) a.l a.e (not (eqb a.c 14))) ((9, not (eqb a.b 512)) ∷ []) refl c.in_ok-refusal.ensures)
