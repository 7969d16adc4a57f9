-- `reduce::reduce` meets its contract: a refusal leaves what was lent as it was, and what is not refused is accepted. Assumes nothing.
use Rattle.std.proofs.Common.{sym, ap, ◌∙◌, length, Err}
use Rattle.std.proofs.lemmas.Result.{err_from_is_err_and}
use Rattle.rules.specs.Given.{of_lists}
use Rattle.rules.specs.Refuse.{reduce_refusal}
use Rattle.accepted_laws.specs.Accept.{accept}
use Rattle.reduce.specs.GivesLaws.{gives_refused, gives_done}
use Rattle.reduce.proofs.reduce.Goals as goal

pub returns-in_err-refusal : goal.returns-in_err-refusal
unfolding reduce_refusal
returns-in_err-refusal c =
    let a = c.args in
    let p = err_from_is_err_and c.from_residual.result c.from_residual.ensures.1 in
    rw (p.1 ∙ ap Err p.2) (gives_refused (of_lists a.o) a.linear.now a.edges.now c.in_err-refusal.field-0.0 c.in_err-refusal.ensures)

pub accepted-requires : goal.accepted-requires
unfolding reduce_refusal
accepted-requires c =
    let a = c.args in
    accept (of_lists a.o) (length a.linear.now) (length a.edges.now) (sym c.in_ok-refusal.ensures)

pub returns : goal.returns
unfolding reduce_refusal
returns c =
    let a = c.args in
    gives_done (of_lists a.o) a.linear.now a.edges.now c.accepted.result c.accepted.new.linear c.accepted.new.edges c.in_ok-refusal.ensures c.accepted.ensures
