use Rattle.std.proofs.Common.{Err, length, ap, ◌∙◌, subst, ℕ, sym}
use Rattle.std.proofs.lemmas.Result.{err_from_is_err_and}
use Rattle.rules.specs.Refuse.{plan_rows, project_block_refusal}
use Rattle.rules.specs.Numbers.{answer_of}
use Rattle.rules.specs.Call.{projected, block_answer_after}
use Rattle.back.specs.Calls.{ProjectedBlock}
use Rattle.back.specs.RefusalLaws.{read_unbroken, of_unread, of_read}
use Rattle.back.proofs.project.project_block.Goals as goal

pub returns-in_err-record : goal.returns-in_err-record
unfolding project_block_refusal block_answer_after
returns-in_err-record c =
    let a = c.args in
    let p = err_from_is_err_and c.from_residual.result c.from_residual.ensures.1 in
    let e = of_unread (λ r. plan_rows r a.plan.now (length a.out.now)) (λ r. projected r a.plan.now) a.out.now a.block.now c.read_record.result c.read_record.ensures c.in_err-record.field-0.0 c.in_err-record.was in
    subst (λ (k : ℕ). ProjectedBlock a.block.now a.plan.now a.out.now k a.out.now) (sym (ap answer_of (p.1 ∙ ap Err p.2))) e

pub project_unbroken-requires : goal.project_unbroken-requires
project_unbroken-requires c = read_unbroken c.args.block.now c.read_record.result c.read_record.ensures c.in_ok-record.«record» c.in_ok-record.was

pub returns : goal.returns
unfolding project_block_refusal block_answer_after
returns c =
    let a = c.args in
    of_read (λ r. plan_rows r a.plan.now (length a.out.now)) (λ r. projected r a.plan.now) a.out.now a.block.now c.read_record.result c.read_record.ensures c.in_ok-record.«record» c.in_ok-record.was c.project_unbroken.ensures
