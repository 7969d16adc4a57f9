use Rattle.std.proofs.Common.{Err, length, ap, ◌∙◌, subst, ℕ, sym}
use Rattle.std.proofs.lemmas.Result.{err_from_is_err_and}
use Rattle.rules.specs.Refuse.{answer_rows, grow_block_refusal}
use Rattle.rules.specs.Numbers.{answer_of}
use Rattle.rules.specs.Call.{grown, block_plan_after}
use Rattle.back.specs.Calls.{GrownBackBlock}
use Rattle.back.specs.RefusalLaws.{read_unbroken, of_unread, of_read}
use Rattle.back.proofs.grow.grow_back_block.Goals as goal

pub returns-in_err-record : goal.returns-in_err-record
unfolding grow_block_refusal block_plan_after
returns-in_err-record c =
    let a = c.args in
    let p = err_from_is_err_and c.from_residual.result c.from_residual.ensures.1 in
    let e = of_unread (λ r. answer_rows r a.answer.now (length a.plan.now)) (λ r. grown r a.answer.now) a.plan.now a.block.now c.read_record.result c.read_record.ensures c.in_err-record.field-0.0 c.in_err-record.was in
    subst (λ (k : ℕ). GrownBackBlock a.block.now a.answer.now a.plan.now k a.plan.now) (sym (ap answer_of (p.1 ∙ ap Err p.2))) e

pub grow_unbroken-requires : goal.grow_unbroken-requires
grow_unbroken-requires c = read_unbroken c.args.block.now c.read_record.result c.read_record.ensures c.in_ok-record.«record» c.in_ok-record.was

pub returns : goal.returns
unfolding grow_block_refusal block_plan_after
returns c =
    let a = c.args in
    of_read (λ r. answer_rows r a.answer.now (length a.plan.now)) (λ r. grown r a.answer.now) a.plan.now a.block.now c.read_record.result c.read_record.ensures c.in_ok-record.«record» c.in_ok-record.was c.grow_unbroken.ensures
