-- `balecreak::copy` meets its contract: the output's row, then the block's, and what is read is written anew. Assumes nothing.
use Rattle.std.proofs.Common.{◌≡◌, refl, rules, Err, ap, sym, ◌∙◌, subst, length, ℕ}
use Rattle.whole.specs.Tests.{same_eqb}
use Rattle.rules.specs.Numbers.{answer_of}
use Rattle.rules.specs.Record.{record_in, block_of}
use Rattle.rules.specs.Refuse.{block_rows}
use Rattle.accepted_laws.specs.Answers.{row_stops, row_off_by}
use Rattle.back.specs.RefusalLaws.{answers_err}
use Rattle.balecreak.specs.Calls.{copy_refusal, Copied}
use Rattle.balecreak.specs.CopyLaws.{copy_unread, copy_read}
use Rattle.balecreak.proofs.copy.Goals as goal
use Rattle.balecreak.proofs.copy.Goals.{In_ok-row}

pub returns-in_err-row : goal.returns-in_err-row
unfolding copy_refusal
returns-in_err-row c =
    let b = c.args.block.now in
    let r = c.in_err-row.field-0.0 in
    let e : c.from_residual.result ≡ Err r = search rules in
    answers_err (copy_refusal b (length c.args.out.now)) r (block_of (record_in b)) c.args.out.now e (row_stops 9 r (block_rows b) refl c.in_err-row.ensures)

long : (c : In_ok-row) → length c.args.out.now ≡ 512
long c = same_eqb (length c.args.out.now) 512 (row_off_by 9 refl c.in_ok-row.ensures)

pub returns-in_err-record : goal.returns-in_err-record
returns-in_err-record c =
    let a = c.args in
    let r = c.in_err-record.field-0.0 in
    let e : c.from_residual-in_err-record.result ≡ Err r = search rules in
    subst (λ (k : ℕ). Copied a.block.now a.out.now k a.out.now) (sym (ap answer_of e)) (copy_unread a.block.now a.out.now (long (goal.at.returns-in_err-record c).In_ok-row) c.read_record.result c.read_record.ensures r c.in_err-record.was)

pub returns : goal.returns
returns c =
    copy_read c.args.block.now c.args.out.now (long (goal.at.returns c).In_ok-row) c.read_record.result c.read_record.ensures c.in_ok-record.«record» c.copy_from_slice.new.self c.in_ok-record.was (c.copy_from_slice.ensures.after ∙ c.block_of.ensures)
