use Rattle.std.proofs.Common.{◌≡◌, Err, rules, arith, ap, ◌∙◌, length}
use Rattle.rules.specs.Numbers.{number_of, answer_of}
use Rattle.rules.specs.Record.{block_of}
use Rattle.rules.specs.Refuse.{first_row, write_refusal}
use Rattle.rules.specs.Call.{block_after}
use Rattle.accepted_laws.specs.Answers.{numbered_row, unless_kept, unless_done}
use Rattle.record.proofs.write.write_record.Goals as goal

pub returns-in_err-row : goal.returns-in_err-row
unfolding write_refusal first_row block_after
returns-in_err-row c =
    let r = c.in_err-row.field-0.0 in
    let e : c.from_residual.result ≡ Err r = search rules in
    let n = numbered_row r in
    let h = c.in_err-row.ensures in
    let w : number_of r ≡ write_refusal c.args.«record» (length c.args.block.now) = grind arith in
    (ap answer_of e ∙ w, unless_kept _ r (block_of c.args.«record») c.args.block.now w)

pub returns-in_err-row-2 : goal.returns-in_err-row-2
unfolding write_refusal first_row block_after
returns-in_err-row-2 c =
    let r = c.in_err-row-2.field-0.0 in
    let e : c.from_residual-in_err-row-2.result ≡ Err r = search rules in
    let n = numbered_row r in
    let h = c.in_err-row-2.ensures in
    let z = c.in_ok-row.ensures in
    let w : number_of r ≡ write_refusal c.args.«record» (length c.args.block.now) = grind arith in
    (ap answer_of e ∙ w, unless_kept _ r (block_of c.args.«record») c.args.block.now w)

pub returns : goal.returns
unfolding write_refusal first_row block_after
returns c =
    let z = c.in_ok-row.ensures in
    let y = c.in_ok-row-2.ensures in
    let w : ◌≡◌ 0 (write_refusal c.args.«record» (length c.args.block.now)) = grind arith in
    (w, c.copy_from_slice.ensures.after ∙ c.block_of.ensures ∙ unless_done _ (block_of c.args.«record») c.args.block.now w)
