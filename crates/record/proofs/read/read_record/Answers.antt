-- Each row, asked of the block as an array; what is read is then the block itself.
use Rattle.std.proofs.Common.{◌≡◌, ◌≢◌, refl, ap, Err, true, Bool, cond, ◌∙◌, length, not, eqb, get_or, List, ℕ, ne_eqb, eq-eqb}
use Rattle.std.proofs.lemmas.Result.{err_from_is_err_and}
use Rattle.rules.specs.Record.{edition, check_right, zeros_in, record_in, sound, broken}
use Rattle.rules.specs.Refuse.{read_refusal}
use Rattle.rules.specs.declared.refusal.Refusal.TheVariants.{BlockLength}
use Rattle.accepted_laws.specs.Answers.{row_stops, row_goes, answered_err, answered_ok}
use Rattle.accepted_laws.specs.Rows.{row_hit, row_skip, row_none}
use Rattle.record.proofs.Rows.{zeros_stop, body_next}
use Rattle.record.proofs.read.read_record.Goals as goal
use Rattle.record.proofs.read.read_record.Goals.{After-is_right, After-is_edition, After-zeros_in, After-is_broken}

pub returns-in_default : goal.returns-in_default
unfolding read_refusal
returns-in_default c =
    let n : length c.args.block.now ≢ 512 = c.in_default.ensures.1 in
    answered_err _ _ _ BlockLength refl (row_hit _ _ _ (rw (ne_eqb (length c.args.block.now) 512 n)))

long : (c : After-is_right) → eqb (length c.args.block.now) 512 ≡ true
long c = eq-eqb (length c.args.block.now) 512 c.in-Ok.ensures.1.long

right : (c : After-is_right) → c.is_right.result ≡ check_right c.args.block.now
right c = c.is_right.ensures ∙ ap check_right c.in-Ok.ensures.1.same

ours : (c : After-is_edition) → c.is_edition.result ≡ eqb (get_or c.args.block.now 0 0) edition
ours c = c.is_edition.ensures ∙ ap (λ (b : List ℕ). eqb (get_or b 0 0) edition) c.in-Ok.ensures.1.same

zeros : (c : After-zeros_in) → c.zeros_in.result ≡ zeros_in c.args.block.now
zeros c = c.zeros_in.ensures ∙ ap zeros_in c.in-Ok.ensures.1.same

made : (c : After-is_broken) → c.record_in-record.result ≡ record_in c.args.block.now
made c = c.record_in-record.ensures ∙ ap record_in c.in-Ok.ensures.1.same

body : (c : After-is_broken) → c.is_broken.result ≡ broken (record_in c.args.block.now)
body c = c.is_broken.ensures ∙ ap broken (made c)

pub returns-in_err-row : goal.returns-in_err-row
unfolding read_refusal
returns-in_err-row c =
    let a = (goal.at.returns-in_err-row c).After-is_right in
    let p = err_from_is_err_and c.from_residual.result c.from_residual.ensures.1 in
    answered_err _ _ _ c.in_err-row.field-0.0 (p.1 ∙ ap Err p.2)
    (row_skip 9 _ _ (ap not (long a))
    (row_stops 10 _ _ (ap not (right a)) c.in_err-row.ensures))

pub returns-in_err-row-2 : goal.returns-in_err-row-2
unfolding read_refusal
returns-in_err-row-2 c =
    let a = (goal.at.returns-in_err-row-2 c).After-is_right in
    let b = (goal.at.returns-in_err-row-2 c).After-is_edition in
    let p = err_from_is_err_and c.from_residual-in_err-row-2.result c.from_residual-in_err-row-2.ensures.1 in
    answered_err _ _ _ c.in_err-row-2.field-0.0 (p.1 ∙ ap Err p.2)
    (row_skip 9 _ _ (ap not (long a))
    (row_goes 10 _ refl (ap not (right a)) c.in_ok-row.ensures
    (row_stops 11 _ _ (ap not (ours b)) c.in_err-row-2.ensures)))

pub returns-in_err-row-3 : goal.returns-in_err-row-3
unfolding read_refusal
returns-in_err-row-3 c =
    let a = (goal.at.returns-in_err-row-3 c).After-is_right in
    let b = (goal.at.returns-in_err-row-3 c).After-is_edition in
    let d = (goal.at.returns-in_err-row-3 c).After-zeros_in in
    let p = err_from_is_err_and c.from_residual-in_err-row-3.result c.from_residual-in_err-row-3.ensures.1 in
    answered_err _ _ _ c.in_err-row-3.field-0.0 (p.1 ∙ ap Err p.2)
    (row_skip 9 _ _ (ap not (long a))
    (row_goes 10 _ refl (ap not (right a)) c.in_ok-row.ensures
    (row_goes 11 _ refl (ap not (ours b)) c.in_ok-row-2.ensures
    (row_stops 12 _ _ refl (zeros_stop _ _ (sound (record_in c.args.block.now)) (c.in_err-row-3.ensures ∙ ap (λ (t : Bool). cond (not t) 12 0) (zeros d)))))))

pub returns-in_err-row-4 : goal.returns-in_err-row-4
unfolding read_refusal
returns-in_err-row-4 c =
    let a = (goal.at.returns-in_err-row-4 c).After-is_right in
    let b = (goal.at.returns-in_err-row-4 c).After-is_edition in
    let d = (goal.at.returns-in_err-row-4 c).After-zeros_in in
    let e = (goal.at.returns-in_err-row-4 c).After-is_broken in
    let p = err_from_is_err_and c.from_residual-in_err-row-4.result c.from_residual-in_err-row-4.ensures.1 in
    answered_err _ _ _ c.in_err-row-4.field-0.0 (p.1 ∙ ap Err p.2)
    (row_skip 9 _ _ (ap not (long a))
    (row_goes 10 _ refl (ap not (right a)) c.in_ok-row.ensures
    (row_goes 11 _ refl (ap not (ours b)) c.in_ok-row-2.ensures
    (row_stops 12 _ _ refl (body_next _ _ (sound (record_in c.args.block.now)) (c.in_ok-row-3.ensures ∙ ap (λ (t : Bool). cond (not t) 12 0) (zeros d)) (c.in_err-row-4.ensures ∙ ap (λ (t : Bool). cond t 12 0) (body e)))))))

pub returns : goal.returns
unfolding read_refusal
returns c =
    let a = (goal.at.returns c).After-is_right in
    let b = (goal.at.returns c).After-is_edition in
    let d = (goal.at.returns c).After-zeros_in in
    let e = (goal.at.returns c).After-is_broken in
    answered_ok _ _ _
    (row_skip 9 _ _ (ap not (long a))
    (row_goes 10 _ refl (ap not (right a)) c.in_ok-row.ensures
    (row_goes 11 _ refl (ap not (ours b)) c.in_ok-row-2.ensures
    (row_goes 12 _ refl refl (body_next 0 _ (sound (record_in c.args.block.now)) (c.in_ok-row-3.ensures ∙ ap (λ (t : Bool). cond (not t) 12 0) (zeros d)) (c.in_ok-row-4.ensures ∙ ap (λ (t : Bool). cond t 12 0) (body e))) row_none))))
    (made e)
