use Rattle.std.proofs.Common.{◌≡◌, Err, sym, ap, ◌∙◌, arith, rules, ℕ, length, take, length-take-le}
use Rattle.std.proofs.lemmas.Result.{err_from_is_err_and}
use Rattle.rules.specs.Record.{states_of}
use Rattle.rules.specs.Refuse.{first_row, bytes_rows, answer_rows}
use Rattle.rules.specs.Call.{grown}
use Rattle.back.specs.SoundRecord.{few_decisions, few_steps, grown_front}
use Rattle.back.specs.RefusalLaws.{answers_accepted, answers_err}
use Rattle.accepted_laws.specs.Rows.{bytes_lengths}
use Rattle.back.proofs.grow.grow_unbroken.Goals as goal
use Rattle.back.proofs.grow.grow_unbroken.Goals.{After-remaining-long, In_ok-bytes_refusal}

-- rows 7 and 8, for as many as the code counted
asked : (c : After-remaining-long) → first_row (bytes_rows c.args.«record» c.remaining-long.result c.args.answer.now (length c.args.plan.now)) ≡ first_row (answer_rows c.args.«record» c.args.answer.now (length c.args.plan.now))
unfolding states_of
asked c =
    let a = c.args in
    ap (λ (long : ℕ). first_row (bytes_rows a.«record» long a.answer.now (length a.plan.now))) c.remaining-long.ensures

-- the output is n long
long : (c : In_ok-bytes_refusal) → length c.args.plan.now ≡ c.args.«record».n
long c = let a = c.args in (bytes_lengths a.«record» c.remaining-long.result a.answer.now (length a.plan.now) (sym c.in_ok-bytes_refusal.ensures)).1

pub shared_ref_as_front-states : goal.shared_ref_as_front-states
shared_ref_as_front-states c = few_decisions c.args.«record» c.requires

pub shared_ref_as_front-play_back : goal.shared_ref_as_front-play_back
shared_ref_as_front-play_back c = few_steps c.args.«record» c.requires

pub returns-in_err-bytes_refusal : goal.returns-in_err-bytes_refusal
returns-in_err-bytes_refusal c =
    let a = c.args in
    let p = err_from_is_err_and c.from_residual.result c.from_residual.ensures.1 in
    answers_err _ c.in_err-bytes_refusal.field-0.0 (grown a.«record» a.answer.now) a.plan.now (p.1 ∙ ap Err p.2)
    (c.in_err-bytes_refusal.ensures ∙ asked (goal.at.returns-in_err-bytes_refusal c).After-remaining-long)

pub copy_from_slice-requires : goal.copy_from_slice-requires
copy_from_slice-requires c =
    let f : length c.play_back-full.result ≡ 64 = search rules in
    long (goal.at.copy_from_slice-requires c).In_ok-bytes_refusal ∙ sym (length-take-le c.args.«record».n c.play_back-full.result (omega (arith, few_decisions c.args.«record» c.requires)))

pub returns : goal.returns
returns c =
    let r = c.args.«record» in
    let answer = c.args.answer.now in
    let ls : length r.states ≡ 64 = search rules in
    let lt : length r.steps ≡ 64 = search rules in
    let n : length (take r.n r.states) ≡ r.n = length-take-le r.n r.states (omega (arith, few_decisions r c.requires)) in
    answers_accepted _ (grown r answer) c.args.plan.now _ (sym (c.in_ok-bytes_refusal.ensures ∙ asked (goal.at.returns c).After-remaining-long))
    (c.copy_from_slice.ensures.after ∙ grown_front r c.requires lt answer _ c.play_back-full.result (ap (λ (m : ℕ). take m c.placed-placed.result) (sym n) ∙ c.placed-placed.ensures) c.play_back-full.ensures)
