use Rattle.std.proofs.Common.{◌≡◌, Err, sym, ap, ◌∙◌, arith, rules, ℕ, length, take, length-take-le}
use Rattle.std.proofs.lemmas.Result.{err_from_is_err_and}
use Rattle.rules.specs.Record.{states_of}
use Rattle.rules.specs.Call.{projected}
use Rattle.back.specs.SoundRecord.{few_decisions}
use Rattle.back.specs.RefusalLaws.{answers_accepted, answers_err}
use Rattle.accepted_laws.specs.Rows.{bytes_lengths}
use Rattle.back.proofs.project.project_unbroken.Goals as goal
use Rattle.back.proofs.project.project_unbroken.Goals.{In_ok-bytes_refusal}

-- the output is n long
long : (c : In_ok-bytes_refusal) → length c.args.out.now ≡ c.args.«record».n
long c = let a = c.args in (bytes_lengths a.«record» a.«record».n a.plan.now (length a.out.now) (sym c.in_ok-bytes_refusal.ensures)).1

pub returns-in_err-bytes_refusal : goal.returns-in_err-bytes_refusal
returns-in_err-bytes_refusal c =
    let a = c.args in
    let p = err_from_is_err_and c.from_residual.result c.from_residual.ensures.1 in
    answers_err _ c.in_err-bytes_refusal.field-0.0 (projected a.«record» a.plan.now) a.out.now (p.1 ∙ ap Err p.2) c.in_err-bytes_refusal.ensures

pub shared_ref_as_front-projected : goal.shared_ref_as_front-projected
shared_ref_as_front-projected c = few_decisions c.args.«record» c.requires

pub copy_from_slice-requires : goal.copy_from_slice-requires
copy_from_slice-requires c =
    let f : length c.projected-entries.result ≡ 64 = search rules in
    long (goal.at.copy_from_slice-requires c).In_ok-bytes_refusal ∙ sym (length-take-le c.args.«record».n c.projected-entries.result (omega (arith, few_decisions c.args.«record» c.requires)))

pub returns : goal.returns
unfolding states_of
returns c =
    let r = c.args.«record» in
    let ls : length r.states ≡ 64 = search rules in
    let n : length (take r.n r.states) ≡ r.n = length-take-le r.n r.states (omega (arith, few_decisions r c.requires)) in
    answers_accepted _ (projected r c.args.plan.now) c.args.out.now _ (sym c.in_ok-bytes_refusal.ensures)
    (c.copy_from_slice.ensures.after ∙ ap (λ (m : ℕ). take m c.projected-entries.result) (sym n) ∙ c.projected-entries.ensures)
