use Rattle.std.proofs.Common.{◌≡◌, refl, ap, ◌∙◌, [], ◌∷◌, not, eqb, ltb, rules, arith, Err}
use Rattle.std.proofs.lemmas.Iterator.{YieldsList-from_slice}
use Rattle.std.proofs.lemmas.Result.{err_from_is_err_and}
use Rattle.whole.specs.Words.{one_of, some}
use Rattle.whole.specs.Chains.{some_from_any}
use Rattle.rules.specs.Numbers.{answer_of}
use Rattle.rules.specs.Refuse.{first_row, over, not_long}
use Rattle.accepted_laws.specs.Answers.{row_stops, row_goes}
use Rattle.back.proofs.bytes.bytes_refusal.Goals as goal

pub returns-in_err-row : goal.returns-in_err-row
unfolding one_of
returns-in_err-row c =
    let a = c.args in
    let t : c.if-bytes-long.lengths ≡ one_of (not_long a.bytes.now a.long ∷ not (eqb a.out a.«record».n) ∷ []) = grind arith in
    let p = err_from_is_err_and c.from_residual.result c.from_residual.ensures.1 in
    ap answer_of (p.1 ∙ ap Err p.2) ∙ row_stops 7 _ _ t c.in_err-row.ensures

pub returns : goal.returns
unfolding one_of first_row
returns c =
    let a = c.args in
    let t : c.if-bytes-long.lengths ≡ one_of (not_long a.bytes.now a.long ∷ not (eqb a.out a.«record».n) ∷ []) = grind arith in
    let e : c.any-over.result ≡ some (over 1) a.bytes.now = some_from_any (ltb 1) _ _ c.any-over.result c.any-over.ensures.ran (YieldsList-from_slice a.bytes.now cc) (λ x b q k. search rules) in
    row_goes 7 ((8, some (over 1) a.bytes.now) ∷ []) refl t c.in_ok-row.ensures (rw e at c.row-2.ensures)
