-- The rows of every objective's lists, then reduce's own.
use Rattle.std.proofs.Common.{◌≡◌, Err, ltb, rules, arith}
use Rattle.std.proofs.lemmas.Iterator.{YieldsList-from_slice}
use Rattle.rules.specs.Given.{of_lists}
use Rattle.rules.specs.Refuse.{first_row, bad_fixing}
use Rattle.whole.specs.Chains.{some_from_any}
use Rattle.accepted_laws.specs.Answers.{numbered_row}
use Rattle.refusal.proofs.refusal.Goals as goal
use Rattle.refusal.proofs.refusal.Goals.{After-any}

-- row 4
fixing : (c : After-any) → c.any.result ≡ bad_fixing (of_lists c.args.o)
unfolding bad_fixing
fixing c = some_from_any (ltb 2) _ _ c.any.result c.any.ensures.ran (YieldsList-from_slice c.args.o.fixings.now cc) (λ x b q k. search rules)

pub returns-in_err-list_rows : goal.returns-in_err-list_rows
unfolding first_row
returns-in_err-list_rows c =
    let r = c.in_err-list_rows.field-0.0 in
    let e : c.from_residual.result ≡ Err r = search rules in
    let n = numbered_row r in
    let h = c.in_err-list_rows.ensures in
    rw e (grind arith)

pub returns-in_err-row : goal.returns-in_err-row
unfolding first_row
returns-in_err-row c =
    let f = fixing (goal.at.returns-in_err-row c).After-any in
    let r = c.in_err-row.field-0.0 in
    let e : c.from_residual-in_err-row.result ≡ Err r = search rules in
    let n = numbered_row r in
    let h = c.in_err-row.ensures in
    let z = c.in_ok-list_rows.ensures in
    rw e (grind arith)

pub returns-in_err-row-2 : goal.returns-in_err-row-2
unfolding first_row
returns-in_err-row-2 c =
    let f = fixing (goal.at.returns-in_err-row-2 c).After-any in
    let r = c.in_err-row-2.field-0.0 in
    let e : c.from_residual-in_err-row-2.result ≡ Err r = search rules in
    let n = numbered_row r in
    let h = c.in_err-row-2.ensures in
    let z = c.in_ok-list_rows.ensures in
    let z1 = c.in_ok-row.ensures in
    rw e (grind arith)

pub returns : goal.returns
unfolding first_row
returns c =
    let f = fixing (goal.at.returns c).After-any in
    let z = c.in_ok-list_rows.ensures in
    let z1 = c.in_ok-row.ensures in
    let z2 = c.in_ok-row-2.ensures in
    grind arith
