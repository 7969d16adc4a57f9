-- `balecreak::reduce_into` meets its contract: a row that holds leaves all as it was; else the outputs, the block and the counts. Assumes nothing.
use Rattle.std.proofs.Common.{◌≡◌, rules, Err, ap, sym, ◌∙◌, subst, length, ℕ}
use Rattle.rules.specs.Given.{of_lists}
use Rattle.rules.specs.Numbers.{number_of, answer_of}
use Rattle.accepted_laws.specs.Answers.{numbered_row}
use Rattle.balecreak.specs.Calls.{ReducedInto}
use Rattle.balecreak.specs.IntoLaws.{Passed, into_passed, refused_into, accepted_into}
use Rattle.balecreak.proofs.reduce_into.Goals as goal
use Rattle.balecreak.proofs.reduce_into.Goals.{In_ok-into_refusal}

-- no row holds
passed : (c : In_ok-into_refusal) → Passed (of_lists c.args.o) (length c.args.linear.now) (length c.args.edges.now) (length c.args.block.now) (length c.args.counts.now)
passed c = let a = c.args in into_passed (of_lists a.o) (length a.linear.now) (length a.edges.now) (length a.block.now) (length a.counts.now) (sym c.in_ok-into_refusal.ensures)

pub returns-in_err-into_refusal : goal.returns-in_err-into_refusal
returns-in_err-into_refusal c =
    let a = c.args in
    let r = c.in_err-into_refusal.field-0.0 in
    let e : c.from_residual.result ≡ Err r = search rules in
    subst (λ (k : ℕ). ReducedInto (of_lists a.o) a.linear.now a.edges.now a.block.now a.counts.now k a.linear.now a.edges.now a.block.now a.counts.now) (sym (ap answer_of e)) (refused_into (of_lists a.o) a.linear.now a.edges.now a.block.now a.counts.now (number_of r) c.in_err-into_refusal.ensures (numbered_row r))

pub accepted-r-requires : goal.accepted-r-requires
accepted-r-requires c = (passed (goal.at.accepted-r-requires c).In_ok-into_refusal).accepted

pub copy_from_slice-requires : goal.copy_from_slice-requires
copy_from_slice-requires c = search (rules, (passed (goal.at.copy_from_slice-requires c).In_ok-into_refusal).block)

pub copy_from_slice-requires-2 : goal.copy_from_slice-requires-2
copy_from_slice-requires-2 c = search (rules, (passed (goal.at.copy_from_slice-requires-2 c).In_ok-into_refusal).counts)

pub returns : goal.returns
returns c =
    let a = c.args in
    accepted_into (of_lists a.o) a.linear.now a.edges.now a.block.now a.counts.now c.accepted-r.result _ _ _ _ (sym c.in_ok-into_refusal.ensures) c.accepted-r.ensures (c.copy_from_slice.ensures.after ∙ c.block_of.ensures) (c.copy_from_slice-2.ensures.after ∙ c.listing.ensures)
