-- Demand 3 on what the calls really give: reduce, then growing back or projecting by its record; or write_record, read_record, and the same from the very bytes.
-- Each hypothesis is the contract of one call, each conclusion stands over what that call gave.
-- Assumes nothing.
use Rattle.std.specs.Prelude.{◌≡◌, List, length, ℤ, Result, Ok}
use Rattle.std.proofs.Common.{sym}
use Rattle.rules.specs.Objective.{Objective}
use Rattle.rules.specs.Refuse.{reduce_refusal}
use Rattle.rules.specs.declared.Reduction.{Reduction}
use Rattle.rules.specs.declared.refusal.Refusal.{Refusal}
use Rattle.accepted_laws.specs.Answers.{answered_number}
use Rattle.reduce.specs.Gives.{Gives}

-- `reduce` was lent outputs that held l and e, and gave x, l' and e'; it did not refuse, and x is r
module _ (o : Objective) (l e l' e' : List ℤ) (x : Result Reduction Refusal) (r : Reduction) (gave : Gives o l e x l' e') (fine : x ≡ Ok r) where
  pub accepted : reduce_refusal o (length l) (length e) ≡ 0
  accepted = sym (answered_number gave.reduction fine)
