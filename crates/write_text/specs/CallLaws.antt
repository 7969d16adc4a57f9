-- What is written of a call of `reduce` is the program's reply.
-- Assumes nothing.
use Rattle.std.specs.Prelude.{◌≡◌, refl, List, length, ℤ, Result, Ok, Err, IfOk}
use Rattle.std.proofs.Common.{ap, sym}
use Rattle.rules.specs.Objective.{Objective}
use Rattle.rules.specs.Outcome.{outcome}
use Rattle.rules.specs.Refuse.{reduce_refusal}
use Rattle.rules.specs.Numbers.{number_of}
use Rattle.rules.specs.Call.{Answered, unless, reduction, linear_after, edges_after}
use Rattle.rules.specs.ReadText.{given}
use Rattle.rules.specs.WriteText.{written, written_refusal}
use Rattle.rules.specs.Program.{reply}
use Rattle.rules.specs.declared.Reduction.{Reduction}
use Rattle.rules.specs.declared.refusal.Refusal.{Refusal}
use Rattle.accepted_laws.specs.Answers.{unless_kept}
use Rattle.write_text.specs.Outcomes.{outcome_in, Fair, replied}
use Rattle.write_text.specs.OutcomeLaws.{Reported, outcome_back, reported_fair}

pub replied_result : (r : Reduction) (l e : List ℤ) → replied (Ok r) l e ≡ written (outcome_in r l e)
unfolding replied
replied_result r l e = refl

pub replied_refusal : (k : Refusal) (l e : List ℤ) → replied (Err k) l e ≡ written_refusal (number_of k)
unfolding replied
replied_refusal k l e = refl

-- a call on o with outputs of the right lengths, whose outcome has the shape of one where it is not refused
module _ (o : Objective) (l e : List ℤ) (weights : length l ≡ 64) (cells : length e ≡ 4096) (shape : reduce_refusal o 64 4096 ≡ 0 → Reported o.n (outcome o)) where
  -- the outputs that are fit are those of the outcome, where it is not refused
  pub call_replied : (r : Result Reduction Refusal) → Answered (reduce_refusal o (length l) (length e)) (reduction o) r → replied r (linear_after o l e) (edges_after o l e) ≡ reply (given o)
  unfolding replied reduction linear_after edges_after reply
  call_replied (Ok r) g =
      let z : reduce_refusal o 64 4096 ≡ 0 = rw (weights, cells) at (sym g.number_is) in
      rw (weights, cells, z, g.value_is) (ap written (outcome_back o.n (outcome o) (shape z)))
  call_replied (Err k) g =
      let z : number_of k ≡ reduce_refusal o 64 4096 = rw (weights, cells) at g.number_is in
      rw (← z) (unless_kept (number_of k) k (written (outcome o)) (written_refusal (number_of k)) refl)

  -- what it leaves is fit to be written; of a refusal too it has the lengths
  pub call_fair : (r : Result Reduction Refusal) → Answered (reduce_refusal o (length l) (length e)) (reduction o) r → IfOk r (λ x. Fair x (linear_after o l e) (edges_after o l e)) × (length (linear_after o l e) ≡ 64) × (length (edges_after o l e) ≡ 4096)
  unfolding reduction linear_after edges_after
  call_fair (Ok r) g =
      let z : reduce_refusal o 64 4096 ≡ 0 = rw (weights, cells) at (sym g.number_is) in
      let s : Reported o.n (outcome o) = shape z in
      rw (weights, cells, z, g.value_is) (reported_fair o.n (outcome o) s, s.weights, s.cells)
  call_fair (Err k) g =
      let z : number_of k ≡ reduce_refusal o 64 4096 = rw (weights, cells) at g.number_is in
      let kept : (x y : List ℤ) → y ≡ unless (reduce_refusal o 64 4096) x y = λ x y. unless_kept (reduce_refusal o 64 4096) k x y z in
      rw (weights, cells, ← kept (outcome o).linear l, ← kept (outcome o).edges e) (tt, weights, cells)
