-- What each call gives: its number, and the lent slice when it returns. Two results that meet a contract are equal.
-- Assumes nothing.
use Rattle.std.specs.Prelude.{◌≡◌, List, ℕ, suc, length}
use Rattle.std.proofs.Common.{sym, ap, ◌∙◌}
use Rattle.rules.specs.Refuse.{grow_refusal, project_refusal, grow_block_refusal, project_block_refusal}
use Rattle.rules.specs.Record.{record_in}
use Rattle.rules.specs.Call.{unless, grown, projected, plan_after, answer_after, block_plan_after, block_answer_after}
use Rattle.rules.specs.declared.Record.{Record}

-- a call's number and its slice at exit are these
pub record Returns (refusal : ℕ) (slice : List ℕ) (number : ℕ) (exit : List ℕ) : Type 0 where
  pub number_is : number ≡ refusal
  pub slice_is : exit ≡ slice

-- grow_back, with `plan` lent
abbrev pub GrownBack : Record → List ℕ → List ℕ → ℕ → List ℕ → Type 0
GrownBack r answer plan = Returns (grow_refusal r answer (length plan)) (plan_after r answer plan)

-- project, with `out` lent
abbrev pub Projected : Record → List ℕ → List ℕ → ℕ → List ℕ → Type 0
Projected r plan out = Returns (project_refusal r plan (length out)) (answer_after r plan out)

-- the same straight from a block
abbrev pub GrownBackBlock : List ℕ → List ℕ → List ℕ → ℕ → List ℕ → Type 0
GrownBackBlock block answer plan = Returns (grow_block_refusal block answer (length plan)) (block_plan_after block answer plan)

abbrev pub ProjectedBlock : List ℕ → List ℕ → List ℕ → ℕ → List ℕ → Type 0
ProjectedBlock block plan out = Returns (project_block_refusal block plan (length out)) (block_answer_after block plan out)

-- "any two results meeting it are equal", of all four
pub one_result : {k : ℕ} {x : List ℕ} {m n : ℕ} {y z : List ℕ} → Returns k x m y → Returns k x n z → (m ≡ n) × (y ≡ z)
one_result a b = (a.number_is ∙ sym b.number_is, a.slice_is ∙ sym b.slice_is)

-- ---- what a caller has of it
-- the slice held y: it holds x where the number k is 0, and y where it is not
abbrev pub Answers : ℕ → List ℕ → List ℕ → ℕ → List ℕ → Type 0
Answers k x y = Returns k (unless k x y)

pub done : (k : ℕ) (x y exit : List ℕ) → Answers k x y 0 exit → exit ≡ x
done k x y exit g = g.slice_is ∙ ap (λ (m : ℕ). unless m x y) (sym g.number_is)

pub kept : (k : ℕ) (x y exit : List ℕ) (m : ℕ) → Answers k x y (suc m) exit → exit ≡ y
kept k x y exit m g = g.slice_is ∙ ap (λ (m : ℕ). unless m x y) (sym g.number_is)

pub grow_back_done : (r : Record) (answer plan : List ℕ) (exit : List ℕ) → GrownBack r answer plan 0 exit → exit ≡ grown r answer
unfolding plan_after
grow_back_done r answer plan exit g = done (grow_refusal r answer (length plan)) (grown r answer) plan exit g

pub project_done : (r : Record) (plan out : List ℕ) (exit : List ℕ) → Projected r plan out 0 exit → exit ≡ projected r plan
unfolding answer_after
project_done r plan out exit g = done (project_refusal r plan (length out)) (projected r plan) out exit g

pub grow_back_block_done : (block answer plan : List ℕ) (exit : List ℕ) → GrownBackBlock block answer plan 0 exit → exit ≡ grown (record_in block) answer
unfolding block_plan_after
grow_back_block_done block answer plan exit g = done (grow_block_refusal block answer (length plan)) (grown (record_in block) answer) plan exit g

pub project_block_done : (block plan out : List ℕ) (exit : List ℕ) → ProjectedBlock block plan out 0 exit → exit ≡ projected (record_in block) plan
unfolding block_answer_after
project_block_done block plan out exit g = done (project_block_refusal block plan (length out)) (projected (record_in block) plan) out exit g
