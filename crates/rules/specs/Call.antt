-- What each public call gives, and what it leaves in the lent slices.
-- "It returns only its number, all other result fields zero or empty, and every lent slice is unchanged."
-- Assumes nothing.
use Rattle.std.specs.Prelude.{◌≡◌, List, ℕ, zero, suc, length, ℤ, Result, IfOk}
use Rattle.rules.specs.Numbers.{answer_of}
use Rattle.rules.specs.Objective.{Objective}
use Rattle.rules.specs.Outcome.{Outcome, outcome}
use Rattle.rules.specs.Record.{record_of, block_of, record_in, states_of, steps_of}
use Rattle.rules.specs.Refuse.{reduce_refusal, write_refusal, grow_refusal, project_refusal, grow_block_refusal, project_block_refusal}
use Rattle.rules.specs.Back as back
use Rattle.rules.specs.declared.Record.{Record}
use Rattle.rules.specs.declared.Reduction.{Reduction}
use Rattle.rules.specs.declared.refusal.Refusal.{Refusal}

-- the one where the number is 0, the other where it is not
abbrev pub unless : {A : Type 0} → ℕ → A → A → A
unless zero done kept = done
unless (suc k) done kept = kept

-- a call whose table gives the number k, and whose result is x where that is 0: "It returns only its number", and a refusal holds nothing else
pub record Answered {A : Type 0} (k : ℕ) (x : A) (r : Result A Refusal) : Type 0 where
  pub number_is : answer_of r ≡ k
  pub value_is : IfOk r (λ y. y ≡ x)

-- ---- reduce, with lent outputs that hold l and e
abbrev pub reported : ℕ → Outcome → Reduction
reported n o = record {
  «record» = record_of n o.constant o.states o.steps;
  counts = o.counts;
  takes = o.takes;
  blocks = o.blocks;
  units = o.units;
  complete = o.complete;
}

unfoldable pub reduction : Objective → Reduction
reduction o = reported o.n (outcome o)

unfoldable pub linear_after : Objective → List ℤ → List ℤ → List ℤ
linear_after o l e = unless (reduce_refusal o (length l) (length e)) (outcome o).linear l

unfoldable pub edges_after : Objective → List ℤ → List ℤ → List ℤ
edges_after o l e = unless (reduce_refusal o (length l) (length e)) (outcome o).edges e

-- ---- write_record; read_record gives `record_in`
unfoldable pub block_after : Record → List ℕ → List ℕ
block_after r out = unless (write_refusal r (length out)) (block_of r) out

-- ---- grow_back and project, from a record and straight from its block
abbrev pub grown : Record → List ℕ → List ℕ
grown r answer = back.grow_back (states_of r) (steps_of r) answer

abbrev pub projected : Record → List ℕ → List ℕ
projected r plan = back.project (states_of r) plan

unfoldable pub plan_after : Record → List ℕ → List ℕ → List ℕ
plan_after r answer out = unless (grow_refusal r answer (length out)) (grown r answer) out

unfoldable pub answer_after : Record → List ℕ → List ℕ → List ℕ
answer_after r plan out = unless (project_refusal r plan (length out)) (projected r plan) out

unfoldable pub block_plan_after : List ℕ → List ℕ → List ℕ → List ℕ
block_plan_after b answer out = unless (grow_block_refusal b answer (length out)) (grown (record_in b) answer) out

unfoldable pub block_answer_after : List ℕ → List ℕ → List ℕ → List ℕ
block_answer_after b plan out = unless (project_block_refusal b plan (length out)) (projected (record_in b) plan) out
