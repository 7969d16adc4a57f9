-- What the call gives, and what it leaves in the lent outputs, which held l and e.
-- Assumes nothing.
use Rattle.std.specs.Prelude.{◌≡◌, Bool, List, ◌++◌, ℕ, ◌+◌, ◌-◌, length, replicate, ℤ, Result}
use Rattle.std.proofs.Common.{sym, ◌∙◌}
use Rattle.rules.specs.Graph.{Graph}
use Rattle.rules.specs.Objective.{Objective}
use Rattle.rules.specs.Outcome.{outcome}
use Rattle.rules.specs.Record.{no_step}
use Rattle.rules.specs.Refuse.{reduce_refusal}
use Rattle.rules.specs.Call.{Answered, reported, reduction, linear_after, edges_after}
use Rattle.rules.specs.declared.Counts.{Counts}
use Rattle.rules.specs.declared.Record.{Record}
use Rattle.rules.specs.declared.Reduction.{Reduction}
use Rattle.rules.specs.declared.Step.{Step}
use Rattle.rules.specs.declared.refusal.Refusal.{Refusal}
use Rattle.accepted_laws.specs.Answers.{answered_one}
use Rattle.state.specs.declared.State.{State}
use Rattle.run.specs.declared.Reached.{Reached}

pub record Gives (o : Objective) (l e : List ℤ) (r : Result Reduction Refusal) (l' e' : List ℤ) : Type 0 where
  pub reduction : Answered (reduce_refusal o (length l) (length e)) (reduction o) r
  pub linear : l' ≡ linear_after o l e
  pub edges : e' ≡ edges_after o l e

-- any two results that meet the contract are equal
pub only_one : (o : Objective) (l e : List ℤ) (r s : Result Reduction Refusal) (l₁ l₂ e₁ e₂ : List ℤ) → Gives o l e r l₁ e₁ → Gives o l e s l₂ e₂ → (r ≡ s) × (l₁ ≡ l₂) × (e₁ ≡ e₂)
only_one o l e r s l₁ l₂ e₁ e₂ g h = (answered_one r s g.reduction h.reduction, g.linear ∙ sym h.linear, g.edges ∙ sym h.edges)

-- the same of an objective that is not refused
pub record Done (o : Objective) (r : Reduction) (l e : List ℤ) : Type 0 where
  pub reduction : r ≡ reported o.n (outcome o)
  pub linear : l ≡ (outcome o).linear
  pub edges : e ≡ (outcome o).edges

-- ---- the parts of a reduction, from where the code's run ended
abbrev pub record_from : Graph → List Step → Record
record_from g made = record {
  n = g.n;
  count = length made;
  constant = g.constant;
  states = g.states;
  steps = made ++ replicate (64 - length made) no_step;
}

abbrev pub counts_from : State → ℕ → Counts
counts_from s remaining = record {
  eliminated = s.tally.eliminated;
  degree_three_eliminated = s.tally.three;
  degree_three_skipped = s.tally.skipped;
  contracted = s.tally.contracted;
  weak_contractions = s.tally.weakly;
  additional_fixed = 0;
  remaining = remaining;
  passes = 1 + s.blocks;
  blocks_eliminated = s.blocks;
  block_variables = s.tally.in_blocks;
}

abbrev pub report_from : Graph → Reached → ℕ → Bool → Reduction
report_from g at remaining complete = record {
  «record» = record_from g at.steps;
  counts = counts_from at.state remaining;
  takes = at.state.takes;
  blocks = at.state.blocks;
  units = at.state.takes + at.state.blocks;
  complete = complete;
}
