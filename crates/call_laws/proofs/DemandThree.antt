-- Demand 3 on what the calls really give: reduce, then growing back or projecting by its record; or write_record, read_record, and the same from the very bytes.
-- Assumes nothing.
use Rattle.std.specs.Prelude.{◌≡◌, List, ℕ, length, take, ℤ, Result, Ok}
use Rattle.std.proofs.Common.{sym, ap, ◌∙◌, subst}
use Rattle.rules.specs.Objective.{Objective}
use Rattle.rules.specs.Record.{record_in}
use Rattle.rules.specs.Refuse.{reduce_refusal, read_refusal, write_refusal, grow_block_refusal, project_block_refusal}
use Rattle.rules.specs.Call.{Answered, reduction, block_after, block_plan_after, block_answer_after}
use Rattle.rules.specs.declared.Record.{Record}
use Rattle.rules.specs.declared.refusal.Refusal.{Refusal}
use Rattle.rules.specs.declared.Reduction.{Reduction}
use Rattle.demand_laws.specs.Demands.{Values, FullPlan, CostsExactly, NeverCostlier}
use Rattle.accepted_laws.specs.Answers.{answered_value, answered_one}
use Rattle.run_record_laws.proofs.ByCalls.{by_calls}
use Rattle.run_record_laws.proofs.ByBlock.{by_block}
use Rattle.record.specs.Promises.{Writes, Reads}
use Rattle.back.specs.Calls.{GrownBack, Projected, GrownBackBlock, ProjectedBlock}
use Rattle.reduce.specs.Gives.{Gives}
use Rattle.call_laws.specs.DemandThree.{accepted}

-- `reduce` was lent outputs that held l and e, and gave x, l' and e'; it did not refuse, and x is r
module _ (o : Objective) (l e l' e' : List ℤ) (x : Result Reduction Refusal) (r : Reduction) (gave : Gives o l e x l' e') (fine : x ≡ Ok r) where
  not_refused : reduce_refusal o (length l) (length e) ≡ 0
  not_refused = accepted o l e l' e' x r gave fine

  reduced : r ≡ reduction o
  reduced = answered_value gave.reduction fine

  -- an answer grown back by the record: not refused, a full plan that keeps the fixings, and its cost is the constant plus the reduced cost
  pub record_grown : (answer out exit : List ℕ) (k : ℕ) → Values r.counts.remaining answer → length out ≡ o.n → GrownBack r.«record» answer out k exit
      → CostsExactly o r l' e' answer k exit
  record_grown answer out exit k v n g =
      let v' : Values (reduction o).counts.remaining answer = subst (λ (x : Reduction). Values x.counts.remaining answer) reduced v in
      rw (g.number_is, g.slice_is, reduced, gave.linear, gave.edges) ((by_calls o l e not_refused).grown answer out v' n)

  -- a full plan projected by the record, and its front grown back: neither refused, the front an answer, what it grows to a full plan, never costlier
  pub record_projected : (plan out front out' exit : List ℕ) (k m : ℕ) → FullPlan o plan → length out ≡ o.n → length out' ≡ o.n → Projected r.«record» plan out k front
      → GrownBack r.«record» (take r.counts.remaining front) out' m exit → NeverCostlier o r l' e' plan k front m exit
  record_projected plan out front out' exit k m full n n' p g =
      rw (g.number_is, g.slice_is, p.number_is, p.slice_is, reduced, gave.linear, gave.edges) ((by_calls o l e not_refused).projected plan out out' full n n')

  -- `write_record` was lent an output 512 long that held b
  module _ (b b' : List ℕ) (number : ℕ) (long : length b ≡ 512) (wrote : Writes r.«record» b number b') where
    same : b' ≡ block_after (reduction o).«record» b
    same = wrote.1 ∙ ap (λ (x : Reduction). block_after x.«record» b) reduced

    -- a reduction's record is written
    pub is_written : number ≡ 0
    is_written = wrote.0 ∙ ap (λ (x : Reduction). write_refusal x.«record» (length b)) reduced ∙ (by_block o l e b not_refused long).written

    -- and read as it was
    pub is_read : (s : Result Record Refusal) → Reads b' s → s ≡ Ok r.«record»
    is_read s h =
        let t = (by_block o l e b not_refused long).read in
        let k : read_refusal b' ≡ 0 = ap read_refusal same ∙ t.0 in
        let v : record_in b' ≡ r.«record» = ap record_in same ∙ t.1 ∙ ap (λ (x : Reduction). x.«record») (sym reduced) in
        answered_one s (Ok r.«record») h (record { number_is = sym k; value_is = sym v })

    -- what a call from the block gives, the same call by the record gives
    grows_so : (answer out exit : List ℕ) (k : ℕ) → GrownBackBlock b' answer out k exit → GrownBack r.«record» answer out k exit
    grows_so answer out exit k g = rw reduced (record {
      number_is = g.number_is ∙ ap (λ (c : List ℕ). grow_block_refusal c answer (length out)) same ∙ (by_block o l e b not_refused long).grown_number answer (length out);
      slice_is = g.slice_is ∙ ap (λ (c : List ℕ). block_plan_after c answer out) same ∙ (by_block o l e b not_refused long).grown answer out;
    })

    projects_so : (plan out front : List ℕ) (k : ℕ) → ProjectedBlock b' plan out k front → Projected r.«record» plan out k front
    projects_so plan out front k p = rw reduced (record {
      number_is = p.number_is ∙ ap (λ (c : List ℕ). project_block_refusal c plan (length out)) same ∙ (by_block o l e b not_refused long).projected_number plan (length out);
      slice_is = p.slice_is ∙ ap (λ (c : List ℕ). block_answer_after c plan out) same ∙ (by_block o l e b not_refused long).projected plan out;
    })

    -- so the same from the block
    pub is_grown : (answer out exit : List ℕ) (k : ℕ) → Values r.counts.remaining answer → length out ≡ o.n → GrownBackBlock b' answer out k exit
        → CostsExactly o r l' e' answer k exit
    is_grown answer out exit k v n g = record_grown answer out exit k v n (grows_so answer out exit k g)

    pub is_projected : (plan out front out' exit : List ℕ) (k m : ℕ) → FullPlan o plan → length out ≡ o.n → length out' ≡ o.n → ProjectedBlock b' plan out k front
        → GrownBackBlock b' (take r.counts.remaining front) out' m exit → NeverCostlier o r l' e' plan k front m exit
    is_projected plan out front out' exit k m full n n' p g =
        record_projected plan out front out' exit k m full n n' (projects_so plan out front k p) (grows_so (take r.counts.remaining front) out' exit m g)
