-- Demand 3 through the calls: the record of a reduction is not refused, and grows back and projects as the run's own states and steps do.
-- Assumes nothing.
use Rattle.std.specs.Prelude.{◌≡◌, true, false, ℕ, suc, ◌-◌, ◌<◌, ◌≤◌, get_or, take, replicate, ℤ, ◌≤ℤ◌}
use Rattle.std.proofs.Math.Path.{refl, sym, ap, subst}
use Rattle.std.proofs.Common.{ap₂, ◌∙◌, arith, le-ltb}
use mathlib.Core.List.{List, [], ◌∷◌}
use Rattle.std.proofs.Math.ListN.{length, length-append, length-replicate}
use Rattle.whole.specs.Words.{some}
use Rattle.whole.specs.Parts.{nat_abs_parts}
use Rattle.whole.specs.Tests.{not_on, or_none}
use Rattle.whole.specs.Lists.{past}
use Rattle.rules.specs.Objective.{Objective}
use Rattle.rules.specs.Outcome.{outcome_of, outcome}
use Rattle.rules.specs.Back.{grow_back, project, remaining_of}
use Rattle.rules.specs.Eliminate as rule
use Rattle.rules.specs.Record.{record_of, steps_of, states_of, sound}
use Rattle.rules.specs.Refuse.{over, reduce_refusal, grow_refusal, project_refusal}
use Rattle.rules.specs.Call.{unless, reduction, reported, linear_after, edges_after, plan_after, answer_after}
use Rattle.rules.specs.declared.Reduction.{Reduction}
use Rattle.accepted_laws.specs.Accept.{Fit, Accepted, accept}
use Rattle.sound_laws.specs.SoundStart.{states_from}
use Rattle.size_laws.proofs.RunWithin.{ended_within}
use Rattle.demand_laws.specs.Demands.{Values, FullPlan, Answer, cost_of_plan, grown_back, projection, Grows, Projects, ByCalls}
use Rattle.demand_laws.specs.RunEnds.{end_graph, end_steps, end_states, end_taken, start_state, shown_remaining}
use Rattle.demand_laws.proofs.Theorems.{first_half, second_half}
use Rattle.record_laws.specs.Steps.{steps_of_record}
use Rattle.run_record_laws.specs.RunRecord.{steps_narrow}
use Rattle.run_record_laws.proofs.RecordSound.{record_sound}
use Rattle.accepted_laws.specs.Rows.{no_row, bytes_fine}
use Rattle.run_record_laws.specs.ByCalls.{made}

-- ---- the run's record
module _ (o : Objective) (fit : Fit o) where
  pub run_record_sound : sound (record_of o.n (outcome o).constant (outcome o).states (outcome o).steps) ≡ true
  unfolding outcome outcome_of
  run_record_sound =
      subst (λ (ss : List ℕ). sound (record_of o.n (end_graph o).constant ss (end_steps o)) ≡ true) (sym (end_states o fit))
      (record_sound o.n (end_graph o).constant (states_from o.n o.fixings) (end_steps o) fit.small long first
      (λ i l. past o.fixings 0 (64 - o.n) i (omega (arith, fit.fixings))) (end_taken o fit)
      (omega (arith, nat_abs_parts (end_graph o).constant, (ended_within o fit).constant)))
    where
      long : length (states_from o.n o.fixings) ≡ 64
      long = omega (arith, length-append o.fixings (replicate {A = ℕ} (64 - o.n) 0), length-replicate {A = ℕ} (64 - o.n) 0, fit.fixings, fit.small)

      first : (i : ℕ) → i < o.n → get_or (states_from o.n o.fixings) i 0 ≤ 2
      first i l = rw (start_state o fit i l) (fit.bytes i (omega (arith, fit.fixings)))

  -- the steps read from it are the run's
  pub run_steps_held : steps_of (record_of o.n (outcome o).constant (outcome o).states (outcome o).steps) ≡ (outcome o).steps
  unfolding outcome outcome_of
  run_steps_held = steps_of_record o.n (end_graph o).constant (end_graph o).states (end_steps o)
      (steps_narrow o.n (states_from o.n o.fixings) (end_steps o) (end_taken o fit))

all_bits : (xs : List ℕ) → ((i : ℕ) → get_or xs i 0 ≤ 1) → some (over 1) xs ≡ false
unfolding some
all_bits [] h = refl
all_bits (x ∷ xs) h = or_none (le-ltb 1 x (h 0)) (all_bits xs (λ i. h (suc i)))

-- ---- growing back and projecting by the record
module _ (o : Objective) (fit : Fit o) where
  remaining_held : length (remaining_of (states_of (record_of o.n (outcome o).constant (outcome o).states (outcome o).steps))) ≡ length (outcome o).remaining
  unfolding outcome outcome_of states_of
  remaining_held = ap length (shown_remaining o fit)

  grow_fine : (answer out : List ℕ) → Answer o answer → length out ≡ o.n → grow_refusal (made o fit) answer (length out) ≡ 0
  unfolding grow_refusal states_of
  grow_fine answer out a h = no_row 12 _ (not_on (run_record_sound o fit)) ∙ bytes_fine (made o fit) _ answer (length out) (a.long ∙ sym remaining_held) h (all_bits answer a.bits)

  plan_is : (answer out : List ℕ) → Answer o answer → length out ≡ o.n → plan_after (made o fit) answer out ≡ grown_back o answer
  unfolding plan_after states_of
  plan_is answer out a h =
      ap (λ (k : ℕ). unless k (grow_back (take o.n (outcome o).states) (steps_of (made o fit)) answer) out) (grow_fine answer out a h)
      ∙ ap (λ (ss : List rule.Step). grow_back (take o.n (outcome o).states) ss answer) (run_steps_held o fit)

  project_fine : (plan out : List ℕ) → Values o.n plan → length out ≡ o.n → project_refusal (made o fit) plan (length out) ≡ 0
  unfolding project_refusal
  project_fine plan out v h = no_row 12 _ (not_on (run_record_sound o fit)) ∙ bytes_fine (made o fit) o.n plan (length out) v.long h (all_bits plan v.bits)

  answer_is : (plan out : List ℕ) → Values o.n plan → length out ≡ o.n → answer_after (made o fit) plan out ≡ project (take o.n (outcome o).states) plan
  unfolding answer_after states_of
  answer_is plan out v h = ap (λ (k : ℕ). unless k (project (take o.n (outcome o).states) plan) out) (project_fine plan out v h)

-- ---- through the calls
pub reply_is : (o : Objective) → reduction o ≡ reported o.n (outcome o)
unfolding reduction
reply_is o = refl

module _ (o : Objective) (l e : List ℤ) (accepted : reduce_refusal o (length l) (length e) ≡ 0) where
  whole : Accepted o (length l) (length e)
  whole = accept o (length l) (length e) accepted

  accepted_lengths : reduce_refusal o 64 4096 ≡ 0
  accepted_lengths = ap₂ (reduce_refusal o) (sym whole.out_linear) (sym whole.out_edges) ∙ accepted

  linear_is : linear_after o l e ≡ (outcome o).linear
  unfolding linear_after
  linear_is = ap (λ (k : ℕ). unless k (outcome o).linear l) accepted

  edges_is : edges_after o l e ≡ (outcome o).edges
  unfolding edges_after
  edges_is = ap (λ (k : ℕ). unless k (outcome o).edges e) accepted

  count_is : (outcome o).counts.remaining ≡ length (outcome o).remaining
  unfolding outcome outcome_of
  count_is = refl

  reported_grows : Grows o (reported o.n (outcome o)) (outcome o).linear (outcome o).edges
  reported_grows answer out v h =
      let a : Answer o answer = subst (λ (k : ℕ). Values k answer) count_is v in
      let f = first_half o accepted_lengths answer a in
      let plan = plan_is o whole.fit answer out a h in
      record { fine = grow_fine o whole.fit answer out a h; full = subst (FullPlan o) (sym plan) f.0; exact = ap (cost_of_plan o) plan ∙ f.1 }

  reported_projects : Projects o (reported o.n (outcome o)) (outcome o).linear (outcome o).edges
  reported_projects plan out out' p h h' =
      let q = second_half o accepted_lengths plan p in
      let front : List ℕ = take (outcome o).counts.remaining (answer_after (made o whole.fit) plan out) in
      let same : front ≡ projection o plan = ap₂ (λ (k : ℕ) (xs : List ℕ). take k xs) count_is (answer_is o whole.fit plan out p.values h) in
      let a : Answer o front = subst (Answer o) (sym same) q.0 in
      let v : Values (outcome o).counts.remaining front = subst (λ (k : ℕ). Values k front) (sym count_is) a in
      record {
        fine = project_fine o whole.fit plan out p.values h;
        answer = v;
        grown = reported_grows front out' v h';
        never = subst (λ (full : List ℕ). cost_of_plan o full ≤ℤ cost_of_plan o plan) (sym (plan_is o whole.fit front out' a h' ∙ ap (grown_back o) same)) q.1;
      }

  pub by_calls : ByCalls o l e
  by_calls = record {
    grown = subst (λ (r : Reduction). Grows o r (linear_after o l e) (edges_after o l e)) (sym (reply_is o)) (rw (linear_is, edges_is) reported_grows);
    projected = subst (λ (r : Reduction). Projects o r (linear_after o l e) (edges_after o l e)) (sym (reply_is o)) (rw (linear_is, edges_is) reported_projects);
  }
