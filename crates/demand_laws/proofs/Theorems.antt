-- Demand 3 holds of every objective that is not refused: both halves, at whatever budget and switches it has.
-- Assumes nothing.
use Rattle.std.specs.Prelude.{◌≡◌, refl, Bool, ℕ, zero, suc, ◌<◌, ◌≤◌, eqb, ◌≤ℤ◌}
use Rattle.std.proofs.Math.Path.{sym, ap, subst}
use Rattle.std.proofs.Common.{◌∙◌, arith, not-suc-le-zero}
use Rattle.std.proofs.Math.Bool.{true}
use mathlib.Core.List.{List, [], ◌∷◌, map}
use Rattle.std.proofs.Math.Decide.{dec_lt}
use Rattle.std.proofs.Math.ListN.{length, get_or, take, length-map, get_or-eq_default}
use Rattle.whole.specs.Words.{mem}
use Rattle.rules.specs.Objective.{Objective}
use Rattle.rules.specs.Graph.{actives}
use Rattle.rules.specs.Fixing.{start}
use Rattle.rules.specs.Outcome.{outcome_of, outcome}
use Rattle.rules.specs.Back.{place, grow_back, project}
use Rattle.rules.specs.Refuse.{reduce_refusal}
use Rattle.accepted_laws.specs.Accept.{Fit, accept}
use Rattle.cost_laws.specs.CostLaws.{cost}
use Rattle.cost_laws.specs.BlockSteps.{played_back}
use Rattle.objective_laws.specs.ObjectiveCost.{Keeps}
use Rattle.cost_laws.specs.BlockCost.{cost_ext}
use Rattle.objective_laws.proofs.Theorems.{start_cost_kept}
use Rattle.sound_laws.specs.Sound.{decisions}
use Rattle.sound_laws.proofs.SoundEnded.{ended_sound}
use Rattle.run_laws.specs.StepLaws.{steps_alive}
use Rattle.run_laws.specs.RemainingLaws.{remaining_before}
use Rattle.whole.specs.Members.{in_at}
use Rattle.whole.specs.Lists.{map_at}
use Rattle.std.proofs.Math.Seq.{ext_get_or}
use Rattle.demand_laws.specs.Demands.{is_one, FullPlan, cost_of_plan, Answer, reduced_cost, cost_of_answer, grown_back, projection, FirstHalf, SecondHalf, AnswerKept}
use Rattle.demand_laws.specs.Plans.{place_length, place_bits, place_fixed, place_remaining, play_length, play_other, play_all_bits, play_all_is, project_front}
use Rattle.demand_laws.specs.Outputs.{outputs_cost}
use Rattle.demand_laws.specs.RunEnds.{end_graph, end_steps, states_shown, end_fine, end_taken, shown_long, shown_fixed, shown_remaining}

-- ---- what is read in a list does not hang on what stands past its end
in_range : (xs : List ℕ) (k d e : ℕ) → k < length xs → get_or xs k d ≡ get_or xs k e
in_range [] k d e h = absurd (not-suc-le-zero h)
in_range (x ∷ xs) zero d e h = refl
in_range (x ∷ xs) (suc k) d e h = in_range xs k d e (omega arith)

module _ (o : Objective) (fit : Fit o) where
  plan_keeps : (plan : List ℕ) → FullPlan o plan → Keeps o.fixings (is_one plan)
  plan_keeps plan p k h = by (dec_lt k o.n)
    where
      by : Dec (k < o.n) → is_one plan k ≡ eqb (get_or o.fixings k 2) 1
      by (yes l) =
          let same : get_or o.fixings k 2 ≡ get_or o.fixings k 0 = in_range o.fixings k 2 0 (omega (arith, fit.fixings)) in
          ap (λ (z : ℕ). eqb z 1) (p.keeps k l (rw same at h) ∙ sym same)
      by (no l) = absurd (bad (get_or-eq_default o.fixings 2 (omega (arith, fit.fixings))))
        where
          bad : get_or o.fixings k 2 ≡ 2 → ⊥
          bad e = omega arith

  -- the objective's cost of a full plan is the cost at the start
  plan_cost : (plan : List ℕ) → FullPlan o plan → cost_of_plan o plan ≡ cost (start o) (is_one plan)
  plan_cost plan p = sym (start_cost_kept o fit (is_one plan) (plan_keeps plan p))

  -- the cost at the end, of any plan with the answer at the remaining decisions, is the reduced cost
  end_cost : (x : ℕ → Bool) (answer : List ℕ) → Answer o answer → ((k : ℕ) → k < length (actives (end_graph o)) → x (get_or (actives (end_graph o)) k 0) ≡ is_one answer k)
      → cost (end_graph o) x ≡ cost_of_answer o answer
  unfolding reduced_cost outcome outcome_of
  end_cost x answer a h = outputs_cost (end_graph o) (end_fine o fit) x answer a.long h

  module _ (answer : List ℕ) (a : Answer o answer) where
    base : List ℕ
    base = place (states_shown o) answer

    grown_plan : FullPlan o (grown_back o answer)
    unfolding outcome outcome_of grow_back
    grown_plan = record {
      values = record {
        long = play_length (end_steps o) _ ∙ place_length (states_shown o) answer ∙ shown_long o fit;
        bits = play_all_bits (end_steps o) _ (place_bits (states_shown o) answer a.bits);
      };
      keeps = λ i l h.
          let p = shown_fixed o fit i l h in
          play_other (end_steps o) _ i p.0 ∙ place_fixed (states_shown o) answer i (rw (shown_long o fit) l) (rw p.1 h) ∙ p.1;
    }

    at_remaining : (k : ℕ) → k < length (actives (end_graph o)) → get_or base (get_or (actives (end_graph o)) k 0) 0 ≡ get_or answer k 0
    unfolding base
    at_remaining k l =
        ap (λ (r : List ℕ). get_or base (get_or r k 0) 0) (sym (shown_remaining o fit))
        ∙ place_remaining (states_shown o) answer k (rw (shown_remaining o fit) l)

    -- (E), in the caller's words
    grown_cost : cost_of_plan o (grown_back o answer) ≡ cost_of_answer o answer
    unfolding outcome outcome_of grow_back base
    grown_cost =
        plan_cost (grown_back o answer) grown_plan
        ∙ cost_ext (start o) (is_one (grown_back o answer)) (played_back (end_steps o) (is_one base))
        (play_all_is (end_steps o) base (place_bits (states_shown o) answer a.bits) below)
        ∙ (ended_sound o fit).exact (is_one base) ∙ end_cost (is_one base) answer a at_places
      where
        below : (d : ℕ) → mem d (decisions (end_steps o)) ≡ true → d < length base
        below d m = rw (place_length (states_shown o) answer, shown_long o fit) (steps_alive o.n _ (end_steps o) (end_taken o fit) d m).0

        at_places : (k : ℕ) → k < length (actives (end_graph o)) → is_one base (get_or (actives (end_graph o)) k 0) ≡ is_one answer k
        at_places k l = ap (λ (z : ℕ). eqb z 1) (at_remaining k l)

  module _ (plan : List ℕ) (p : FullPlan o plan) where
    front : projection o plan ≡ map (λ i. get_or plan i 0) (actives (end_graph o))
    unfolding outcome outcome_of
    front = subst (λ (r : List ℕ). take (length r) (project (states_shown o) plan) ≡ map (λ i. get_or plan i 0) r) (shown_remaining o fit)
        (project_front (states_shown o) plan)

    projected_answer : Answer o (projection o plan)
    unfolding outcome outcome_of
    projected_answer = record {
      long = ap length front ∙ length-map (actives (end_graph o)) (λ i. get_or plan i 0);
      bits = λ i. rw front (each i (dec_lt i (length (actives (end_graph o)))));
    }
      where
        each : (i : ℕ) → Dec (i < length (actives (end_graph o))) → get_or (map (λ i. get_or plan i 0) (actives (end_graph o))) i 0 ≤ 1
        each i (yes l) = rw (map_at (λ i. get_or plan i 0) (actives (end_graph o)) i 0 0 l) (p.values.bits (get_or (actives (end_graph o)) i 0))
        each i (no l) = rw (get_or-eq_default (map (λ i. get_or plan i 0) (actives (end_graph o))) 0 {n = i} (omega (arith, length-map (actives (end_graph o)) (λ i. get_or plan i 0)))) (omega arith)

    -- (O), in the caller's words
    projected_cost : cost_of_plan o (grown_back o (projection o plan)) ≤ℤ cost_of_plan o plan
    projected_cost =
        rw (grown_cost (projection o plan) projected_answer, plan_cost plan p, ← end_cost (is_one plan) (projection o plan) projected_answer at_places)
        ((ended_sound o fit).never (is_one plan))
      where
        at_places : (k : ℕ) → k < length (actives (end_graph o)) → is_one plan (get_or (actives (end_graph o)) k 0) ≡ is_one (projection o plan) k
        at_places k l = ap (λ (z : ℕ). eqb z 1) (sym (ap (λ (r : List ℕ). get_or r k 0) front ∙ map_at (λ i. get_or plan i 0) (actives (end_graph o)) k 0 0 l))

  answer_kept : (answer : List ℕ) → Answer o answer → projection o (grown_back o answer) ≡ answer
  unfolding outcome outcome_of grow_back base
  answer_kept answer a =
      let p : FullPlan o (grown_back o answer) = grown_plan answer a in
      ext_get_or 0 (projection o (grown_back o answer)) answer ((projected_answer (grown_back o answer) p).long ∙ sym a.long) (λ k l. each k (rw (projected_answer (grown_back o answer) p).long at l))
    where
      each : (k : ℕ) → k < length (actives (end_graph o)) → get_or (projection o (grown_back o answer)) k 0 ≡ get_or answer k 0
      each k l =
          let p : FullPlan o (grown_back o answer) = grown_plan answer a in
          ap (λ (xs : List ℕ). get_or xs k 0) (front (grown_back o answer) p) ∙ map_at (λ i. get_or (grown_back o answer) i 0) (actives (end_graph o)) k 0 0 l
          ∙ play_other (end_steps o) (base answer a) (get_or (actives (end_graph o)) k 0)
          (remaining_before (ended_sound o fit) (get_or (actives (end_graph o)) k 0) (in_at (actives (end_graph o)) k l)).0
          ∙ at_remaining answer a k l

-- ---- the demand
module _ (o : Objective) (accepted : reduce_refusal o 64 4096 ≡ 0) where
  pub first_half : FirstHalf o
  first_half answer a = let fit = (accept o 64 4096 accepted).fit in (grown_plan o fit answer a, grown_cost o fit answer a)

  pub second_half : SecondHalf o
  second_half plan p = let fit = (accept o 64 4096 accepted).fit in (projected_answer o fit plan p, projected_cost o fit plan p)

  pub answers_kept : AnswerKept o
  answers_kept answer a = answer_kept o (accept o 64 4096 accepted).fit answer a
