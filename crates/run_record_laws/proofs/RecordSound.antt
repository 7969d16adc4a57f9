-- The record of a reduction is never broken: so `write_record` never refuses it, nor does growing back from it.
-- Assumes nothing.
use Rattle.std.specs.Prelude.{◌≡◌, refl, Bool, true, ℕ, zero, suc, ◌+◌, ◌-◌, ◌<◌, ◌≤◌, take, drop, ℤ, nat_abs}
use Rattle.std.proofs.Common.{sym, ◌∙◌, arith, not-suc-le-zero, take-suc, lt-ltb, le-leb, eqb-true}
use Rattle.std.proofs.Math.Path.{ap, subst}
use Rattle.std.proofs.Math.Bool.{not}
use mathlib.Core.List.{List, [], ◌∷◌, ◌++◌, map}
use Rattle.std.proofs.Math.Dec.{ltb, leb, eqb}
use Rattle.std.proofs.Math.ListN.{length, get_or, set, length-map}
use Rattle.whole.specs.Words.{from, mem, all, all_of}
use Rattle.whole.specs.Tests.{cases, and_both, not_off}
use Rattle.whole.specs.Members.{in_head, in_tail, all_of_lem, from_in}
use Rattle.whole.specs.Lists.{past}
use Rattle.rules.specs.Eliminate as rule
use Rattle.rules.specs.Record.{no_step, hold, hold_all, record_of, near_of, is_none, state_at, step_at, decided, ascending, near_fine, choice_limit, step_fine, sound}
use Rattle.rules.specs.declared.Step.{Step}
use Rattle.rules.specs.declared.Record.{Record}
use Rattle.cost_laws.specs.Stands.{marked}
use Rattle.sound_laws.specs.Sound.{StepTaken, Steps, decisions, decisions_append, marked_append}
use Rattle.run_laws.specs.StepLaws.{steps_few}
use Rattle.run_laws.specs.RemainingLaws.{marked_alive}
use Rattle.record_laws.specs.Steps.{played_hold}
use Rattle.run_record_laws.specs.HeldSteps.{held_unused, held_choices, step_held, decided_held}
use Rattle.run_record_laws.specs.RunRecord.{state_of, states_fine, states_end, all_stepped}

-- ---- every one of a range passes
all_from : (p : ℕ → Bool) (k c : ℕ) → ((i : ℕ) → k ≤ i → i < k + c → p i ≡ true) → all p (from k c) ≡ true
all_from p k c h = all_of_lem p (from k c) (λ i m. let r = from_in i k c m in h i r.0 r.1)

and_all : {t : Bool} (ts : List Bool) → t ≡ true → all_of ts ≡ true → all_of (t ∷ ts) ≡ true
unfolding all_of
and_all ts h r = and_both h r

no_more : all_of [] ≡ true
unfolding all_of
no_more = refl

-- step k is taken where the decisions of the first k have left
taken_at : (n : ℕ) (ss : List ℕ) (steps : List rule.Step) → Steps n ss steps → (k : ℕ) → k < length steps
    → StepTaken n (marked (decisions (take k steps)) ss) (get_or steps k (rule.step 0 [] 0))
unfolding marked
taken_at n ss [] t k l = absurd (not-suc-le-zero l)
taken_at n ss (s ∷ steps) t zero l = t.0
taken_at n ss (s ∷ steps) t (suc k) l = taken_at n (set ss s.decision 3) steps t.1 k (omega arith)

-- one of the first k steps is one of the steps
in_front : (steps : List rule.Step) (k : ℕ) → k < length steps → mem (get_or steps k (rule.step 0 [] 0)).decision (decisions steps) ≡ true
in_front [] k l = absurd (not-suc-le-zero l)
in_front (s ∷ steps) zero l = in_head s.decision (decisions steps)
in_front (s ∷ steps) (suc k) l = in_tail (get_or steps k (rule.step 0 [] 0)).decision s.decision (decisions steps) (in_front steps k (omega arith))

-- ---- the record of steps taken one after the other, from states 0 to 2
module _ (n : ℕ) (c : ℤ) (ss : List ℕ) (steps : List rule.Step) (few : n ≤ 64) (long : length ss ≡ 64) (first : (i : ℕ) → i < n → get_or ss i 0 ≤ 2)
    (over : (i : ℕ) → n ≤ i → get_or ss i 0 ≡ 0) (t : Steps n ss steps) where
  abbrev kept : Record
  kept = record_of n c (marked (decisions steps) ss) steps

  module _ (k : ℕ) (l : k < length steps) where
    abbrev here : rule.Step
    here = get_or steps k (rule.step 0 [] 0)

    before : List ℕ
    before = decisions (take k steps)

    at : StepTaken n (marked (decisions (take k steps)) ss) (get_or steps k (rule.step 0 [] 0))
    at = taken_at n ss steps t k l

    below : (get_or steps k (rule.step 0 [] 0)).decision < n
    below = at.decision.0

    up_to : decisions (take (suc k) steps) ≡ decisions (take k steps) ++ ((get_or steps k (rule.step 0 [] 0)).decision ∷ [])
    up_to = ap decisions (take-suc steps k (rule.step 0 [] 0) l) ∙ decisions_append (take k steps) (get_or steps k (rule.step 0 [] 0) ∷ [])

    -- "neighbours ... are below n, aren't fixed, and aren't the decision of this or an earlier step"
    near_fine_lem : (j : ℕ) → mem j (get_or steps k (rule.step 0 [] 0)).near ≡ true → near_fine (record_of n c (marked (decisions steps) ss) steps) k j ≡ true
    unfolding marked
    near_fine_lem j m =
        let a = at.near j m in
        let e : marked (decisions (take (suc k) steps)) ss ≡ set (marked (decisions (take k steps)) ss) here.decision 3 =
        ap (λ (b : List ℕ). marked b ss) up_to ∙ marked_append (decisions (take k steps)) (here.decision ∷ []) ss in
        let q = marked_alive {n = n} (decisions (take (suc k) steps)) ss j (rw e a) in
        and_both (and_both (lt-ltb j n a.0) (le-leb 2 (state_at kept j) (at_least j a.0 (eqb-true (get_or ss j 0) 2 q.1.1))))
        (not_off (ap (mem j) (decided_held n c (marked (decisions steps) ss) steps (suc k) l) ∙ q.0))
      where
        at_least : (j : ℕ) → j < n → get_or ss j 0 ≡ 2 → 2 ≤ state_at kept j
        at_least j l e = cases (mem j (decisions steps)) (λ m. omega (arith, (state_of n c ss steps few long first over t j l).0 m)) (λ m. omega (arith, (state_of n c ss steps few long first over t j l).1 m))

    one_fine : step_fine (record_of n c (marked (decisions steps) ss) steps) k ≡ true
    unfolding step_fine
    one_fine =
        subst (λ (s : Step). all_of (
        ltb s.decision n ∷ eqb (state_at kept s.decision) 3 ∷ not (mem s.decision (decided kept k)) ∷ leb s.degree 3 ∷ ascending (near_of s) ∷ all (near_fine kept k) (near_of s)
        ∷ all (λ b. eqb b 0) (drop s.degree (s.first ∷ s.second ∷ s.third ∷ [])) ∷ ltb s.choices (choice_limit s.degree) ∷ []) ≡ true)
        (sym (step_held n c (marked (decisions steps) ss) steps k l))
        (and_all _ (lt-ltb here.decision n below)
        (and_all _ (ap (λ (z : ℕ). eqb z 3) ((state_of n c ss steps few long first over t here.decision below).0 (in_front steps k l)))
        (and_all _ (not_off (ap (mem here.decision) (decided_held n c (marked (decisions steps) ss) steps k (omega arith)) ∙ (marked_alive (decisions (take k steps)) ss here.decision at.decision).0))
        (and_all _ (le-leb (length here.near) 3 at.few)
        (and_all _ (ap ascending near ∙ at.ascends)
        (and_all _ (ap (all (near_fine kept k)) near ∙ all_of_lem (near_fine kept k) here.near near_fine_lem)
        (and_all _ (held_unused here.near at.few)
        (and_all _ (held_choices (length here.near) here.choices at.few at.choices) no_more))))))))
      where
        near : near_of (hold here) ≡ here.near
        near = ap (λ (s : rule.Step). s.near) (played_hold here at.few)

  -- "unused bytes ... zero"
  rest_none : (k : ℕ) → length steps ≤ k → is_none (step_at (record_of n c (marked (decisions steps) ss) steps) k) ≡ true
  unfolding hold_all all
  rest_none k l = ap is_none (past (map hold steps) no_step (64 - length steps) k (omega (arith, length-map steps hold)))

  pub record_sound : nat_abs c ≤ 1099511627776 → sound (record_of n c (marked (decisions steps) ss) steps) ≡ true
  unfolding sound
  record_sound h =
      and_all _ (le-leb n 64 few)
      (and_all _ (le-leb (length steps) 64 (omega (arith, steps_few n ss steps t)))
      (and_all _ (le-leb (nat_abs c) 1099511627776 h)
      (and_all _ (all_from _ 0 n (λ i a b. states_fine n c ss steps few long first over t i (omega arith)))
      (and_all _ (all_from _ n (64 - n) (λ i a b. states_end n c ss steps few long first over t i a))
      (and_all _ (all_from _ 0 (length steps) (λ k a b. one_fine k (omega arith)))
      (and_all _ (all_from _ 0 n (λ i a b. all_stepped n c ss steps few long first over t i (omega arith)))
      (and_all _ (all_from _ (length steps) (64 - length steps) (λ k a b. rest_none k a)) no_more)))))))
