-- A run's steps in a record: what each place holds.
-- Assumes nothing.
use Rattle.std.specs.Prelude.{◌≡◌, refl, true, ℕ, zero, suc, ◌-◌, ◌^◌, ◌<◌, ◌≤◌, ltb, eqb, get_or, take, drop, replicate, ℤ}
use Rattle.std.proofs.Common.{sym, ap, ap₂, ◌∙◌, arith, take-suc, lt-ltb}
use mathlib.Core.List.{List, [], ◌∷◌, ◌++◌, map}
use Rattle.std.proofs.Math.ListN.{length, length-map, get_or-append, get_or-map}
use Rattle.whole.specs.Words.{all, tab}
use Rattle.whole.specs.Lists.{tab_map}
use Rattle.rules.specs.Eliminate as rule
use Rattle.rules.specs.Record.{no_step, hold, hold_all, record_of, step_at, decided, choice_limit}
use Rattle.rules.specs.declared.Step.{Step}
use Rattle.sound_laws.specs.Sound.{decisions, decisions_append}

-- "unused bytes ... zero"
pub held_unused : (near : List ℕ) → length near ≤ 3 → all (λ b. eqb b 0) (drop (length near) (get_or near 0 0 ∷ get_or near 1 0 ∷ get_or near 2 0 ∷ [])) ≡ true
unfolding all
held_unused [] h = refl
held_unused (a ∷ []) h = refl
held_unused (a ∷ b ∷ []) h = refl
held_unused (a ∷ b ∷ c ∷ []) h = refl
held_unused (a ∷ b ∷ c ∷ d ∷ near) h = absurd (bad (length near) h)
  where
    bad : (m : ℕ) → suc (suc (suc (suc m))) ≤ 3 → ⊥
    bad m p = omega arith

-- "unused ... bits zero"
pub held_choices : (d c : ℕ) → d ≤ 3 → c < 2 ^ 2 ^ d → ltb c (choice_limit d) ≡ true
held_choices zero c h l = lt-ltb c 2 l
held_choices (suc zero) c h l = lt-ltb c 4 l
held_choices (suc (suc zero)) c h l = lt-ltb c 16 l
held_choices (suc (suc (suc zero))) c h l = lt-ltb c 256 l
held_choices (suc (suc (suc (suc d)))) c h l = absurd (omega arith)

module _ (n : ℕ) (c : ℤ) (states : List ℕ) (steps : List rule.Step) where
  -- a place that counts holds the run's step
  pub step_held : (k : ℕ) → k < length steps → step_at (record_of n c states steps) k ≡ hold (get_or steps k (rule.step 0 [] 0))
  unfolding hold_all
  step_held k l =
      get_or-append (map hold steps) (replicate (64 - length steps) no_step) no_step k (omega (arith, length-map steps hold))
      ∙ get_or-map hold steps k (rule.step 0 [] 0)

  -- the decisions of the first k steps
  pub decided_held : (k : ℕ) → k ≤ length steps → decided (record_of n c states steps) k ≡ decisions (take k steps)
  unfolding tab
  decided_held k l = tab_map (λ j. (step_at (record_of n c states steps) j).decision) k ∙ front k l
    where
      none : rule.Step
      none = rule.step 0 [] 0

      front : (k : ℕ) → k ≤ length steps → tab (λ j. (step_at (record_of n c states steps) j).decision) k ≡ decisions (take k steps)
      front zero l = refl
      front (suc k) l =
          ap₂ (λ (ds : List ℕ) (d : ℕ). ds ++ (d ∷ [])) (front k (omega arith)) (ap (λ (s : Step). s.decision) (step_held k l))
          ∙ sym (ap decisions (take-suc steps k none l) ∙ decisions_append (take k steps) (get_or steps k none ∷ []))
