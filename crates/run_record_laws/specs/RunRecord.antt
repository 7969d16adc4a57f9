-- The record of steps taken one after the other: its states are as they must be, and the state-3 decisions are exactly the steps'.
-- Assumes nothing.
use Rattle.std.specs.Prelude.{◌≡◌, refl, true, false, ◌≢◌, ℕ, ◌<◌, ◌≤◌, ℤ}
use Rattle.std.proofs.Common.{sym, ◌∙◌, arith, length-set, get_or-set_same, le-leb, ne_eqb}
use Rattle.std.proofs.Math.Path.{ap}
use Rattle.std.proofs.Math.Bool.{not}
use mathlib.Core.List.{List, [], ◌∷◌}
use Rattle.std.proofs.Math.Dec.{leb, eqb}
use Rattle.std.proofs.Math.ListN.{length, get_or, set}
use Rattle.std.proofs.Math.Seq.{take-length}
use Rattle.whole.specs.Words.{mem}
use Rattle.whole.specs.Tests.{cases, clash, or_left, or_right, not_off, refuse}
use Rattle.whole.specs.Members.{in_cons}
use Rattle.rules.specs.Eliminate as rule
use Rattle.rules.specs.Record.{record_of, state_at, decided, stepped}
use Rattle.rules.specs.declared.Record.{Record}
use Rattle.cost_laws.specs.Stands.{marked, marked_other}
use Rattle.sound_laws.specs.Sound.{Steps, decisions}
use Rattle.run_laws.specs.StepLaws.{steps_alive}
use Rattle.record_laws.specs.Steps.{Few}
use Rattle.run_record_laws.specs.HeldSteps.{decided_held}

-- ---- states and steps
-- a decision that has left has state 3
marked_at : (b ss : List ℕ) (i : ℕ) → i < length ss → mem i b ≡ true → get_or (marked b ss) i 0 ≡ 3
unfolding marked mem
marked_at [] ss i l m = clash m refl
marked_at (j ∷ b) ss i l m = cases (mem i b)
    (λ t. marked_at b (set ss j 3) i (rw (length-set ss j 3) l) t)
    (λ t. in_cons i j b m
    (λ e. marked_other b (set ss j 3) i t ∙ ap (λ (k : ℕ). get_or (set ss k 3) i 0) (sym e) ∙ get_or-set_same ss i 3 0 l)
    (λ r. clash r t))

pub steps_narrow : (n : ℕ) (ss : List ℕ) (steps : List rule.Step) → Steps n ss steps → Few steps
steps_narrow n ss [] t = tt
steps_narrow n ss (s ∷ steps) t = (t.0.few, steps_narrow n (set ss s.decision 3) steps t.1)

-- ---- the record of steps taken one after the other, from states 0 to 2
module _ (n : ℕ) (c : ℤ) (ss : List ℕ) (steps : List rule.Step) (few : n ≤ 64) (long : length ss ≡ 64) (first : (i : ℕ) → i < n → get_or ss i 0 ≤ 2)
    (over : (i : ℕ) → n ≤ i → get_or ss i 0 ≡ 0) (t : Steps n ss steps) where
  abbrev kept : Record
  kept = record_of n c (marked (decisions steps) ss) steps

  pub state_of : (i : ℕ) → i < n → (mem i (decisions steps) ≡ true → state_at (record_of n c (marked (decisions steps) ss) steps) i ≡ 3)
      × (mem i (decisions steps) ≡ false → state_at (record_of n c (marked (decisions steps) ss) steps) i ≡ get_or ss i 0)
  state_of i l = ((λ m. marked_at (decisions steps) ss i (omega arith) m), (λ m. marked_other (decisions steps) ss i m))

  -- "states are 0 to 3"
  pub states_fine : (i : ℕ) → i < n → leb (state_at (record_of n c (marked (decisions steps) ss) steps) i) 3 ≡ true
  states_fine i l = cases (mem i (decisions steps))
      (λ m. ap (λ (z : ℕ). leb z 3) ((state_of i l).0 m))
      (λ m. ap (λ (z : ℕ). leb z 3) ((state_of i l).1 m) ∙ le-leb (get_or ss i 0) 3 (omega (arith, first i l)))

  -- "zero past n"
  pub states_end : (i : ℕ) → n ≤ i → eqb (state_at (record_of n c (marked (decisions steps) ss) steps) i) 0 ≡ true
  states_end i l = ap (λ (z : ℕ). eqb z 0) (marked_other (decisions steps) ss i (refuse (mem i (decisions steps)) (λ m. beyond (steps_alive n ss steps t i m).0)) ∙ over i l)
    where
      beyond : i < n → ⊥
      beyond h = omega arith

  -- "the state-3 decisions are exactly the steps' decisions"
  pub all_stepped : (i : ℕ) → i < n → stepped (record_of n c (marked (decisions steps) ss) steps) i ≡ true
  all_stepped i l = cases (mem i (decisions steps))
      (λ m. or_right (not (eqb (state_at kept i) 3)) (ap (mem i) (decided_held n c (marked (decisions steps) ss) steps (length steps) (omega arith) ∙ ap decisions (take-length steps)) ∙ m))
      (λ m. or_left (mem i (decided kept (length steps))) (not_off (ne_eqb (state_at kept i) 3 (other ((state_of i l).1 m)))))
    where
      other : state_at kept i ≡ get_or ss i 0 → state_at kept i ≢ 3
      other e z = omega (arith, first i l)
