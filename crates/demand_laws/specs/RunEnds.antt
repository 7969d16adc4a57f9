-- What stands at the end of a run: the states, against the fixings and the steps.
-- Assumes nothing.
use Rattle.std.specs.Prelude.{◌≡◌, false, List, ℕ, ◌-◌, ◌<◌, length, get_or, take, replicate}
use Rattle.std.proofs.Common.{sym, ◌∙◌, arith, length-take-le, get_or-take, eqb-true}
use Rattle.std.proofs.Math.Path.{ap}
use Rattle.std.proofs.Math.Dec.{eqb}
use Rattle.std.proofs.Math.ListN.{get_or-append}
use Rattle.whole.specs.Words.{upto, mem, those}
use Rattle.whole.specs.Tests.{refuse}
use Rattle.whole.specs.Members.{upto_in}
use Rattle.whole.specs.Masks.{those_ext}
use Rattle.rules.specs.Objective.{Objective}
use Rattle.rules.specs.Graph.{Graph, active, actives}
use Rattle.rules.specs.Eliminate.{Step}
use Rattle.rules.specs.Run.{ended}
use Rattle.rules.specs.Back.{remaining_of}
use Rattle.accepted_laws.specs.Accept.{Fit}
use Rattle.cost_laws.specs.Stands.{Fine, marked, marked_other}
use Rattle.sound_laws.specs.Sound.{Steps, decisions}
use Rattle.run_laws.specs.StepLaws.{steps_alive}
use Rattle.sound_laws.specs.SoundStart.{states_from, start_stands}
use Rattle.sound_laws.proofs.SoundEnded.{ended_sound, ended_n}

-- ---- steps and states
-- what is fixed is no step's decision
pub fixed_stays : (n : ℕ) (ss : List ℕ) (steps : List Step) → Steps n ss steps → (i : ℕ) → get_or ss i 0 < 2 → mem i (decisions steps) ≡ false
fixed_stays n ss steps t i h = refuse (mem i (decisions steps)) (λ m. two (eqb-true (get_or ss i 0) 2 (steps_alive n ss steps t i m).1))
  where
    two : get_or ss i 0 ≡ 2 → ⊥
    two e = omega arith

-- ---- the end of the run: its graph, its steps, and the states of the n decisions
abbrev pub end_graph : Objective → Graph
end_graph o = (ended o).state.graph

abbrev pub end_steps : Objective → List Step
end_steps o = (ended o).state.steps

abbrev pub states_shown : Objective → List ℕ
states_shown o = take o.n (end_graph o).states

-- ---- of an objective that is not refused
module _ (o : Objective) (fit : Fit o) where
  pub end_fine : Fine (end_graph o)
  end_fine = (ended_sound o fit).stands.fine

  -- the fixings, with 3 for every decision that a step took
  pub end_states : (end_graph o).states ≡ marked (decisions (end_steps o)) (states_from o.n o.fixings)
  end_states = (ended_sound o fit).stands.states ∙ ap (marked (decisions (end_steps o))) (start_stands o fit).states

  pub end_taken : Steps o.n (states_from o.n o.fixings) (end_steps o)
  end_taken = rw ((start_stands o fit).size, (start_stands o fit).states) at (ended_sound o fit).taken

  pub start_state : (i : ℕ) → i < o.n → get_or (states_from o.n o.fixings) i 0 ≡ get_or o.fixings i 0
  start_state i l = get_or-append o.fixings (replicate (64 - o.n) 0) 0 i (omega (arith, fit.fixings))

  pub shown_long : length (states_shown o) ≡ o.n
  shown_long = length-take-le o.n (end_graph o).states (omega (arith, end_fine.shaped.states_long, fit.small))

  pub shown_at : (i : ℕ) → i < o.n → get_or (states_shown o) i 0 ≡ get_or (end_graph o).states i 0
  shown_at i l = get_or-take o.n (end_graph o).states i 0 l

  -- "0 or 1 fixed"
  pub shown_fixed : (i : ℕ) → i < o.n → get_or o.fixings i 0 < 2
      → (mem i (decisions (end_steps o)) ≡ false) × (get_or (states_shown o) i 0 ≡ get_or o.fixings i 0)
  shown_fixed i l h =
      let out = fixed_stays o.n (states_from o.n o.fixings) (end_steps o) end_taken i (rw (start_state i l) h) in
      (out, shown_at i l ∙ ap (λ (ss : List ℕ). get_or ss i 0) end_states ∙ marked_other (decisions (end_steps o)) (states_from o.n o.fixings) i out ∙ start_state i l)

  -- "2 remaining"
  pub shown_remaining : remaining_of (states_shown o) ≡ actives (end_graph o)
  unfolding remaining_of actives
  shown_remaining =
      ap (λ (n : ℕ). those (λ i. eqb (get_or (states_shown o) i 0) 2) (upto n)) shown_long
      ∙ those_ext (λ i. eqb (get_or (states_shown o) i 0) 2) (λ i. active (end_graph o) i) (upto o.n) (λ k m. ap (λ (z : ℕ). eqb z 2) (shown_at k (upto_in k o.n m)))
      ∙ ap (λ (n : ℕ). those (λ i. active (end_graph o) i) (upto n)) (sym (ended_n o fit))
