-- What is due, read off `next`; what every thing due keeps, the whole run keeps; and how a run ends.
-- Assumes nothing.
use Rattle.std.proofs.Math.Path.{◌≡◌, refl, subst}
use Rattle.std.proofs.Common.{sym, ap, ◌∙◌, arith}
use Rattle.std.specs.Prelude.{Bool, cond, ℕ, zero, suc, ◌+◌, ◌-◌, ◌<◌, ◌≤◌}
use Rattle.std.proofs.Math.Bool.{true, false}
use mathlib.Core.List.{List, [], ◌∷◌}
use Rattle.rules.specs.Options.{asked, small_block}
use Rattle.rules.specs.declared.Options.{Options}
use Rattle.rules.specs.Objective.{Objective}
use Rattle.rules.specs.SmallBlock.{Block, none, members, find_block}
use Rattle.rules.specs.Fixing.{start}
use Rattle.rules.specs.Outcome.{units}
use Rattle.rules.specs.Run.{State, way, go, take_front, blocked, Next, over, due, due_block, due_at, next, Ended, onward, run, begin, ended}
use Rattle.cost_laws.specs.RunLaws.{Used, run_used}
use Rattle.whole.specs.Counts.{one_left}

-- "a take or a found block is due"
pub data Due (opt : Options) (s : State) : State → Type 0 where
  -- "Take from the front."
  take : {i : ℕ} {q : List ℕ} → s.queue ≡ i ∷ q → Due opt s (go (way opt s.graph i) opt i (take_front q s))
  -- "When the queue is empty and small block is on, search for a block. If one is found, eliminate it"
  block : {b : List ℕ} → s.queue ≡ [] → small_block opt ≡ true → find_block s.graph ≡ members b → Due opt s (blocked opt b s)

module _ (opt : Options) (s : State) where
  block_due : (t : State) (c : Bool) (b : Block) → small_block opt ≡ c → find_block s.graph ≡ b → s.queue ≡ [] → due_block opt s (cond c b none) ≡ due t → Due opt s t
  unfolding due_block
  block_due t true (members b) h f q e = let same : blocked opt b s ≡ t = cc in subst (Due opt s) same (block q h f)
  block_due t true none h f q e = let z : ◌≡◌ {A = ℕ} 0 1 = cc in absurd (omega arith)
  block_due t false b h f q e = let z : ◌≡◌ {A = ℕ} 0 1 = cc in absurd (omega arith)

  pub next_due : (t : State) → next opt s ≡ due t → Due opt s t
  unfolding due_at
  next_due t = from s.queue refl
    where
      from : (q : List ℕ) → s.queue ≡ q → due_at opt s q ≡ due t → Due opt s t
      from [] h e = block_due t (small_block opt) (find_block s.graph) refl refl h e
      from (i ∷ q) h e = let same : go (way opt s.graph i) opt i (take_front q s) ≡ t = cc in subst (Due opt s) same (take h)

-- one turn of the run's recursion
pub run_over : (b : ℕ) (opt : Options) (s : State) → next opt s ≡ over → run b opt s ≡ record { state = s; complete = true }
unfolding run
run_over zero opt s e = ap (λ (x : Next). onward x s (λ t. record { state = s; complete = false })) e
run_over (suc b) opt s e = ap (λ (x : Next). onward x s (λ t. run b opt t)) e

pub run_due : (b : ℕ) (opt : Options) (s t : State) → next opt s ≡ due t → run (suc b) opt s ≡ run b opt t
unfolding run
run_due b opt s t e = ap (λ (x : Next). onward x s (λ u. run b opt u)) e

-- the same with u units used of a budget, as a loop that counts them has it
pub run_turn : (budget u : ℕ) (opt : Options) (s t : State) → u < budget → next opt s ≡ due t → run (budget - u) opt s ≡ run (budget - (u + 1)) opt t
run_turn budget u opt s t l e = ap (λ (b : ℕ). run b opt s) (one_left budget u l) ∙ run_due (budget - (u + 1)) opt s t e

pub run_cut : (opt : Options) (s t : State) → next opt s ≡ due t → run 0 opt s ≡ record { state = s; complete = false }
unfolding run
run_cut opt s t e = ap (λ (x : Next). onward x s (λ u. record { state = s; complete = false })) e

-- a budget of 1 goes one thing on
pub run_one : (opt : Options) (s t : State) → next opt s ≡ due t → (run 1 opt s).state ≡ t
unfolding run
run_one opt s t e = ap (λ (r : Ended). r.state) (run_due 0 opt s t e) ∙ stays (next opt t)
  where
    stays : (x : Next) → (onward x t (λ u. record { state = t; complete = false })).state ≡ t
    stays over = refl
    stays (due u) = refl

-- "The run is cut short exactly when a take or a found block is due and no unit is left."
-- complete says exactly whether nothing is due where the run ends
abbrev pub nothing_due : Next → Bool
nothing_due over = true
nothing_due (due t) = false

pub complete_over : (b : ℕ) (opt : Options) (s : State) → (run b opt s).complete ≡ nothing_due (next opt (run b opt s).state)
unfolding run
complete_over zero opt s = end (next opt s) refl
  where
    end : (x : Next) → next opt s ≡ x → (onward x s (λ t. record { state = s; complete = false })).complete ≡ nothing_due (next opt (onward x s (λ t. record { state = s; complete = false })).state)
    end over e = sym (ap nothing_due e)
    end (due t) e = sym (ap nothing_due e)
complete_over (suc b) opt s = more (next opt s) refl (complete_over b opt)
  where
    more : (x : Next) → next opt s ≡ x → ((t : State) → (run b opt t).complete ≡ nothing_due (next opt (run b opt t).state))
        → (onward x s (λ t. run b opt t)).complete ≡ nothing_due (next opt (onward x s (λ t. run b opt t)).state)
    more over e r = sym (ap nothing_due e)
    more (due t) e r = r t

-- "Units used are reported": at most the budget, and all of it where the run is cut short
pub ended_units : (o : Objective) → units (ended o).state ≤ o.budget
unfolding Used ended begin
ended_units o = omega (arith, (run_used o.budget (asked o) (begin (asked o) (start o))).0)

pub ended_cut : (o : Objective) → (ended o).complete ≡ false → units (ended o).state ≡ o.budget
unfolding Used ended begin
ended_cut o h = omega (arith, (run_used o.budget (asked o) (begin (asked o) (start o))).1 h)
