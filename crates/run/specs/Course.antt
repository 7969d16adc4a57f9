-- A run on its way: what the code has reached is a state of the rules' run, from which the rest of the units leads to the same end.
-- Assumes nothing.
use Rattle.std.specs.Prelude.{◌≡◌, false, Bool, List, [], ℕ, ◌-◌, ◌≤◌, Result, MatchResult}
use Rattle.rules.specs.Objective.{Objective}
use Rattle.rules.specs.Counts.{nothing_counted}
use Rattle.rules.specs.Graph.{Graph}
use Rattle.rules.specs.Fixing.{start}
use Rattle.rules.specs.Outcome.{units}
use Rattle.rules.specs.Run as run
use Rattle.rules.specs.Run.{waiting}
use Rattle.rules.specs.declared.Options.{Options}
use Rattle.accepted_laws.specs.Accept.{Fit}
use Rattle.run_laws.specs.InOrder.{InOrder}
use Rattle.state.specs.Holds.{Holds}
use Rattle.run.specs.declared.CutShort.{CutShort}
use Rattle.run.specs.declared.Reached.{Reached}

-- before anything is taken
abbrev pub at_start : Reached
at_start = record { state = record { tally = nothing_counted; takes = 0; blocks = 0 }; steps = [] }

-- the graph that a run starts from is some objective's that is not refused
pub record Started (g : Graph) : Type 0 where
  pub objective : Objective
  pub fit : Fit objective
  pub is : g ≡ start objective

-- S, which the code holds, is on the way to E: the units that are left lead there
pub record Course (budget : ℕ) (opt : Options) (E : run.Ended) (S : run.State) (g : Graph) (at : Reached) : Type 0 where
  pub objective : Objective
  pub fit : Fit objective
  pub order : InOrder (start objective) S
  pub holds : Holds S g at.state at.steps
  pub few : units S ≤ budget
  pub same : E ≡ run.run (budget - units S) opt S

-- in a pass: these wait
pub record InPass (budget : ℕ) (opt : Options) (E : run.Ended) (g : Graph) (at : Reached) (q : List ℕ) : Type 0 where
  pub state : run.State
  pub course : Course budget opt E state g at
  pub queued : q ≡ state.queue

-- a pass is to begin
abbrev pub ToPass : ℕ → Options → run.Ended → Graph → Reached → Type 0
ToPass budget opt E g at = InPass budget opt E g at (waiting opt g)

-- where a run ended
pub record Ends (E : run.Ended) (done : Bool) (g : Graph) (at : Reached) : Type 0 where
  pub holds : Holds E.state g at.state at.steps
  pub complete : done ≡ E.complete

-- a pass is over: nobody waits, or the run was cut short
abbrev pub Passes : ℕ → Options → run.Ended → Result Unit CutShort → Graph → Reached → Type 0
Passes budget opt E r g at = MatchResult r (λ u. InPass budget opt E g at []) (λ e. Ends E false g at)
