-- A state of the rules' run, as the code holds it.
-- Assumes nothing.
use Rattle.std.specs.Prelude.{◌≡◌, List, map}
use Rattle.rules.specs.Graph.{Graph}
use Rattle.rules.specs.Record.{hold}
use Rattle.rules.specs.Run as run
use Rattle.rules.specs.declared.Step.{Step}
use Rattle.state.specs.declared.State.{State}

-- all but the queue, which the pass has
pub record Holds (S : run.State) (g : Graph) (s : State) (made : List Step) : Type 0 where
  pub graph : g ≡ S.graph
  pub steps : made ≡ map hold S.steps
  pub counted : s.tally ≡ S.counted
  pub takes : s.takes ≡ S.takes
  pub blocks : s.blocks ≡ S.blocks
