-- Who may join.
-- Assumes nothing.
use Rattle.std.specs.Prelude.{Bool, ◌&&◌, ℕ}
use Rattle.rules.specs.Graph.{Graph, active}
use Rattle.rules.specs.Run.{eligible}
use Rattle.rules.specs.declared.Options.{Options}

abbrev pub may_join : Options → Graph → ℕ → Bool
may_join opt g j = active g j && eligible opt g j
