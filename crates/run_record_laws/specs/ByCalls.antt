-- The record that a reduction makes.
-- Assumes nothing.
use Rattle.rules.specs.Objective.{Objective}
use Rattle.rules.specs.Outcome.{outcome}
use Rattle.rules.specs.Record.{record_of}
use Rattle.rules.specs.declared.Record.{Record}
use Rattle.accepted_laws.specs.Accept.{Fit}

module _ (o : Objective) (fit : Fit o) where
  abbrev pub made : Record
  made = record_of o.n (outcome o).constant (outcome o).states (outcome o).steps
