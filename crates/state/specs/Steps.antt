-- The 64 places of a run's steps: those made, then places that are not used.
-- Assumes nothing.
use Rattle.std.specs.Prelude.{◌≡◌, List, ◌++◌, ◌-◌, ◌≤◌, length, take, replicate}
use Rattle.rules.specs.declared.Step.{Step}
use Rattle.rules.specs.Record.{no_step}
use Rattle.state.specs.declared.steps.Steps.TheInside.{Inside}

pub record StepsKept (s : Inside) : Type 0 where
  pub long : length s.list ≡ 64
  pub count : s.count ≤ 64
  pub list : s.list ≡ take s.count s.list ++ replicate (64 - s.count) no_step

-- the fields again, from the steps made
abbrev pub places_of : List Step → Inside
places_of made = record { list = made ++ replicate (64 - length made) no_step; count = length made }
