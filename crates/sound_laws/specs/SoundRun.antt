-- What a run keeps: its state is reached from the graph it began at by its steps. It holds at the beginning.
-- Assumes nothing.
use Rattle.rules.specs.Graph.{Graph}
use Rattle.rules.specs.declared.Options.{Options}
use Rattle.rules.specs.Run.{State, begin}
use Rattle.cost_laws.specs.Stands.{Fine}
use Rattle.sound_laws.specs.Sound.{Sound, sound_none}

module _ (g₀ : Graph) where
  -- s is reached from g₀ by its steps
  abbrev pub Reached : State → Type 0
  Reached s = Sound g₀ s.steps s.graph

  -- where it begins
  pub begin_sound : (opt : Options) → Fine g₀ → Reached (begin opt g₀)
  unfolding begin
  begin_sound opt f = sound_none g₀ f
