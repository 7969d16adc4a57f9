-- Growing a component: 64 turns are enough in every graph of a run (`component_turns` of Turns).
-- Assumes nothing.
use Rattle.std.specs.Prelude.{◌≡◌, false, List, [], ◌∷◌, ℕ, ◌+◌, ◌<◌}
use Rattle.whole.specs.Words.{mem}
use Rattle.rules.specs.Graph.{Graph, neighbours}
use Rattle.rules.specs.SmallBlock.{grow, component}
use Rattle.cost_laws.specs.Turns.{component_turns}
use Rattle.cost_laws.specs.Neat.{neat_network}
use Rattle.cost_laws.specs.Stands.{Fine}

pub graph_turns : (g : Graph) → Fine g → (aside : List ℕ) (s more : ℕ) → s < 64 → mem s aside ≡ false → grow (neighbours g) (64 + more) aside [] (s ∷ []) ≡ component (neighbours g) aside s
graph_turns g f aside s more l m = component_turns 64 (neighbours g) (neat_network g f.shaped f.neat) aside more s l m
