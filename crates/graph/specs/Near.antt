-- A decision's neighbours and its edges to them, as the code holds them.
-- Assumes nothing.
use Rattle.std.specs.Prelude.{List, [], ◌∷◌, map, ℕ, ◌+◌, ◌*◌, length, get_or, ℤ, pos}
use Rattle.rules.specs.Graph.{Graph, neighbours}
use Rattle.graph.specs.declared.Near.{Near}

-- the first three of a list; z where there are fewer
abbrev pub three : {A : Type 0} → List A → A → List A
three xs z = get_or xs 0 z ∷ get_or xs 1 z ∷ get_or xs 2 z ∷ []

-- of a list of decisions, with i's edges to them
abbrev pub near_among : List ℤ → ℕ → List ℕ → Near
near_among e i js = record { list = three js 0; weights = three (map (λ j. get_or e (64 * i + j) (pos 0)) js) (pos 0); count = length js }

unfoldable pub near_at : Graph → ℕ → Near
near_at g i = near_among g.edges i (neighbours g i)
