-- 01, "The run": fixing.
-- Assumes nothing.
use Rattle.std.specs.Prelude.{cond, List, [], ◌∷◌, ℕ, zero, suc, ltb}
use Rattle.rules.specs.Objective.{Objective}
use Rattle.rules.specs.Graph.{Graph, lin, edge, neighbours, add_constant, add_linear, drop_to, graph_of}

-- each edge of i, as it was, to the neighbour's a
unfoldable pub spread : Graph → ℕ → List ℕ → Graph → Graph
spread old i [] g = g
spread old i (j ∷ js) g = spread old i js (add_linear j (edge old i j) g)

-- "value 1 adds a to the constant and each edge to the neighbour's a; either value drops the decision and its edges"
unfoldable pub fix : ℕ → ℕ → Graph → Graph
fix i zero g = drop_to 0 i g
fix i (suc v) g = spread g i (neighbours g i) (add_constant (lin g i) (drop_to 1 i g))

-- "Fix first, ascending"; 2 is free
unfoldable pub fix_all : ℕ → List ℕ → Graph → Graph
fix_all i [] g = g
fix_all i (v ∷ vs) g = fix_all (suc i) vs (cond (ltb v 2) (fix i v g) g)

-- the graph that the run starts from
unfoldable pub start : Objective → Graph
start o = fix_all 0 o.fixings (graph_of o)
