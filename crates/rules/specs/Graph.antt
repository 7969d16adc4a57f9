-- The graph that an objective gives, and its four atomic updates.
-- Weights stand as the code holds them: linear 64 long, edges 4,096 long with the edge of i and j at 64·i + j and at 64·j + i; 0 is no edge.
-- States are those of the record block: 0 or 1 fixed, 2 active, 3 eliminated.
-- Assumes nothing.
use Rattle.std.specs.Prelude.{Bool, cond, not, List, [], ◌∷◌, ◌++◌, map, ℕ, zero, suc, ◌+◌, ◌*◌, ◌-◌, eqb, length, get_or, set, replicate, ℤ, pos, ◌+ℤ◌}
use Rattle.whole.specs.Words.{is_zero_z, upto, those}
use Rattle.rules.specs.Objective.{Objective}

pub record Graph : Type 0 where
  pub n : ℕ
  pub constant : ℤ
  pub linear : List ℤ
  pub edges : List ℤ
  pub states : List ℕ

abbrev pub graph : ℕ → ℤ → List ℤ → List ℤ → List ℕ → Graph
graph n c l e ss = record { n = n; constant = c; linear = l; edges = e; states = ss }

-- ---- reading
-- a of i
abbrev pub lin : Graph → ℕ → ℤ
lin g i = get_or g.linear i (pos 0)

abbrev pub edge : Graph → ℕ → ℕ → ℤ
edge g i j = get_or g.edges (64 * i + j) (pos 0)

abbrev pub active : Graph → ℕ → Bool
active g i = eqb (get_or g.states i 0) 2

-- the active decisions, ascending
unfoldable pub actives : Graph → List ℕ
actives g = those (λ i. active g i) (upto g.n)

-- "Neighbours ascending"
unfoldable pub neighbours : Graph → ℕ → List ℕ
neighbours g i = those (λ j. not (is_zero_z (edge g i j))) (upto g.n)

abbrev pub degree : Graph → ℕ → ℕ
degree g i = length (neighbours g i)

-- i's edges to the decisions of a list
abbrev pub row : Graph → ℕ → List ℕ → List ℤ
row g i js = map (λ j. edge g i j) js

-- ---- the atomic updates: v to the constant, to a linear weight, to an edge; a decision dropped
unfoldable pub add_constant : ℤ → Graph → Graph
add_constant v g = graph g.n (g.constant +ℤ v) g.linear g.edges g.states

unfoldable pub add_linear : ℕ → ℤ → Graph → Graph
add_linear k v g = graph g.n g.constant (set g.linear k (lin g k +ℤ v)) g.edges g.states

-- both ways round. "An edge that becomes 0 is removed", since 0 is none
unfoldable pub add_edge : ℕ → ℕ → ℤ → Graph → Graph
add_edge k l v g =
    graph g.n g.constant g.linear (set (set g.edges (64 * k + l) (edge g k l +ℤ v)) (64 * l + k) (edge g l k +ℤ v)) g.states

-- i's edges to the decisions below c are none, both ways round
unfoldable pub clear : ℕ → ℕ → List ℤ → List ℤ
clear i zero e = e
clear i (suc j) e = set (set (clear i j e) (64 * i + j) (pos 0)) (64 * j + i) (pos 0)

-- "drops the decision and its edges": i leaves for a state, with its weight and its edges
unfoldable pub drop_to : ℕ → ℕ → Graph → Graph
drop_to s i g = graph g.n g.constant (set g.linear i (pos 0)) (clear i g.n g.edges) (set g.states i s)

-- ---- building
-- "A term with i = j adds to a of i, since x times x is x. A pair whose sum is 0 is no edge."
unfoldable pub add_term : ℕ → ℕ → ℤ → Graph → Graph
add_term i j w g = cond (eqb i j) (add_linear i w g) (add_edge i j w g)

-- "in any order, repeats added up"
unfoldable pub add_terms : List ℕ → List ℕ → List ℤ → Graph → Graph
add_terms [] js ws g = g
add_terms (i ∷ is) [] ws g = g
add_terms (i ∷ is) (j ∷ js) [] g = g
add_terms (i ∷ is) (j ∷ js) (w ∷ ws) g = add_terms is js ws (add_term i j w g)

unfoldable pub no_edges : List ℤ
no_edges = replicate 4096 (pos 0)

-- no term yet; past n every weight and every state is 0
unfoldable pub bare : Objective → Graph
bare o =
    graph o.n (pos 0) (o.weights ++ replicate (64 - o.n) (pos 0)) no_edges (replicate o.n 2 ++ replicate (64 - o.n) 0)

-- nothing fixed yet
unfoldable pub graph_of : Objective → Graph
graph_of o = add_terms o.firsts o.seconds o.term_weights (bare o)
