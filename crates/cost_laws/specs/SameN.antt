-- No reduction changes the number of decisions.
-- Assumes nothing.
use Rattle.std.specs.Prelude.{◌≡◌, refl, Bool, true, false, cond, List, [], ◌∷◌, ℕ, eqb, ℤ, ◌+ℤ◌, neg_ℤ}
use Rattle.std.proofs.Common.{◌∙◌}
use Rattle.rules.specs.Graph.{Graph, lin, edge, neighbours, add_constant, add_linear, add_edge, drop_to}
use Rattle.cost_laws.specs.BlockCost.{drop_all_n}
use Rattle.rules.specs.Eliminate.{absorb, tee, eliminate}
use Rattle.rules.specs.DegreeThree.{add_pairs, absorb3, eliminate3}
use Rattle.rules.specs.SmallBlock.{boundary, block_table, drop_all, eliminate_block}
use Rattle.rules.specs.DominantEdge.{positive, turn, move, contract}

absorb_n : (t : ℕ → ℤ) (js : List ℕ) (g : Graph) → (absorb t js g).n ≡ g.n
unfolding absorb add_constant add_linear add_edge
absorb_n t [] g = refl
absorb_n t (j ∷ []) g = refl
absorb_n t (j ∷ k ∷ ks) g = refl

pub eliminate_n : (i : ℕ) (g : Graph) → (eliminate i g).n ≡ g.n
unfolding eliminate drop_to
eliminate_n i g = absorb_n (tee g i) (neighbours g i) (drop_to 3 i g)

pub block_n : (b : List ℕ) (g : Graph) → (eliminate_block b g).n ≡ g.n
unfolding eliminate_block
block_n b g = absorb_n (block_table g b) (boundary g b) (drop_all b g) ∙ drop_all_n b g

pub eliminate3_n : (i : ℕ) (g : Graph) → (eliminate3 i g).n ≡ g.n
unfolding eliminate3 absorb3 add_pairs add_constant add_linear add_edge drop_to
eliminate3_n i g = refl

turn_n : (old : Graph) (i j : ℕ) (ks : List ℕ) (g : Graph) → (turn old i j ks g).n ≡ g.n
unfolding turn add_linear add_edge
turn_n old i j [] g = refl
turn_n old i j (k ∷ ks) g = turn_n old i j ks (cond (eqb k j) g next) ∙ by (eqb k j)
  where
    next : Graph
    next = add_edge j k (neg_ℤ (edge old i k)) (add_linear k (edge old i k) g)

    by : (t : Bool) → (cond t g next).n ≡ g.n
    by true = refl
    by false = refl

move_n : (old : Graph) (i j : ℕ) (ks : List ℕ) (g : Graph) → (move old i j ks g).n ≡ g.n
unfolding move add_edge
move_n old i j [] g = refl
move_n old i j (k ∷ ks) g = move_n old i j ks (cond (eqb k j) g (add_edge j k (edge old i k) g)) ∙ by (eqb k j)
  where
    by : (t : Bool) → (cond t g (add_edge j k (edge old i k) g)).n ≡ g.n
    by true = refl
    by false = refl

one_n : (a b g : Graph) (t : Bool) → a.n ≡ g.n → b.n ≡ g.n → (cond t a b).n ≡ g.n
one_n a b g true p q = p
one_n a b g false p q = q

pub contract_n : (i j : ℕ) (g : Graph) → (contract i j g).n ≡ g.n
unfolding contract add_constant add_linear drop_to
contract_n i j g =
    let turned : Graph = add_linear j (neg_ℤ (lin g i)) (add_constant (lin g i) (drop_to 3 i g)) in
    let moved : Graph = add_linear j (lin g i +ℤ edge g i j) (drop_to 3 i g) in
    one_n (turn g i j (neighbours g i) turned) (move g i j (neighbours g i) moved) g (positive g i j) (turn_n g i j (neighbours g i) turned) (move_n g i j (neighbours g i) moved)
