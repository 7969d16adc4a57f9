-- The outputs hold the reduced problem: the cost of a graph at a plan is the cost of its outputs at the plan's remaining entries.
-- Assumes nothing.
use Rattle.std.specs.Prelude.{◌≡◌, Bool, cond, ◌&&◌, List, map, ℕ, ◌+◌, ◌*◌, ◌-◌, ◌<◌, ◌≤◌, ltb, length, get_or, replicate, ℤ, pos}
use Rattle.std.proofs.Common.{sym, ap, ap₂, ◌∙◌, arith, lt-ltb}
use Rattle.std.proofs.lemmas.List.{length-map}
use Rattle.std.proofs.Math.ListN.{get_or-append}
use Rattle.whole.specs.Tests.{and_both}
use Rattle.whole.specs.Lists.{tab_map, tab_at, map_at}
use Rattle.whole.specs.Pigeon.{pigeon}
use Rattle.whole.specs.Members.{apart_those, apart_upto}
use Rattle.whole.specs.Cells.{row_at, column_at}
use Rattle.rules.specs.Graph.{Graph, lin, edge, active, actives}
use Rattle.rules.specs.Outcome.{linear_out, cell, edge_out}
use Rattle.cost_laws.specs.Cost.{cost_of}
use Rattle.cost_laws.specs.CostLaws.{cost}
use Rattle.cost_laws.specs.Stands.{Fine, gone_of}
use Rattle.demand_laws.specs.Demands.{is_one}
use Rattle.demand_laws.specs.Places.{cost_places, cost_same}

-- the k-th remaining decision
abbrev rest : Graph → ℕ → ℕ
rest g k = get_or (actives g) k 0

pub linear_at_lem : (g : Graph) (k : ℕ) → k < length (actives g) → get_or (linear_out g) k (pos 0) ≡ lin g (get_or (actives g) k 0)
unfolding linear_out
linear_at_lem g k l =
    get_or-append (map (λ i. lin g i) (actives g)) (replicate (64 - length (actives g)) (pos 0)) (pos 0) k (omega (arith, length-map (actives g) (λ i. lin g i)))
    ∙ map_at (λ i. lin g i) (actives g) k 0 (pos 0) l

pub edge_at_lem : (g : Graph) (i j : ℕ) → length (actives g) ≤ 64 → i < length (actives g) → j < length (actives g)
    → get_or (edge_out g) (64 * i + j) (pos 0) ≡ edge g (get_or (actives g) i 0) (get_or (actives g) j 0)
unfolding edge_out cell
edge_at_lem g i j few li lj =
    ap (λ (l : List ℤ). get_or l (64 * i + j) (pos 0)) (tab_map (cell g (actives g)) 4096)
    ∙ tab_at (cell g (actives g)) 4096 (64 * i + j) (pos 0) (omega arith)
    ∙ ap₂ (λ (a b : ℕ). cond (ltb a (length (actives g)) && ltb b (length (actives g))) (edge g (rest g a) (rest g b)) (pos 0)) (row_at i j (omega arith)) (column_at i j (omega arith))
    ∙ ap (λ (t : Bool). cond t (edge g (rest g i) (rest g j)) (pos 0)) (and_both (lt-ltb i (length (actives g)) li) (lt-ltb j (length (actives g)) lj))

pub outputs_cost : (g : Graph) → Fine g → (x : ℕ → Bool) (answer : List ℕ) → length answer ≡ length (actives g) → ((k : ℕ) → k < length (actives g) → x (get_or (actives g) k 0) ≡ is_one answer k)
    → cost g x ≡ cost_of (length answer) g.constant (λ i. get_or (linear_out g) i (pos 0)) (λ i j. get_or (edge_out g) (64 * i + j) (pos 0)) (is_one answer)
unfolding actives
outputs_cost g f x answer e h =
    cost_places (active g) g.n g.constant (lin g) (edge g) x f.light
    (λ i j li lj t. (gone_of g i f li t).across j lj) (λ i j li lj t. (gone_of g j f lj t).down i li)
    ∙ cost_same (length (actives g)) g.constant (λ k. lin g (rest g k)) (λ i. get_or (linear_out g) i (pos 0))
    (λ k l. edge g (rest g k) (rest g l)) (λ i j. get_or (edge_out g) (64 * i + j) (pos 0)) (λ k. x (rest g k)) (is_one answer)
    (λ i l. sym (linear_at_lem g i l)) (λ i j li lj. sym (edge_at_lem g i j small li lj)) h
    ∙ ap (λ (r : ℕ). cost_of r g.constant (λ i. get_or (linear_out g) i (pos 0)) (λ i j. get_or (edge_out g) (64 * i + j) (pos 0)) (is_one answer)) (sym e)
  where
    small : length (actives g) ≤ 64
    small = omega (arith, pigeon g.n (apart_those (active g) (apart_upto g.n)), f.shaped.few)
