-- The mass of a graph, the absolute values of all its numbers added up: what each update does to it. It bounds every number of the graph.
-- Assumes nothing.
use Rattle.std.specs.Prelude.{◌≡◌, refl, List, [], ◌∷◌, ◌++◌, ℕ, zero, suc, ◌+◌, ◌*◌, ◌<◌, ◌≤◌, get_or, set, drop, replicate, ℤ, pos, nat_abs, ◌+ℤ◌}
use Rattle.std.proofs.Common.{ap, ◌∙◌, arith, add-one, get_or-set_other}
use Rattle.whole.specs.Parts.{nat_abs_parts}
use Rattle.whole.specs.Ints.{ints}
use Rattle.whole.specs.Words.{tab}
use Rattle.rules.specs.Graph.{Graph, clear}
use Rattle.rules.specs.Objective.{weight_of}

abbrev pub mass : Graph → ℕ
mass g = nat_abs g.constant + weight_of g.linear + weight_of g.edges

pub abs_add : (a b : ℤ) → nat_abs (a +ℤ b) ≤ nat_abs a + nat_abs b
abs_add a b = rw (nat_abs_parts a, nat_abs_parts b) (simp ints (omega arith))

pub weight_at : (l : List ℤ) (k : ℕ) → nat_abs (get_or l k (pos 0)) ≤ weight_of l
unfolding weight_of
weight_at [] k = omega arith
weight_at (x ∷ l) zero = omega arith
weight_at (x ∷ l) (suc k) = omega (arith, weight_at l k)

-- what is left of a list's weight
pub weight_rest : (l : List ℤ) (k : ℕ) → weight_of (drop k l) ≡ nat_abs (get_or l k (pos 0)) + weight_of (drop (k + 1) l)
unfolding weight_of
weight_rest [] zero = omega arith
weight_rest [] (suc k) = rw add-one (omega arith)
weight_rest (x ∷ l) zero = omega arith
weight_rest (x ∷ l) (suc k) = rw add-one (rw add-one at (weight_rest l k))

pub weight_set : (l : List ℤ) (k : ℕ) (v : ℤ) → weight_of (set l k v) + nat_abs (get_or l k (pos 0)) ≤ weight_of l + nat_abs v
unfolding weight_of
weight_set [] k v = omega arith
weight_set (x ∷ l) zero v = omega arith
weight_set (x ∷ l) (suc k) v = omega (arith, weight_set l k v)

-- one entry gains v
pub weight_gain : (l : List ℤ) (k : ℕ) (v : ℤ) → weight_of (set l k (get_or l k (pos 0) +ℤ v)) ≤ weight_of l + nat_abs v
weight_gain l k v = omega (arith, weight_set l k (get_or l k (pos 0) +ℤ v), abs_add (get_or l k (pos 0)) v)

pub weight_append : (a b : List ℤ) → weight_of (a ++ b) ≡ weight_of a + weight_of b
unfolding weight_of
weight_append [] b = omega arith
weight_append (x ∷ a) b = omega (arith, weight_append a b)

pub weight_zeros : (n : ℕ) → weight_of (replicate n (pos 0)) ≡ 0
unfolding weight_of
weight_zeros zero = refl
weight_zeros (suc n) = omega (arith, weight_zeros n)

-- a decision's row is not touched before its turn comes
clear_later : (i k j : ℕ) (e : List ℤ) → i < 64 → j < 64 → k ≤ j → get_or (clear i k e) (64 * i + j) (pos 0) ≡ get_or e (64 * i + j) (pos 0)
unfolding clear
clear_later i zero j e hi hj h = refl
clear_later i (suc k) j e hi hj h =
    get_or-set_other (set (clear i k e) (64 * i + k) (pos 0)) (64 * k + i) (64 * i + j) (pos 0) (pos 0) (λ q. omega arith)
    ∙ get_or-set_other (clear i k e) (64 * i + k) (64 * i + j) (pos 0) (pos 0) (λ q. omega arith)
    ∙ clear_later i k j e hi hj (omega arith)

-- what is cleared is at least the row
pub weight_clear : (i n : ℕ) (e : List ℤ) → i < 64 → n ≤ 64 → weight_of (clear i n e) + weight_of (tab (λ j. get_or e (64 * i + j) (pos 0)) n) ≤ weight_of e
unfolding clear tab weight_of
weight_clear i zero e hi hn = omega arith
weight_clear i (suc j) e hi hn =
    let c = clear i j e in
    let r = tab (λ j. get_or e (64 * i + j) (pos 0)) j in
    let h : weight_of c + weight_of r ≤ weight_of e = weight_clear i j e hi (omega arith) in
    let x : nat_abs (get_or c (64 * i + j) (pos 0)) ≡ nat_abs (get_or e (64 * i + j) (pos 0)) = ap nat_abs (clear_later i j j e hi (omega arith) (omega arith)) in
    omega (arith, weight_append r (get_or e (64 * i + j) (pos 0) ∷ []), weight_set c (64 * i + j) (pos 0), weight_set (set c (64 * i + j) (pos 0)) (64 * j + i) (pos 0))
