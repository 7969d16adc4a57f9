-- The outputs as the code writes them, over a list with its length, in the rules' words.
-- Assumes nothing.
use Rattle.std.specs.Prelude.{◌≡◌, refl, Bool, true, false, cond, List, map, ℕ, ◌+◌, ◌*◌, ◌/◌, ◌%◌, ◌<◌, ◌≤◌, ltb, length, get_or, ℤ, pos}
use Rattle.std.proofs.Common.{◌∙◌, arith, get_or-take, length-take-le, ltb-true}
use Rattle.whole.specs.Words.{upto, tab}
use Rattle.whole.specs.Lists.{tab_same}
use Rattle.rules.specs.Graph.{Graph, actives}
use Rattle.rules.specs.Outcome.{linear_out, edge_out}
use Rattle.outputs.specs.declared.Remaining.{Remaining}
use Rattle.outputs.specs.Out.{rest, active_of, Places, linear_at, edge_at, linear_of, cell_of}
use Rattle.outputs.specs.EntryLaws as entry

-- the active decisions of a graph's states are the graph's
pub actives_are : (g : Graph) → active_of g.states g.n ≡ actives g
unfolding actives
actives_are g = refl

test : (S : Bool → Type 0) (a b : ℕ) → (a < b → S true) → S false → S (ltb a b)
test S a b f s = go (ltb a b) refl
  where
    go : (t : Bool) → ltb a b ≡ t → S t
    go true e = f (ltb-true a b e)
    go false e = s

module _ (r : Remaining) (ok : Places r.list r.len) where
  pub length_rest : length (rest r) ≡ r.len
  length_rest = length-take-le r.len r.list (omega (arith, ok.few, ok.long))

  pub rest_few : length (rest r) ≤ 64
  rest_few = omega (arith, length_rest, ok.few)

  pub rest_at : (k : ℕ) → k < r.len → get_or (rest r) k 0 ≡ get_or r.list k 0
  rest_at k h = get_or-take r.len r.list k 0 h

  pub rest_low : (k : ℕ) → k < length (rest r) → get_or (rest r) k 0 < 64
  rest_low k h = omega (arith, length_rest, rest_at k (omega (arith, length_rest)), ok.each k)

  module _ (l : List ℤ) where
    weight_is : (k : ℕ) → linear_at l r.list r.len k ≡ entry.linear_at l (rest r) k
    weight_is k =
        rw length_rest
        (test (λ t. cond t (get_or l (get_or r.list k 0) (pos 0)) (pos 0) ≡ cond t (get_or l (get_or (rest r) k 0) (pos 0)) (pos 0)) k r.len
        (λ s. rw (rest_at k s) refl)
        refl)

    edge_is : (k : ℕ) → edge_at l r.list r.len k ≡ entry.edge_at l (rest r) k
    edge_is k =
        rw length_rest
        (test (λ t. cond t (cond (ltb (k % 64) r.len) (get_or l (64 * get_or r.list (k / 64) 0 + get_or r.list (k % 64) 0) (pos 0)) (pos 0)) (pos 0) ≡ cond t (cond (ltb (k % 64) r.len) (get_or l (64 * get_or (rest r) (k / 64) 0 + get_or (rest r) (k % 64) 0) (pos 0)) (pos 0)) (pos 0)) (k / 64) r.len
        (λ s.
        test (λ u. cond u (get_or l (64 * get_or r.list (k / 64) 0 + get_or r.list (k % 64) 0) (pos 0)) (pos 0) ≡ cond u (get_or l (64 * get_or (rest r) (k / 64) 0 + get_or (rest r) (k % 64) 0) (pos 0)) (pos 0)) (k % 64) r.len
        (λ u. rw (rest_at (k / 64) s, rest_at (k % 64) u) refl)
        refl)
        refl)

    pub linear_out_lem : tab (linear_at l r.list r.len) 64 ≡ linear_of l (rest r)
    linear_out_lem = tab_same (linear_at l r.list r.len) (entry.linear_at l (rest r)) 64 (λ k h. weight_is k) ∙ entry.linear_out_lem l (rest r) rest_few

    pub edges_out : tab (edge_at l r.list r.len) 4096 ≡ map (cell_of l (rest r)) (upto 4096)
    edges_out = tab_same (edge_at l r.list r.len) (entry.edge_at l (rest r)) 4096 (λ k h. edge_is k) ∙ entry.edges_out l (rest r)

-- the rules' outputs of a graph whose remaining decisions are these
module _ (g : Graph) (r : Remaining) (ok : Places r.list r.len) (h : rest r ≡ actives g) where
  pub linear_of_lem : tab (linear_at g.linear r.list r.len) 64 ≡ linear_out g
  linear_of_lem = tab_same (linear_at g.linear r.list r.len) (entry.linear_at g.linear (rest r)) 64 (λ k l. weight_is r ok g.linear k) ∙ entry.linear_of_lem g (rest r) (rest_few r ok) h

  pub edges_of : tab (edge_at g.edges r.list r.len) 4096 ≡ edge_out g
  edges_of = tab_same (edge_at g.edges r.list r.len) (entry.edge_at g.edges (rest r)) 4096 (λ k l. edge_is r ok g.edges k) ∙ entry.edges_of g (rest r) (rest_few r ok) h
