-- The outputs entry by entry, over the list of the remaining decisions.
-- Assumes nothing.
use Rattle.std.specs.Prelude.{◌≡◌, refl, Bool, true, false, cond, ◌&&◌, List, map, ℕ, ◌+◌, ◌*◌, ◌-◌, ◌/◌, ◌%◌, ◌<◌, ◌≤◌, ltb, length, get_or, replicate, ℤ, pos}
use Rattle.std.proofs.Common.{sym, ◌∙◌, arith, length-append, ext_get_or, ltb-true, ltb-false}
use Rattle.std.proofs.lemmas.List.{length-replicate, length-map}
use Rattle.std.proofs.Math.ListN.{get_or-append}
use Rattle.whole.specs.Words.{upto, tab}
use Rattle.whole.specs.Lists.{tab_at, tab_map, length_tab, tab_same, map_at, past}
use Rattle.rules.specs.Graph.{Graph, actives}
use Rattle.rules.specs.Outcome.{linear_out, edge_out}
use Rattle.outputs.specs.Out.{linear_of, cell_of}
use Rattle.outputs.specs.OutLaws as by

-- entry k of each output
abbrev pub linear_at : List ℤ → List ℕ → ℕ → ℤ
linear_at l rs k = cond (ltb k (length rs)) (get_or l (get_or rs k 0) (pos 0)) (pos 0)

abbrev pub edge_at : List ℤ → List ℕ → ℕ → ℤ
edge_at e rs k = cond (ltb (k / 64) (length rs)) (cond (ltb (k % 64) (length rs)) (get_or e (64 * get_or rs (k / 64) 0 + get_or rs (k % 64) 0) (pos 0)) (pos 0)) (pos 0)

test : (S : Bool → Type 0) (a b : ℕ) → (a < b → S true) → (b ≤ a → S false) → S (ltb a b)
test S a b f g = go (ltb a b) refl
  where
    go : (t : Bool) → ltb a b ≡ t → S t
    go true e = f (ltb-true a b e)
    go false e = g (ltb-false a b e)

module _ (l : List ℤ) (rs : List ℕ) where
  cell_at : (k : ℕ) → edge_at l rs k ≡ cell_of l rs k
  cell_at k =
      test (λ t. cond t (cond (ltb (k % 64) (length rs)) (get_or l (64 * get_or rs (k / 64) 0 + get_or rs (k % 64) 0) (pos 0)) (pos 0)) (pos 0) ≡ cond (t && ltb (k % 64) (length rs)) (get_or l (64 * get_or rs (k / 64) 0 + get_or rs (k % 64) 0) (pos 0)) (pos 0)) (k / 64) (length rs)
      (λ s. refl)
      (λ s. refl)

  pub edges_out : tab (edge_at l rs) 4096 ≡ map (cell_of l rs) (upto 4096)
  edges_out = tab_same (edge_at l rs) (cell_of l rs) 4096 (λ k h. cell_at k) ∙ sym (tab_map (cell_of l rs) 4096)

  module _ (few : length rs ≤ 64) where
    same_length : length (tab (linear_at l rs) 64) ≡ length (linear_of l rs)
    same_length = length_tab (linear_at l rs) 64 ∙ simp (length-append, length-map, length-replicate) (omega (arith, few))

    same_at : (k : ℕ) → k < 64 → linear_at l rs k ≡ get_or (linear_of l rs) k (pos 0)
    same_at k h =
        test (λ t. cond t (get_or l (get_or rs k 0) (pos 0)) (pos 0) ≡ get_or (linear_of l rs) k (pos 0)) k (length rs)
        (λ s.
        let m : k < length (map (λ i. get_or l i (pos 0)) rs) = rw length-map s in
        sym (get_or-append (map (λ i. get_or l i (pos 0)) rs) (replicate (64 - length rs) (pos 0)) (pos 0) k m ∙ map_at (λ i. get_or l i (pos 0)) rs k 0 (pos 0) s))
        (λ s.
        let m : length (map (λ i. get_or l i (pos 0)) rs) ≤ k = rw length-map s in
        sym (past (map (λ i. get_or l i (pos 0)) rs) (pos 0) (64 - length rs) k m))

    pub linear_out_lem : tab (linear_at l rs) 64 ≡ linear_of l rs
    linear_out_lem =
        ext_get_or (pos 0) _ _ same_length (λ k h.
        let m : k < 64 = rw (length_tab (linear_at l rs) 64) at h in
        tab_at (linear_at l rs) 64 k (pos 0) m ∙ same_at k m)

-- the rules' outputs of a graph whose remaining decisions are these
module _ (g : Graph) (rs : List ℕ) (few : length rs ≤ 64) (h : rs ≡ actives g) where
  pub linear_of_lem : tab (linear_at g.linear rs) 64 ≡ linear_out g
  linear_of_lem = linear_out_lem g.linear rs few ∙ by.linear_of_lem g rs h

  pub edges_of : tab (edge_at g.edges rs) 4096 ≡ edge_out g
  edges_of = edges_out g.edges rs ∙ by.edges_of g rs h
