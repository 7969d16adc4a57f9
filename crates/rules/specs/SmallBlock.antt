-- 01, "Small block": the search, over each decision's neighbours and the active decisions only; then a block and its elimination.
-- Assumes nothing.
use Rattle.std.specs.Prelude.{Bool, cond, not, ◌&&◌, List, [], ◌∷◌, ◌++◌, ℕ, zero, suc, ◌-◌, ◌/◌, ◌^◌, leb, length, ℤ, pos, ◌+ℤ◌}
use Rattle.std.specs.Int.Signed.{lt_z}
use Rattle.whole.specs.Words.{is_zero_z, odd, upto, mem, those, some, bit, chosen, bits_from}
use Rattle.rules.specs.Graph.{Graph, lin, edge, actives, neighbours, row, drop_to}
use Rattle.rules.specs.Eliminate.{Step, step, absorb}

-- ---- the search
module _ (near : ℕ → List ℕ) where
  -- the neighbours of i that are neither set aside nor found already
  abbrev pub fresh : List ℕ → List ℕ → ℕ → List ℕ
  fresh aside found i = those (λ w. not (mem w (aside ++ found))) (near i)

  -- "breadth first, neighbours ascending": `old` has been gone through, `new` has not, and `aside` is never entered.
  -- Each turn goes through one decision, and none twice, so 64 turns are enough.
  unfoldable pub grow : ℕ → List ℕ → List ℕ → List ℕ → List ℕ
  grow zero aside old new = old ++ new
  grow (suc f) aside old [] = old
  grow (suc f) aside old (i ∷ new) = grow f aside (old ++ i ∷ []) (new ++ fresh aside (old ++ i ∷ new) i)

-- none, or the members of a block in growth order
pub data Block : Type 0 where
  none : Block
  members : List ℕ → Block

abbrev pub or_else : Block → Block → Block
or_else none b = b
or_else (members m) b = members m

-- "2 to 8 members"
abbrev pub small : List ℕ → Bool
small b = leb 2 (length b) && leb (length b) 8

module _ (near : ℕ → List ℕ) where
  -- what a path from s that avoids `aside` reaches, in growth order
  abbrev pub component : List ℕ → ℕ → List ℕ
  component aside s = grow near 64 aside [] (s ∷ [])

  -- c's neighbours but for the removed one
  abbrev pub besides : List ℕ → ℕ → List ℕ
  besides removed c = those (λ u. not (mem u removed)) (near c)

  -- "an active c other than the removed one is a cut when two of its neighbours, neither the removed one, have no path between them that avoids c and removed"
  unfoldable pub is_cut : List ℕ → ℕ → Bool
  is_cut removed c =
      not (mem c removed) && some (λ u. some (λ v. not (mem v (component (c ∷ removed) u))) (besides removed c)) (besides removed c)

  -- "grow components from the lowest unseen active decision ... The first with 2 to 8 members is taken"
  unfoldable pub among : List ℕ → List ℕ → List ℕ → Block
  among aside seen [] = none
  among aside seen (s ∷ ss) =
      let later = among aside seen ss in
      let b = component aside s in
      let after = among aside (seen ++ b) ss in
      cond (mem s seen) later (cond (small b) (members b) after)

  module _ (live : List ℕ) where
    -- "for each cut c ascending ... With c and removed set aside"
    unfoldable pub over_cuts : List ℕ → List ℕ → Block
    over_cuts removed [] = none
    over_cuts removed (c ∷ cs) =
        let later = over_cuts removed cs in
        cond (is_cut removed c) (or_else (among (c ∷ removed) (c ∷ removed) live) later) later

    -- "then each active decision ascending"
    unfoldable pub over_removed : List ℕ → Block
    over_removed [] = none
    over_removed (r ∷ rs) =
        let later = over_removed rs in
        or_else (over_cuts (r ∷ []) live) later

    -- "For removed = none, then each active decision"
    unfoldable pub search : Block
    search =
        let later = over_removed live in
        or_else (over_cuts [] live) later

unfoldable pub find_block : Graph → Block
find_block g = search (neighbours g) (actives g)

-- ---- a block and its elimination
-- "it has at most 2 outside neighbours, sorted"
unfoldable pub boundary : Graph → List ℕ → List ℕ
boundary g b = those (λ j. not (mem j b) && some (λ i. not (is_zero_z (edge g i j))) b) (upto g.n)

-- the cost of an interior mask at a filling f of the boundary: "bit = place in growth order"
unfoldable pub inner : Graph → List ℕ → ℕ → List ℕ → ℕ → ℤ
inner g out f [] m = pos 0
inner g out f (i ∷ is) m =
    cond (odd m) (lin g i +ℤ chosen (row g i out) f +ℤ chosen (row g i is) (m / 2)) (pos 0) +ℤ inner g out f is (m / 2)

-- "find the cheapest interior mask ...; ties keep the lowest mask": of the masks 0 to k
unfoldable pub cheapest : (ℕ → ℤ) → ℕ → ℕ
cheapest cost zero = 0
cheapest cost (suc k) = let m = cheapest cost k in cond (lt_z (cost (suc k)) (cost m)) (suc k) m

-- "For each boundary filling"
abbrev pub best_mask : Graph → List ℕ → ℕ → ℕ
best_mask g b f = cheapest (inner g (boundary g b) f b) (2 ^ length b - 1)

abbrev pub block_table : Graph → List ℕ → ℕ → ℤ
block_table g b f = inner g (boundary g b) f b (best_mask g b f)

unfoldable pub drop_all : List ℕ → Graph → Graph
drop_all [] g = g
drop_all (i ∷ is) g = drop_all is (drop_to 3 i g)

-- "Update constant, boundary weights and edge as for Eliminate"
unfoldable pub eliminate_block : List ℕ → Graph → Graph
eliminate_block b g = absorb (block_table g b) (boundary g b) (drop_all b g)

-- "one step per member in growth order, each with the whole boundary as neighbours": k is the first member's place
unfoldable pub block_steps : Graph → List ℕ → ℕ → List ℕ → List Step
block_steps g b k [] = []
block_steps g b k (i ∷ is) =
    step i (boundary g b) (bits_from (λ f. bit (best_mask g b f) k) 0 (2 ^ length (boundary g b))) ∷ block_steps g b (suc k) is
