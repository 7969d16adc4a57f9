-- 01's "Small block", sentence by sentence: what the definitions of the search mean.
-- Assumes nothing.
use Rattle.std.specs.Prelude.{◌≡◌, true, false, List, [], ◌∷◌, ℕ, ◌+◌, ◌-◌, ◌^◌, ◌<◌, ◌≤◌, length, ◌≤ℤ◌, ◌<ℤ◌}
use Rattle.std.proofs.Common.{sym, subst}
use Rattle.whole.specs.Words.{mem}
use Rattle.rules.specs.Graph.{Graph, actives, neighbours}
use Rattle.rules.specs.SmallBlock.{grow, component, is_cut, small, find_block, none, members, boundary, inner, best_mask}
use Rattle.cost_laws.specs.CostLaws.{Shaped}
use Rattle.cost_laws.specs.Growth.{Network, free, network}
use Rattle.cost_laws.specs.Turns.{component_turns}
use Rattle.cost_laws.specs.BlockCost.{cheapest_least, cheapest_lowest}
use Rattle.cost_laws.specs.Found.{in_actives, Removed, nothing, single, FoundBy, found_by, SmallBlock, found_block}
use Rattle.search_laws.specs.Paths.{PathFrom, Parts}
use Rattle.search_laws.specs.PathLaws.{reached_path, path_reached}
use Rattle.search_laws.specs.CutLaws.{cut_parts, parts_cut}
use Rattle.search_laws.specs.NoneFound.{none_unremoved, none_removed}

-- each follows from the other
abbrev pub Same : Type 0 → Type 0 → Type 0
Same A B = (A → B) × (B → A)

module _ (n : ℕ) (near : ℕ → List ℕ) (net : Network n near) where
  -- "grow components": a component holds exactly what a path reaches that avoids those set aside
  pub component_is : (aside : List ℕ) (s k : ℕ) → s < n → mem s aside ≡ false → Same (mem k (component near aside s) ≡ true) (PathFrom near aside s k)
  component_is aside s k l out = (reached_path n near net aside s k out, path_reached n near net aside s l out)

  -- the 64 turns of growing are enough: any more change nothing
  pub growing_ends : (aside : List ℕ) (s e : ℕ) → s < n → mem s aside ≡ false → grow near (64 + e) aside [] (s ∷ []) ≡ component near aside s
  growing_ends aside s e = component_turns n near net aside e s

  -- "an active c other than the removed one is a cut when two of its neighbours, neither the removed one, have no path between them that avoids c and removed"
  pub cut_is : (removed : List ℕ) (c : ℕ) → c < n → Same (is_cut near removed c ≡ true) (Parts near removed c)
  cut_is removed c lc = (cut_parts n near net removed c lc, parts_cut n near net removed c lc)

active_below : (g : Graph) (k : ℕ) → mem k (actives g) ≡ true → k < g.n
active_below g k h = (in_actives g k h).0

module _ (g : Graph) (b : List ℕ) (s : Shaped g) (e : find_block g ≡ members b) where
  abbrev pub by : FoundBy g b
  by = found_by g b e

  -- "With c and removed set aside": what is taken is what paths from its seed reach that avoid the two
  pub block_is : (k : ℕ) → Same (mem k b ≡ true) (PathFrom (neighbours g) ((found_by g b e).by.cut ∷ (found_by g b e).removed) (found_by g b e).by.taken.seed k)
  block_is k = subst (λ (b : List ℕ). Same (mem k b ≡ true) (PathFrom (neighbours g) (by.by.cut ∷ by.removed) by.by.taken.seed k)) (sym by.by.taken.is)
      (component_is g.n (neighbours g) (network g s) (by.by.cut ∷ by.removed) by.by.taken.seed k (active_below g by.by.taken.seed by.by.taken.live) by.by.taken.free)

  -- "2 to 8 members ...; it has at most 2 outside neighbours"
  pub block_size : (2 ≤ length b) × (length b ≤ 8) × (length (boundary g b) ≤ 2)
  block_size = let w : SmallBlock g b = found_block g b s e in (w.two, w.eight, w.narrow)

-- "Otherwise stop": where none is found, no component of any cut has 2 to 8 members
pub nothing_missed : (g : Graph) {removed : List ℕ} → Shaped g → find_block g ≡ none → Removed g removed → (c k : ℕ) → mem c (actives g) ≡ true → is_cut (neighbours g) removed c ≡ true
    → mem k (actives g) ≡ true → mem k (c ∷ removed) ≡ false → small (component (neighbours g) (c ∷ removed) k) ≡ false
unfolding find_block
nothing_missed g s e nothing c k mc t = none_unremoved g.n (neighbours g) (network g s) (actives g) (active_below g) e c mc t k
nothing_missed g s e (single {r = r} mr) c k mc t = none_removed g.n (neighbours g) (network g s) (actives g) (active_below g) e r mr c mc t k

module _ (g : Graph) (b : List ℕ) (f m : ℕ) where
  -- "find the cheapest interior mask"
  pub winner_cheapest : m ≤ 2 ^ length b - 1 → inner g (boundary g b) f b (best_mask g b f) ≤ℤ inner g (boundary g b) f b m
  winner_cheapest l = cheapest_least (inner g (boundary g b) f b) (2 ^ length b - 1) m l

  -- "ties keep the lowest mask": every lower one costs more
  pub winner_lowest : m < best_mask g b f → inner g (boundary g b) f b (best_mask g b f) <ℤ inner g (boundary g b) f b m
  winner_lowest l = cheapest_lowest (inner g (boundary g b) f b) (2 ^ length b - 1) m l
