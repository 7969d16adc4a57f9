-- The loop over a decision's neighbours, as its mask shows them: js so far.
use Rattle.std.proofs.Common.{◌≡◌, sym, ap, ◌∙◌, arith, append_assoc, append-nil, length-append, List, [], ◌∷◌, ◌++◌, length, get_or, ℕ, ◌<◌, ◌≤◌, ℤ}
use Rattle.whole.specs.Pigeon.{pigeon}
use Rattle.whole.specs.Masks.{these, these_apart}
use Rattle.rules.specs.Graph.{graph}
use Rattle.graph.specs.Near.{near_among, near_at}
use Rattle.graph.specs.Shows.{Shows}
use Rattle.graph.specs.ShowsLaws.{shown_neighbours}
use Rattle.graph.specs.declared.Near.{Near}

module _ (js : List ℕ) (j rest next mask : ℕ) (all : js ++ these rest ≡ these mask) (on : these rest ≡ j ∷ these next) where
  -- there is room for one more
  pub near_room : length js < 64
  near_room = omega (arith, ap length all, ap length on, length-append js (these rest), pigeon 64 (these_apart mask))

  pub near_on : (js ++ j ∷ []) ++ these next ≡ these mask
  near_on = append_assoc js (j ∷ []) (these next) ∙ ap (λ (xs : List ℕ). js ++ xs) (sym on) ∙ all

module _ (n : ℕ) (e : List ℤ) (m : List ℕ) (shows : Shows n e m) (small : n ≤ 64) (c : ℤ) (l : List ℤ) (ss : List ℕ) (i : ℕ) (hi : i < 64) where
  pub near_end : (js : List ℕ) (rest : ℕ) (r : Near) → js ++ these rest ≡ these (get_or m i 0) → these rest ≡ [] → r ≡ near_among e i js → r ≡ near_at (graph n c l e ss) i
  unfolding near_at
  near_end js rest r all none is =
      is ∙ ap (near_among e i)
      (sym (append-nil js) ∙ ap (λ (xs : List ℕ). js ++ xs) (sym none) ∙ all ∙ shown_neighbours n e m shows small c l ss i hi)
