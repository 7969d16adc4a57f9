-- The search for the dominant neighbour, turn by turn.
use Rattle.std.specs.Prelude.{◌≡◌, refl, Bool, true, false, cond, ◌&&◌, ◌||◌, List, [], ◌∷◌, Option, Some, None, map, length, get_or, ℕ, zero, suc, negsuc, ◌*◌, ◌+◌, ◌^◌, ◌≤◌, ℤ, pos, nat_abs, ◌+ℤ◌, ◌-ℤ◌}
use Rattle.std.specs.Int.{w64, int_min}
use Rattle.std.specs.Int.Signed.{lt_z, le_z}
use Rattle.std.proofs.Common.{SFits, of_z, to_z, sym, ap, ap₂, ◌∙◌, arith}
use Rattle.std.proofs.lemmas.List.{length-map}
use Rattle.whole.specs.Parts.{∣◌∣}
use Rattle.whole.specs.Ints.{ints, zarith, rd}
use Rattle.whole.specs.Cmp.{lt_ind, below0_abs, above0_abs}
use Rattle.whole.specs.Words.{is_zero_z, below0, above0}
use Rattle.whole.specs.Masks.{these, these_apart}
use Rattle.whole.specs.Pigeon.{pigeon}
use Rattle.whole.specs.Fits.{read, sum_fits}
use Rattle.whole.specs.Sum.{sum_end}
use Rattle.rules.specs.Graph.{Graph, edge, neighbours, row}
use Rattle.rules.specs.DominantEdge.{at, negatives, positives, lo, hi, dominates, weak, first, dominant}
use Rattle.accepted_laws.specs.Small.{Small, small_map}
use Rattle.size_laws.specs.Sizes.{lo_size, hi_size}
use Rattle.dominant_edge.specs.declared.Bounds.{Bounds}
use Rattle.dominant_edge.specs.Answer.{bounds_at, edge_bounds_of, verdict_of, test_of, answer_of, dominant_of, MatchesAt}

-- ---- the bounds
pub min_below : (w : ℤ) → int_min w (pos 0) ≡ below0 w
min_below w = lt_ind (pos 0) w (λ t. cond t (pos 0) w ≡ below0 w) (λ e. lt_ind w (pos 0) (λ s. pos 0 ≡ cond s w (pos 0)) (λ f. simp ints (omega zarith)) (λ f. refl)) (λ e. lt_ind w (pos 0) (λ s. w ≡ cond s w (pos 0)) (λ f. refl) (λ f. simp ints (omega zarith)))

pub above_is : (w : ℤ) → w -ℤ below0 w ≡ above0 w
above_is w = lt_ind w (pos 0) (λ t. w -ℤ cond t w (pos 0) ≡ cond t (pos 0) w) (λ e. simp ints (omega arith)) (λ e. simp ints (omega arith))

-- i's edges to the decisions of a list
abbrev pub edges_to : List ℤ → ℕ → List ℕ → List ℤ
edges_to e i js = map (λ j. get_or e (64 * i + j) (pos 0)) js

-- the sums so far, from the whole and what is left
module _ (e : List ℤ) (i : ℕ) (s : Small 2199023255552 e) (a : ℤ) (weight_small : ∣ a ∣ ≤ 1099511627776) (m rest : ℕ) (x : ℤ) where
  each : (m : ℕ) → Small 2199023255552 (edges_to e i (these m))
  each m = small_map (λ j. get_or e (64 * i + j) (pos 0)) (these m) (λ j. s.each (64 * i + j))

  few : (m : ℕ) → length (edges_to e i (these m)) ≤ 64
  few m = omega (arith, length-map (these m) (λ j. get_or e (64 * i + j) (pos 0)), pigeon 64 (these_apart m))

  pub lo_small : x +ℤ negatives (edges_to e i (these rest)) ≡ a +ℤ negatives (edges_to e i (these m)) → ∣ x ∣ ≤ 2 ^ 50
  lo_small q = omega (arith, lo_size a (edges_to e i (these m)) weight_small (each m) (edges_to e i (these rest)) x (each rest) (few m) (few rest) q)

  pub hi_small : x +ℤ positives (edges_to e i (these rest)) ≡ a +ℤ positives (edges_to e i (these m)) → ∣ x ∣ ≤ 2 ^ 50
  hi_small q = omega (arith, hi_size a (edges_to e i (these m)) weight_small (each m) (edges_to e i (these rest)) x (each rest) (few m) (few rest) q)

-- one turn, as the code makes it: kept and read back
pub record Turn (x y v r : ℤ) : Type 0 where
  pub lo_fits : SFits w64 (x +ℤ to_z w64 (of_z w64 r))
  pub hi_fits : SFits w64 (y +ℤ to_z w64 (of_z w64 (to_z w64 (of_z w64 v) -ℤ to_z w64 (of_z w64 r))))
  pub lo_next : to_z w64 (of_z w64 (x +ℤ to_z w64 (of_z w64 r))) ≡ x +ℤ below0 v
  pub hi_next : to_z w64 (of_z w64 (y +ℤ to_z w64 (of_z w64 (to_z w64 (of_z w64 v) -ℤ to_z w64 (of_z w64 r))))) ≡ y +ℤ above0 v

pub turn : (x y v r : ℤ) → ∣ x ∣ ≤ 2 ^ 50 → ∣ y ∣ ≤ 2 ^ 50 → ∣ v ∣ ≤ 2199023255552 → r ≡ int_min (to_z w64 (of_z w64 v)) (pos 0) → Turn x y v r
turn x y v r hx hy hv f =
    let back : to_z w64 (of_z w64 v) ≡ v = read v (omega arith) in
    let least : to_z w64 (of_z w64 r) ≡ below0 v = rw (f, back, min_below v) (read (below0 v) (omega (arith, below0_abs v))) in
    let most : to_z w64 (of_z w64 (to_z w64 (of_z w64 v) -ℤ to_z w64 (of_z w64 r))) ≡ above0 v = rw (back, least, above_is v) (read (above0 v) (omega (arith, above0_abs v))) in
    let lf : SFits w64 (x +ℤ below0 v) = sum_fits x (below0 v) (omega arith) (omega (arith, below0_abs v)) in
    let hf : SFits w64 (y +ℤ above0 v) = sum_fits y (above0 v) (omega arith) (omega (arith, above0_abs v)) in
    record { lo_fits = rw least lf; hi_fits = rw most hf; lo_next = rw least (rd lf); hi_next = rw most (rd hf) }

module _ (e : List ℤ) (i j : ℕ) (js ks : List ℕ) (step : js ≡ j ∷ ks) where
  pub negatives_turn : negatives (edges_to e i js) ≡ below0 (get_or e (64 * i + j) (pos 0)) +ℤ negatives (edges_to e i ks)
  unfolding negatives
  negatives_turn = ap (λ (x : List ℕ). negatives (edges_to e i x)) step

  pub positives_turn : positives (edges_to e i js) ≡ above0 (get_or e (64 * i + j) (pos 0)) +ℤ positives (edges_to e i ks)
  unfolding positives
  positives_turn = ap (λ (x : List ℕ). positives (edges_to e i x)) step

module _ (e : List ℤ) (i : ℕ) (js : List ℕ) (x y : ℤ) (none : js ≡ []) where
  pub negatives_end : x +ℤ negatives (edges_to e i js) ≡ y → x ≡ y
  unfolding negatives
  negatives_end q = sum_end x (negatives (edges_to e i js)) y (ap (λ (ks : List ℕ). negatives (edges_to e i ks)) none) q

  pub positives_end : x +ℤ positives (edges_to e i js) ≡ y → x ≡ y
  unfolding positives
  positives_end q = sum_end x (positives (edges_to e i js)) y (ap (λ (ks : List ℕ). positives (edges_to e i ks)) none) q

-- the bounds of a graph that matches are those of its edges
module _ (g : Graph) (a : ℤ) (m i : ℕ) (e : List ℤ) (seen : MatchesAt a m i e g) where
  same_edges : edges_to e i (these m) ≡ row g i (neighbours g i)
  same_edges = ap₂ (λ (x : List ℤ) (js : List ℕ). edges_to x i js) (sym seen.edges) seen.around

  pub bounds_match : (b : Bounds) → b.lo ≡ a +ℤ negatives (edges_to e i (these m)) → b.hi ≡ a +ℤ positives (edges_to e i (these m)) → b ≡ bounds_at g i
  bounds_match b p q =
      ap₂ (λ (x y : ℤ). record { lo = x; hi = y }) (p ∙ ap₂ (λ (x : ℤ) (ws : List ℤ). x +ℤ negatives ws) (sym seen.weight) same_edges) (q ∙ ap₂ (λ (x : ℤ) (ws : List ℤ). x +ℤ positives ws) (sym seen.weight) same_edges)

-- ---- the first that passes
-- one sign or the other: hi less the size of the edge, lo and that
pub by_size : (b : Bounds) (w : ℤ) → edge_bounds_of b w ≡ record { lo = b.lo +ℤ pos (nat_abs w); hi = b.hi -ℤ pos (nat_abs w) }
by_size b (pos zero) = refl
by_size b (pos (suc n)) =
    let w : ℤ = pos (suc n) in
    lt_ind (pos 0) w (λ t. ◌≡◌ {A = Bounds} (cond t (record { lo = b.lo +ℤ w; hi = b.hi -ℤ w }) (record { lo = b.lo -ℤ w; hi = b.hi +ℤ w })) (record { lo = b.lo +ℤ w; hi = b.hi -ℤ w })) (λ e. refl) (λ e. absurd (omega zarith))
by_size b (negsuc n) = refl

-- the code's test of an edge is the rules' of a neighbour
pub test_is : (g : Graph) (i j : ℕ) → test_of (bounds_at g i) (edge g i j) ≡ cond (dominates g i j) (Some (weak g i j)) None
test_is g i j = go (lt_z (pos 0) (edge g i j)) (lo g i) (hi g i) (edge g i j)
  where
    go : (t : Bool) (l h w : ℤ)
        → cond t (verdict_of (h -ℤ w) (l +ℤ w)) (verdict_of (h +ℤ w) (l -ℤ w))
        ≡ cond (le_z (cond t (h -ℤ w) (h +ℤ w)) (pos 0) && le_z (pos 0) (cond t (l +ℤ w) (l -ℤ w))) (Some (is_zero_z (cond t (h -ℤ w) (h +ℤ w)) || is_zero_z (cond t (l +ℤ w) (l -ℤ w)))) None
    go true l h w = refl
    go false l h w = refl

-- where the decisions js are left, and the next of them passes, does not, or there is none
module _ (g : Graph) (i j : ℕ) (js ks : List ℕ) (r : Option Bool) (step : js ≡ j ∷ ks) (tested : r ≡ test_of (bounds_at g i) (edge g i j)) where
  first_next : first (dominates g i) js ≡ cond (dominates g i j) (at j) (first (dominates g i) ks)
  unfolding first
  first_next = ap (first (dominates g i)) step

  pub first_passes : (w : Bool) → r ≡ Some w → first (dominates g i) js ≡ first (dominates g i) (neighbours g i) → Some (j, w) ≡ dominant_of g i
  unfolding dominant_of dominant
  first_passes w e h = go (dominates g i j) (sym first_next ∙ h) (sym e ∙ tested ∙ test_is g i j)
    where
      go : (t : Bool) → cond t (at j) (first (dominates g i) ks) ≡ first (dominates g i) (neighbours g i) → Some w ≡ cond t (Some (weak g i j)) None → Some (j, w) ≡ answer_of g i (first (dominates g i) (neighbours g i))
      go true p q = let same : w ≡ weak g i j = cc in rw same (ap (answer_of g i) p)
      go false p q = absurd (cc)

  pub first_fails : r ≡ None → first (dominates g i) js ≡ first (dominates g i) (neighbours g i) → first (dominates g i) ks ≡ first (dominates g i) (neighbours g i)
  first_fails e h = go (dominates g i j) (sym first_next ∙ h) (sym e ∙ tested ∙ test_is g i j)
    where
      go : (t : Bool) → cond t (at j) (first (dominates g i) ks) ≡ first (dominates g i) (neighbours g i) → None ≡ cond t (Some (weak g i j)) None → first (dominates g i) ks ≡ first (dominates g i) (neighbours g i)
      go true p q = absurd (cc)
      go false p q = p

pub first_none : (g : Graph) (i : ℕ) (js : List ℕ) → js ≡ [] → first (dominates g i) js ≡ first (dominates g i) (neighbours g i) → None ≡ dominant_of g i
unfolding first dominant_of dominant
first_none g i js e h = ap (answer_of g i) (sym (ap (first (dominates g i)) e) ∙ h)
