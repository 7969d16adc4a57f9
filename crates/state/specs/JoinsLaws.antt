-- Who joins, as one list: those of the neighbours that are active, do not wait and are eligible; and a pass's queue the same from everyone.
-- Assumes nothing.
use Rattle.std.specs.Prelude.{◌≡◌, Bool, ◌&&◌, ◌||◌, ℕ, ◌-◌, ◌≤◌, ltb, leb, get_or}
use Rattle.std.proofs.Math.Path.{refl, ap, sym}
use Rattle.std.proofs.Common.{ap₂, ◌∙◌, add-sub_of_le, lt-ltb, le-ltb, eq-eqb, ne_eqb}
use Rattle.std.proofs.Math.Bool.{true, false, cond, not}
use mathlib.Core.List.{List, [], ◌∷◌, ◌++◌, append-nil, append_assoc}
use Rattle.whole.specs.Masks.{these, these_apart, those_ext, those_those}
use Rattle.whole.specs.Those.{those_upto}
use Rattle.whole.specs.Words.{from, upto, mem, those}
use Rattle.whole.specs.Tests.{cases, off_not}
use Rattle.whole.specs.Members.{in_left, in_those, out_both, apart_new, apart_tail, differ, out_of_cons, upto_in}
use Rattle.whole.specs.Pigeon.{Apart}
use Rattle.rules.specs.Options.{low_degree, degree_three, dominant_edge}
use Rattle.rules.specs.declared.Options.{Options}
use Rattle.rules.specs.Graph.{Graph, active, actives, degree}
use Rattle.rules.specs.Run.{eligible, waiting, join}
use Rattle.state.specs.Joins.{may_join}

-- "dominant edge is on, or low degree is on and its degree" is low enough
module _ (opt : Options) (g : Graph) (i : ℕ) where
  pub by_dominant : dominant_edge opt ≡ true → true ≡ eligible opt g i
  by_dominant e = ap (λ (t : Bool). t || (low_degree opt && leb (degree g i) (cond (degree_three opt) 3 2))) (sym e)

  pub by_degree : dominant_edge opt ≡ false → low_degree opt ≡ true → leb (degree g i) (cond (degree_three opt) 3 2) ≡ eligible opt g i
  by_degree e f = ap₂ (λ (s t : Bool). s || (t && leb (degree g i) (cond (degree_three opt) 3 2))) (sym e) (sym f)

  pub by_none : dominant_edge opt ≡ false → low_degree opt ≡ false → false ≡ eligible opt g i
  by_none e f = ap₂ (λ (s t : Bool). s || (t && leb (degree g i) (cond (degree_three opt) 3 2))) (sym e) (sym f)

  pub gone_stays_out : (get_or g.states i 0 ≡ 2 → ⊥) → false ≡ may_join opt g i
  gone_stays_out p = rw (ne_eqb (get_or g.states i 0) 2 p)

  pub active_joins : get_or g.states i 0 ≡ 2 → eligible opt g i ≡ may_join opt g i
  active_joins p = rw (eq-eqb (get_or g.states i 0) 2 p)

module _ (opt : Options) (g : Graph) where
  -- who joins those of q
  abbrev pub joins : List ℕ → ℕ → Bool
  joins q j = active g j && not (mem j q) && eligible opt g j

  -- one that has joined is not among the others
  joins_more : (q : List ℕ) (d : ℕ) (js : List ℕ) → mem d js ≡ false → those (joins (q ++ d ∷ [])) js ≡ those (joins q) js
  unfolding mem
  joins_more q d js new = those_ext (joins (q ++ d ∷ [])) (joins q) js (λ k m. ap (λ (t : Bool). active g k && not t && eligible opt g k) (same k m))
    where
      same : (k : ℕ) → mem k js ≡ true → mem k (q ++ d ∷ []) ≡ mem k q
      same k m = cases (mem k q)
          (λ t. in_left k q (d ∷ []) t ∙ sym t)
          (λ t. out_both k q (d ∷ []) t (out_of_cons k d [] (differ js m new) refl) ∙ sym t)

  pub join_those : {n : ℕ} (js q : List ℕ) → Apart n js → join opt g js q ≡ q ++ those (joins q) js
  unfolding join those
  join_those [] q a = sym (append-nil q)
  join_those (j ∷ js) q a = by (joins q j) (join_those js q (apart_tail a)) (join_those js (q ++ j ∷ []) (apart_tail a))
    where
      by : (t : Bool) → join opt g js q ≡ q ++ those (joins q) js → join opt g js (q ++ j ∷ []) ≡ (q ++ j ∷ []) ++ those (joins (q ++ j ∷ [])) js
          → join opt g js (cond t (q ++ j ∷ []) q) ≡ q ++ cond t (j ∷ those (joins q) js) (those (joins q) js)
      by true skip more = more ∙ append_assoc q (j ∷ []) (those (joins (q ++ j ∷ [])) js) ∙ ap (λ (xs : List ℕ). q ++ j ∷ xs) (joins_more q j js (apart_new a))
      by false skip more = skip

  -- the neighbours join: those of a mask, less those who wait
  pub rejoined : (q : List ℕ) (near others r : ℕ) → these others ≡ those (λ k. not (mem k q)) (these near) → these r ≡ those (may_join opt g) (these others) → q ++ these r ≡ join opt g (these near) q
  rejoined q near others r f e =
      ap (λ (xs : List ℕ). q ++ xs)
      (e ∙ ap (those (may_join opt g)) f ∙ those_those (may_join opt g) (λ k. not (mem k q)) (these near)
      ∙ those_ext (λ k. not (mem k q) && may_join opt g k) (joins q) (these near) (λ k m. turn (active g k) (mem k q) (eligible opt g k)))
      ∙ sym (join_those (these near) q (these_apart near))
    where
      turn : (a b c : Bool) → (not b && (a && c)) ≡ (a && not b && c)
      turn true true c = refl
      turn true false c = refl
      turn false true c = refl
      turn false false c = refl

  -- nobody waits of another mask
  pub new_ones : (q : List ℕ) (near others r : ℕ) → these others ≡ those (λ k. not (mem k q)) (these near) → these r ≡ those (may_join opt g) (these others) → (k : ℕ) → mem k (these r) ≡ true → mem k q ≡ false
  new_ones q near others r f e k m =
      let in_less : mem k (these others) ≡ true = (in_those (may_join opt g) k (these others) (ap (mem k) (sym e) ∙ m)).0 in
      off_not (mem k q) ((in_those (λ j. not (mem j q)) k (these near) (ap (mem k) (sym f) ∙ in_less)).1)

  everyone : these 18446744073709551615 ≡ upto 64
  unfolding these those from
  everyone = refl

  -- a pass's queue, from everyone
  pub everyone_waits : (r : ℕ) → g.n ≤ 64 → these r ≡ those (λ k. ltb k g.n && may_join opt g k) (these 18446744073709551615) → these r ≡ waiting opt g
  unfolding waiting actives
  everyone_waits r few e =
      e ∙ ap (those inside) everyone
      ∙ ap (λ (c : ℕ). those inside (upto c)) (sym (add-sub_of_le few))
      ∙ those_upto inside g.n (64 - g.n) (λ k a b. ap (λ (t : Bool). t && may_join opt g k) (le-ltb k g.n a))
      ∙ those_ext inside (may_join opt g) (upto g.n) (λ k m. ap (λ (t : Bool). t && may_join opt g k) (lt-ltb k g.n (upto_in k g.n m)))
      ∙ sym (those_those (λ i. eligible opt g i) (λ i. active g i) (upto g.n))
    where
      inside : ℕ → Bool
      inside k = ltb k g.n && may_join opt g k
