-- The mask of the decisions of the steps so far.
-- Assumes nothing.
use mathlib.Core.Path.{◌≡◌, refl, sym, ap, ap₂, ◌∙◌}
use mathlib.Core.Bool.{Bool, true, false, not, ◌&&◌, ◌||◌, and_assoc, or-false, not-not}
use mathlib.Core.List.{[], ◌∷◌, ◌++◌, map, map-append}
use Prim.Native.Nat.{ℕ, suc, ◌+◌, ◌^◌, ◌<◌}
use native.Mathlib.Omega.{arith}
use native.Mathlib.Nat.{zero-add}
use lib.Bits.{bit_or}
use lib.Dec.{ltb, leb, eqb}
use lib.ListN.{drop}
use borrow.Author.Tests.{lt-ltb, ltb-true}
use Rattle.whole.specs.Words.{bit, from, upto, mem, all, all_of}
use Rattle.whole.specs.Those.{from_last}
use Rattle.whole.specs.Members.{mem_append}
use Rattle.whole.specs.Masks.{without, bit_or_lem, bit_less, bit_none, bit_single, none_passes}
use Rattle.whole.specs.Tests.{and-true}
use Rattle.rules.specs.Record.{state_at, step_at, decided, ascending, near_of, near_fine, choice_limit, step_fine, stepped}
use Rattle.rules.specs.declared.Step.{Step}
use Rattle.rules.specs.declared.Record.{Record}
use Rattle.broken.specs.Masks.{alone, Picks, MasksOf, step_asked}
use Rattle.broken.proofs.Places.{three_places}

-- the mask shows the decisions of the first k steps
abbrev pub HasDecided : Record → ℕ → ℕ → Type 0
HasDecided r k m = Picks m (λ j. mem j (decided r k))

pub decided_none : (r : Record) → HasDecided r 0 0
unfolding mem from
decided_none r j = bit_none j

under : (x : Bool) {a b : Bool} → (x ≡ true → a ≡ b) → (x && a) ≡ (x && b)
under true h = h refl
under false h = refl

turned : (x y : Bool) → not (x && not y) ≡ (not x || y)
turned true y = not-not y
turned false y = refl

-- the tests of a step's neighbours and of what is unused
abbrev tests : Step → (ℕ → Bool) → Bool
tests s p = all_of (
    leb s.degree 3
    ∷ ascending (near_of s)
    ∷ all p (near_of s)
    ∷ all (λ b. eqb b 0) (drop s.degree (s.first ∷ s.second ∷ s.third ∷ []))
    ∷ ltb s.choices (choice_limit s.degree)
    ∷ [])

module _ (r : Record) (k m : ℕ) (h : HasDecided r k m) where
  abbrev d : ℕ
  d = (step_at r k).decision

  -- one step more
  pub decided_more : d < 64 → HasDecided r (suc k) (bit_or m (alone d))
  unfolding mem
  decided_more l j =
      let f : ℕ → ℕ = λ i. (step_at r i).decision in
      let e : decided r (suc k) ≡ (decided r k ++ (d ∷ [])) = ap (map f) (from_last 0 k) ∙ map-append f (upto k) ((0 + k) ∷ []) ∙ ap (λ (i : ℕ). decided r k ++ (f i ∷ [])) (zero-add k) in
      let b : bit (alone d) j ≡ (eqb j d || false) = rw (lt-ltb d 64 l) (bit_single d j ∙ sym (or-false (eqb j d))) in
      bit_or_lem m (alone d) j ∙ ap₂ (λ (x y : Bool). x || y) (h j) b ∙ sym (ap (mem j) e ∙ mem_append j (decided r k) (d ∷ []))

  module _ {u e : ℕ} (g : MasksOf r u e) where
    -- the eliminated that no step so far has
    due : Picks (without e m) (λ j. ltb j r.n && (eqb (state_at r j) 3 && not (mem j (decided r k))))
    due j = bit_less e m j ∙ ap₂ (λ (x y : Bool). x && not y) (g.eliminated j) (h j) ∙ and_assoc (ltb j r.n) (eqb (state_at r j) 3) (not (mem j (decided r k)))

    -- those that may be neighbours
    free : d < 64 → Picks (without u (bit_or m (alone d))) (near_fine r k)
    free l j = bit_less u (bit_or m (alone d)) j ∙ ap₂ (λ (x y : Bool). x && not y) (g.unfixed j) (decided_more l j)

    below : (t : Bool) → (ltb d r.n && t) ≡ true → d < 64
    below t h = omega (arith, g.low, ltb-true d r.n (and-true (ltb d r.n) t h).0)

    pub low_decision : step_fine r k ≡ true → d < 64
    unfolding step_fine all_of
    low_decision h = below _ h

    -- the tests of step k, all of masks
    pub step_asked_lem : step_asked (without e m) (without u (bit_or m (alone d))) (step_at r k) ≡ step_fine r k
    unfolding step_fine all_of
    step_asked_lem =
        let s = step_at r k in
        let f = without u (bit_or m (alone d)) in
        let c = ltb s.choices (choice_limit s.degree) in
        under (bit (without e m) d) (λ t.
        three_places (bit f) s.first s.second s.third c s.degree ∙ ap (tests s) (λ i j. free (below _ (sym (due d) ∙ t)) j i))
        ∙ ap (λ (b : Bool). b && tests s (near_fine r k)) (due d) ∙ simp and_assoc

    -- at the end: each eliminated decision is some step's
    pub all_stepped : (x : ℕ) → x ≡ without e m → x < 2 ^ 64 → k ≡ r.count → eqb x 0 ≡ all (stepped r) (upto r.n)
    all_stepped x w l q =
        none_passes (λ j. eqb (state_at r j) 3 && not (mem j (decided r k))) r.n x l (λ j. ap (λ (y : ℕ). bit y j) w ∙ due j)
        ∙ ap (λ (p : ℕ → Bool). all p (upto r.n)) (λ i j. (turned (eqb (state_at r j) 3) (mem j (decided r k)) ∙ ap (λ (c : ℕ). not (eqb (state_at r j) 3) || mem j (decided r c)) q) i)
