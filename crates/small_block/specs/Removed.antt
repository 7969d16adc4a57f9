-- The cut test with the removed decision as a mask: of one decision, or of nobody.
-- Assumes nothing.
use Rattle.std.specs.Prelude.{◌≡◌, refl, Bool, true, false, cond, not, List, [], ◌∷◌, ℕ, ◌^◌, ◌<◌}
use Rattle.std.proofs.Common.{sym, ap, ap₂, ◌∙◌}
use Rattle.std.specs.Int.Bits.{bit_or}
use Rattle.whole.specs.Words.{bit, mem, those, some}
use Rattle.whole.specs.Members.{in_head}
use Rattle.whole.specs.Masks.{these, without, mem_these, these_below, these_less, these_none, those_ext}
use Rattle.whole.specs.Walks.{these_single}
use Rattle.rules.specs.SmallBlock.{component, besides, is_cut}
use Rattle.cost_laws.specs.Growth.{Network, free}
use Rattle.small_block.specs.ByMasks.{near_by}
use Rattle.small_block.specs.Aside.{with_same, component_same}
use Rattle.small_block.specs.Cutting as by

pub removed_is : (r : ℕ) → r < 64 → these (2 ^ r) ≡ r ∷ []
removed_is r l = these_single r l

pub removed_none : these 0 ≡ []
removed_none = these_none

pub not_removed : (c removed : ℕ) → c < 64 → bit removed c ≡ false → mem c (these removed) ≡ false
not_removed c removed l e = mem_these removed c l ∙ e

-- the neighbours but for the removed one, by masks
pub less_removed : (a removed : ℕ) → these (without a removed) ≡ those (λ u. not (mem u (these removed))) (these a)
less_removed a removed = these_less a removed
    ∙ those_ext (λ k. not (bit removed k)) (λ u. not (mem u (these removed))) (these a) (λ k m. ap not (sym (mem_these removed k (these_below a k m))))

those_all : (p : ℕ → Bool) (xs : List ℕ) → ((k : ℕ) → p k ≡ true) → those p xs ≡ xs
unfolding those
those_all p [] h = refl
those_all p (x ∷ xs) h = ap₂ (λ (b : Bool) (ys : List ℕ). cond b (x ∷ ys) (those p xs)) (h x) (those_all p xs h)

pub all_stay : (a : ℕ) → these a ≡ those (λ u. not (mem u (these 0))) (these a)
unfolding mem
all_stay a = sym (those_all (λ u. not (mem u (these 0))) (these a) (λ k. ap (λ (xs : List ℕ). not (mem k xs)) these_none))

module _ (masks : List ℕ) (removed c : ℕ) (net : Network 64 (near_by masks)) (lc : c < 64) (around : ℕ) (is : these around ≡ besides (near_by masks) (these removed) c)
    (first : ℕ) (later : List ℕ) (parts : these around ≡ first ∷ later) where
  pub first_free : (first < 64) × (mem first (c ∷ these removed) ≡ false)
  first_free = free 64 (near_by masks) net (these removed) c lc first (ap (mem first) (sym is ∙ parts) ∙ in_head first later)

  -- the neighbours but for the removed one are not set aside
  pub around_free : (k : ℕ) → mem k (these around) ≡ true → mem k (c ∷ these removed) ≡ false
  around_free k m = (free 64 (near_by masks) net (these removed) c lc k (ap (mem k) (sym is) ∙ m)).1

  -- the test of all of them from the first
  pub cut_first : bit removed c ≡ false → (r : Bool) → r ≡ some (λ v. not (mem v (component (near_by masks) (c ∷ these removed) first))) (these around)
      → r ≡ is_cut (near_by masks) (these removed) c
  cut_first off r e =
      let aside : ℕ = bit_or (2 ^ c) removed in
      let same = with_same c removed (2 ^ c) lc refl in
      by.cut_first masks removed c net lc around is aside same first later parts off r
      (e ∙ ap (λ (xs : List ℕ). some (λ v. not (mem v xs)) (these around)) (sym (component_same (near_by masks) (these aside) (c ∷ these removed) same first)))
