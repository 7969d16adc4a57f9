-- The cut test by masks.
-- Assumes nothing.
use Rattle.std.specs.Prelude.{◌≡◌, Bool, true, false, not, ◌&&◌, List, [], ◌∷◌, ℕ, ◌<◌, get_or}
use Rattle.std.proofs.Common.{sym, ap, ap₂, ◌∙◌}
use Rattle.std.proofs.Math.Bool.{and-false}
use Rattle.whole.specs.Words.{bit, mem, some}
use Rattle.whole.specs.Tests.{not_on}
use Rattle.whole.specs.Masks.{these, without, mem_these, these_below, these_less, those_ext}
use Rattle.rules.specs.SmallBlock.{component, besides, is_cut}
use Rattle.cost_laws.specs.Growth.{Network, parted, free, cut_from_first}
use Rattle.small_block.specs.ByMasks.{near_by}
use Rattle.small_block.specs.Aside.{Same, component_same}

module _ (masks : List ℕ) (removed c : ℕ) (net : Network 64 (near_by masks)) (lc : c < 64) where
  abbrev near : ℕ → List ℕ
  near = near_by masks

  by_first : is_cut near (these removed) c ≡ (not (bit removed c) && parted near (c ∷ these removed) (besides near (these removed) c))
  by_first =
      cut_from_first 64 near net (these removed) c lc
      ∙ ap (λ (t : Bool). not t && parted near (c ∷ these removed) (besides near (these removed) c)) (mem_these removed c lc)

  -- a removed one is no cut
  pub cut_same : bit removed c ≡ true → false ≡ is_cut (near_by masks) (these removed) c
  cut_same e = sym (by_first ∙ ap (λ (t : Bool). t && parted near (c ∷ these removed) (besides near (these removed) c)) (not_on e))

  -- the neighbours but for the removed one, by masks
  pub less_removed : (around : ℕ) → around ≡ without (get_or masks c 0) removed → these around ≡ besides (near_by masks) (these removed) c
  less_removed around e = ap these e ∙ these_less (get_or masks c 0) removed
      ∙ those_ext (λ k. not (bit removed k)) (λ u. not (mem u (these removed))) (these (get_or masks c 0)) (λ k m. ap not (sym (mem_these removed k (these_below (get_or masks c 0) k m))))

  module _ (around : ℕ) (is : these around ≡ besides (near_by masks) (these removed) c) where
    pub cut_none : these around ≡ [] → false ≡ is_cut (near_by masks) (these removed) c
    cut_none e = sym (by_first ∙ ap (λ (xs : List ℕ). not (bit removed c) && parted near (c ∷ these removed) xs) (sym is ∙ e) ∙ and-false (not (bit removed c)))

    module _ (aside : ℕ) (same : Same (these aside) (c ∷ these removed)) where
      -- they are not set aside
      pub around_free : (k : ℕ) → mem k (these around) ≡ true → bit aside k ≡ false
      around_free k m = sym (mem_these aside k (these_below around k m)) ∙ same k ∙ (free 64 near net (these removed) c lc k (ap (mem k) (sym is) ∙ m)).1

      -- the test of all of them from the first
      pub cut_first : (first : ℕ) (later : List ℕ) → these around ≡ first ∷ later → bit removed c ≡ false → (r : Bool)
          → r ≡ some (λ v. not (mem v (component (near_by masks) (these aside) first))) (these around) → r ≡ is_cut (near_by masks) (these removed) c
      cut_first first later parts off r e =
          let apart = λ (xs : List ℕ). some (λ v. not (mem v (component near xs first))) (first ∷ later) in
          let reached = λ (xs : List ℕ). some (λ v. not (mem v xs)) (first ∷ later) in
          e ∙ ap (some (λ v. not (mem v (component near (these aside) first)))) parts
          ∙ ap reached (component_same near (these aside) (c ∷ these removed) same first)
          ∙ sym (by_first ∙ ap₂ (λ (t : Bool) (xs : List ℕ). not t && parted near (c ∷ these removed) xs) off (sym is ∙ parts))
