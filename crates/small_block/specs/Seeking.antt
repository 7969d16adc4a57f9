-- The loops of the search by masks: what holds at each turn.
-- Assumes nothing.
use Rattle.std.specs.Prelude.{◌≡◌, Bool, ◌||◌, ℕ, ◌<◌}
use Rattle.std.proofs.Math.Path.{refl, sym, ap}
use Rattle.std.proofs.Common.{ap₂, ◌∙◌}
use Rattle.std.proofs.Math.Bool.{true, false, cond}
use mathlib.Core.List.{List, [], ◌∷◌, ◌++◌}
use Rattle.std.specs.Int.Bits.{bit_or}
use Rattle.whole.specs.Words.{bit, mem, those}
use Rattle.rules.specs.SmallBlock.{Block, component, is_cut, none, members, small, or_else, among, over_cuts, over_removed, search}
use Rattle.whole.specs.Tests.{clash, refuse, same_test, or_true, or_left, or_right}
use Rattle.whole.specs.Members.{in_append, in_left, in_right}
use Rattle.whole.specs.Masks.{these, bit_or_lem}
use Rattle.whole.specs.Walks.{item_below}
use Rattle.small_block.specs.Explored.{GrownAs}

-- ---- among the components
-- the decisions of `rest` are still to be looked at; `past` has been seen
pub record Seeking (near : ℕ → List ℕ) (aside live : List ℕ) (rest seen : ℕ) : Type 0 where
  pub past : List ℕ
  pub leads : among near aside aside live ≡ among near aside past (these rest)
  pub marks : (k : ℕ) → k < 64 → bit seen k ≡ mem k past
  pub holds : (k : ℕ) → mem k aside ≡ true → mem k past ≡ true

module _ {near : ℕ → List ℕ} {aside live : List ℕ} {rest seen : ℕ} (w : Seeking near aside live rest seen) where
  pub seek_none : these rest ≡ [] → none ≡ among near aside aside live
  unfolding among
  seek_none e = sym (w.leads ∙ ap (among near aside w.past) e)

  -- s is the next, and `later` those after it
  module _ (s later : ℕ) (parts : these rest ≡ s ∷ these later) where
    seek_step : among near aside aside live
        ≡ cond (mem s w.past) (among near aside w.past (these later))
        (cond (small (component near aside s)) (members (component near aside s)) (among near aside (w.past ++ component near aside s) (these later)))
    unfolding among
    seek_step = w.leads ∙ ap (among near aside w.past) parts

    seen_past : (t : Bool) → bit seen s ≡ t → mem s w.past ≡ t
    seen_past t e = sym (w.marks s (item_below rest s (these later) parts)) ∙ e

    pub seek_skip : bit seen s ≡ true → Seeking near aside live later seen
    seek_skip e = record {
      past = w.past;
      leads = seek_step ∙ rw (seen_past true e);
      marks = w.marks;
      holds = w.holds;
    }

    module _ (e : bit seen s ≡ false) where
      pub seek_free : mem s aside ≡ false
      seek_free = refuse (mem s aside) (λ t. clash (w.holds s t) (seen_past false e))

      module _ (found : List ℕ) (mask : ℕ) (g : GrownAs near aside s found mask) where
        pub seek_found : small found ≡ true → members found ≡ among near aside aside live
        seek_found t = ap members g.is ∙ sym (seek_step ∙ rw (seen_past false e, ← g.is, t))

        pub seek_on : small found ≡ false → Seeking near aside live later (bit_or seen mask)
        seek_on t = record {
          past = w.past ++ found;
          leads = seek_step ∙ rw (seen_past false e, ← g.is, t);
          marks = λ k b. bit_or_lem seen mask k ∙ ap₂ (λ (x y : Bool). x || y) (w.marks k b) (g.marks k b) ∙ merged k;
          holds = λ k m. in_left k w.past found (w.holds k m);
        }
          where
            merged : (k : ℕ) → (mem k w.past || mem k (aside ++ found)) ≡ mem k (w.past ++ found)
            merged k = same_test (mem k w.past || mem k (aside ++ found)) (mem k (w.past ++ found))
                (λ t. or_true (mem k w.past) (mem k (aside ++ found)) t
                (λ z. in_left k w.past found z)
                (λ z. in_append k aside found z
                (λ y. in_left k w.past found (w.holds k y))
                (λ y. in_right k w.past found y)))
                (λ t. in_append k w.past found t
                (λ z. or_left (mem k (aside ++ found)) z)
                (λ z. or_right (mem k w.past) (in_right k aside found z)))

-- ---- the first of some decisions for which there is a block
unfoldable pub first_of : (ℕ → Block) → List ℕ → Block
first_of f [] = none
first_of f (x ∷ xs) = or_else (f x) (first_of f xs)

module _ (near : ℕ → List ℕ) (live : List ℕ) where
  abbrev pub at_cut : List ℕ → ℕ → Block
  at_cut removed c = among near (c ∷ removed) (c ∷ removed) live

  pub over_cuts_lem : (removed cs : List ℕ) → over_cuts near live removed cs ≡ first_of (at_cut removed) (those (is_cut near removed) cs)
  unfolding over_cuts first_of those
  over_cuts_lem removed [] = refl
  over_cuts_lem removed (c ∷ cs) = go (is_cut near removed c) (over_cuts_lem removed cs)
    where
      go : (t : Bool) → over_cuts near live removed cs ≡ first_of (at_cut removed) (those (is_cut near removed) cs)
          → cond t (or_else (at_cut removed c) (over_cuts near live removed cs)) (over_cuts near live removed cs) ≡ first_of (at_cut removed) (cond t (c ∷ those (is_cut near removed) cs) (those (is_cut near removed) cs))
      go true r = ap (or_else (at_cut removed c)) r
      go false r = r

  pub over_removed_lem : (rs : List ℕ) → over_removed near live rs ≡ first_of (λ r. over_cuts near live (r ∷ []) live) rs
  unfolding over_removed first_of
  over_removed_lem [] = refl
  over_removed_lem (r ∷ rs) = ap (or_else (over_cuts near live (r ∷ []) live)) (over_removed_lem rs)

-- x is the next, and `later` those after it: there is a block for it, or the search goes on
module _ (f : ℕ → Block) (xs : List ℕ) where
  pub first_none : xs ≡ [] → none ≡ first_of f xs
  unfolding first_of
  first_none e = sym (ap (first_of f) e)

  module _ (x : ℕ) (later : List ℕ) (parts : xs ≡ x ∷ later) where
    first_step : first_of f xs ≡ or_else (f x) (first_of f later)
    unfolding first_of
    first_step = ap (first_of f) parts

    pub first_found : (m : List ℕ) → members m ≡ f x → members m ≡ first_of f xs
    first_found m e = sym (first_step ∙ ap (λ (b : Block). or_else b (first_of f later)) (sym e))

    pub first_on : none ≡ f x → first_of f xs ≡ first_of f later
    first_on e = first_step ∙ ap (λ (b : Block). or_else b (first_of f later)) (sym e)

-- ---- none removed first
pub search_lem : (near : ℕ → List ℕ) (live : List ℕ) → search near live ≡ or_else (over_cuts near live [] live) (first_of (λ r. over_cuts near live (r ∷ []) live) live)
unfolding search
search_lem near live = ap (or_else (over_cuts near live [] live)) (over_removed_lem near live live)
