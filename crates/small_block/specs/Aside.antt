-- Who is set aside counts by membership alone: growing, and the search among components, are the same for two lists of the same decisions.
-- Assumes nothing.
use Rattle.std.specs.Prelude.{◌≡◌, refl, Bool, true, cond, not, ◌||◌, List, [], ◌∷◌, ◌++◌, ℕ, zero, suc, ◌^◌, ◌<◌, eqb}
use Rattle.std.proofs.Common.{sym, ap, ap₂, ◌∙◌, arith, eqb-true}
use Rattle.std.specs.Int.Bits.{bit_or}
use Rattle.whole.specs.Words.{bit, mem}
use Rattle.whole.specs.Tests.{same_test, or_true}
use Rattle.whole.specs.Members.{mem_append}
use Rattle.whole.specs.Masks.{these, mem_these, these_below, bit_or_lem, bit_single, those_ext}
use Rattle.rules.specs.SmallBlock.{Block, members, fresh, grow, component, small, among}

-- the same decisions
abbrev pub Same : List ℕ → List ℕ → Type 0
Same a b = (k : ℕ) → mem k a ≡ mem k b

pub same_append : (a b c : List ℕ) → Same a b → Same (a ++ c) (b ++ c)
same_append a b c h k = mem_append k a c ∙ ap (λ (t : Bool). t || mem k c) (h k) ∙ sym (mem_append k b c)

module _ (near : ℕ → List ℕ) (a b : List ℕ) (h : Same a b) where
  fresh_same : (found : List ℕ) (i : ℕ) → fresh near a found i ≡ fresh near b found i
  fresh_same found i = those_ext (λ w. not (mem w (a ++ found))) (λ w. not (mem w (b ++ found))) (near i) (λ k m. ap not (same_append a b found h k))

  grow_same : (f : ℕ) (old new : List ℕ) → grow near f a old new ≡ grow near f b old new
  unfolding grow
  grow_same zero old new = refl
  grow_same (suc f) old [] = refl
  grow_same (suc f) old (i ∷ new) =
      ap (λ (xs : List ℕ). grow near f a (old ++ i ∷ []) (new ++ xs)) (fresh_same (old ++ i ∷ new) i)
      ∙ grow_same f (old ++ i ∷ []) (new ++ fresh near b (old ++ i ∷ new) i)

  pub component_same : (s : ℕ) → component near a s ≡ component near b s
  component_same s = grow_same 64 [] (s ∷ [])

  pub among_same : (ss seen seen' : List ℕ) → Same seen seen' → among near a seen ss ≡ among near b seen' ss
  unfolding among
  among_same [] seen seen' e = refl
  among_same (s ∷ ss) seen seen' e =
      ap₂ (λ (t : Bool) (later : Block). cond t later (cond (small (component near a s)) (members (component near a s)) (among near a (seen ++ component near a s) ss))) (e s) (among_same ss seen seen' e)
      ∙ ap (λ (after : Block). cond (mem s seen') (among near b seen' ss) (cond (small (component near a s)) (members (component near a s)) after))
      (among_same ss (seen ++ component near a s) (seen' ++ component near a s) (same_append seen seen' (component near a s) e))
      ∙ ap (λ (c : List ℕ). cond (mem s seen') (among near b seen' ss) (cond (small c) (members c) (among near b (seen' ++ c) ss))) (component_same s)

-- c and the decisions of a mask, as one mask
pub with_same : (c m one : ℕ) → c < 64 → one ≡ 2 ^ c → Same (these (bit_or one m)) (c ∷ these m)
unfolding mem
with_same c m one h e k = same_test (mem k (these (bit_or one m))) (eqb k c || mem k (these m)) from to
  where
    shown : k < 64 → mem k (these (bit_or one m)) ≡ (eqb k c || mem k (these m))
    shown b = mem_these (bit_or one m) k b ∙ bit_or_lem one m k ∙ ap₂ (λ (x y : Bool). x || y) (ap (λ (z : ℕ). bit z k) e ∙ bit_single c k) (sym (mem_these m k b))

    from : mem k (these (bit_or one m)) ≡ true → (eqb k c || mem k (these m)) ≡ true
    from t = sym (shown (these_below (bit_or one m) k t)) ∙ t

    to : (eqb k c || mem k (these m)) ≡ true → mem k (these (bit_or one m)) ≡ true
    to t = shown (or_true (eqb k c) (mem k (these m)) t (λ q. let d : k ≡ c = eqb-true k c q in omega arith) (λ q. these_below m k q)) ∙ t
