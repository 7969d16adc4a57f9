-- Growing a component by masks: what holds at each turn.
-- Assumes nothing.
use Rattle.std.specs.Prelude.{◌≡◌, Bool, false, not, ◌||◌, eqb, length, get_or, take, drop}
use Rattle.std.proofs.Math.Path.{refl, sym, ap, ap₂, subst}
use Rattle.std.proofs.Math.Bool.{or-false}
use Rattle.std.proofs.Common.{◌∙◌, arith, take-append-drop, take-suc, drop-cons}
use mathlib.Core.List.{List, [], ◌∷◌, ◌++◌, append_assoc}
use Prim.Native.Nat.{ℕ, suc, ◌+◌, ◌-◌, ◌^◌, ◌<◌, ◌≤◌}
use Rattle.std.proofs.Math.Numerals.{add-one}
use Rattle.std.specs.Int.Bits.{bit_or}
use Rattle.std.proofs.lemmas.List.{take-append-le, drop-append-le}
use Rattle.std.proofs.Math.Seq.{take-length, drop-length}
use Rattle.whole.specs.Words.{bit, mem}
use Rattle.rules.specs.SmallBlock.{fresh, grow, component}
use Rattle.whole.specs.Pigeon.{Apart, pigeon}
use Rattle.whole.specs.Members.{mem_append}
use Rattle.cost_laws.specs.Growth.{Network, Growing, grow_begins, grow_turn}
use Rattle.cost_laws.specs.Turns.{idle_turns}
use Rattle.whole.specs.Masks.{these, without, bit_or_lem, bit_single, mem_these, these_below, these_less, those_ext}
use Rattle.whole.specs.Counts.{one_left}
use Rattle.small_block.specs.ByMasks.{near_by}

-- a component, as the code has it, with a mask of it and of what is set aside
pub record GrownAs (near : ℕ → List ℕ) (aside : List ℕ) (seed : ℕ) (found : List ℕ) (seen : ℕ) : Type 0 where
  pub is : found ≡ component near aside seed
  pub marks : (k : ℕ) → k < 64 → bit seen k ≡ mem k (aside ++ found)

-- l has been found, and its first `done` have been gone through
pub record Explored (near : ℕ → List ℕ) (aside : List ℕ) (seed : ℕ) (l : List ℕ) (done seen : ℕ) : Type 0 where
  pub growing : Growing 64 near aside (take done l) (drop done l)
  pub leads : component near aside seed ≡ grow near (64 - done) aside (take done l) (drop done l)
  pub marks : (k : ℕ) → k < 64 → bit seen k ≡ mem k (aside ++ l)

-- the seed has been found
pub explored_begins : (near : ℕ → List ℕ) (net : Network 64 near) (aside : List ℕ) (seed mask one : ℕ) (l : List ℕ) → seed < 64 → mem seed aside ≡ false → ((k : ℕ) → k < 64 → bit mask k ≡ mem k aside)
    → one ≡ 2 ^ seed → l ≡ seed ∷ [] → Explored near aside seed l 0 (bit_or mask one)
unfolding mem
explored_begins near net aside seed mask one l b m h e is = subst (λ (xs : List ℕ). Explored near aside seed xs 0 (bit_or mask one)) (sym is) (record {
  growing = grow_begins 64 near net aside seed b m;
  leads = refl;
  marks = λ k lk. bit_or_lem mask one k ∙ ap₂ (λ (x y : Bool). x || y) (h k lk) (ap (λ (z : ℕ). bit z k) e ∙ bit_single seed k ∙ sym (or-false (eqb k seed))) ∙ sym (mem_append k aside (seed ∷ []));
})

module _ {near : ℕ → List ℕ} {aside : List ℕ} {seed : ℕ} {l : List ℕ} {done seen : ℕ} (w : Explored near aside seed l done seen) where
  pub explored_apart : Apart 64 l
  explored_apart = subst (λ (xs : List ℕ). Apart 64 xs) (take-append-drop done l) w.growing.apart

  pub explored_few : length l ≤ 64
  explored_few = pigeon 64 explored_apart

  -- nothing is left to go through
  pub explored_end : length l ≡ done → l ≡ component near aside seed
  explored_end e =
      sym (w.leads ∙ ap₂ (λ (xs ys : List ℕ). grow near (64 - done) aside xs ys)
      (ap (λ (k : ℕ). take k l) (sym e) ∙ take-length l) (ap (λ (k : ℕ). drop k l) (sym e) ∙ drop-length l) ∙ idle_turns near aside (64 - done) l)

  module _ (net : Network 64 near) (h : done < length l) where
    abbrev at : ℕ
    at = get_or l done 0

    abbrev more : List ℕ
    more = fresh near aside l at

    parts : take done l ++ at ∷ drop (suc done) l ≡ l
    parts = ap (λ (xs : List ℕ). take done l ++ xs) (sym (drop-cons l done 0 h)) ∙ take-append-drop done l

    old_next : take done l ++ at ∷ [] ≡ take (suc done) (l ++ more)
    old_next = sym (take-append-le (suc done) l more h ∙ take-suc l done 0 h)

    new_next : drop (suc done) l ++ more ≡ drop (suc done) (l ++ more)
    new_next = sym (drop-append-le (suc done) l more h)

    pub explored_turn : (new : ℕ) → ((k : ℕ) → k < 64 → bit new k ≡ mem k more) → Explored near aside seed (l ++ more) (done + 1) (bit_or seen new)
    unfolding grow
    explored_turn new marks' = rw add-one (record {
      growing =
          subst (λ (xs : List ℕ). Growing 64 near aside xs (drop (suc done) (l ++ more))) old_next
          (subst (λ (ys : List ℕ). Growing 64 near aside (take done l ++ at ∷ []) ys) new_next
          (subst (λ (xs : List ℕ). Growing 64 near aside (take done l ++ at ∷ []) (drop (suc done) l ++ fresh near aside xs at)) parts
          (grow_turn 64 near net aside (take done l) (drop (suc done) l) at
          (subst (λ (ys : List ℕ). Growing 64 near aside (take done l) ys) (drop-cons l done 0 h) w.growing))));
      leads =
          w.leads
          ∙ ap₂ (λ (f : ℕ) (ys : List ℕ). grow near f aside (take done l) ys) fuel (drop-cons l done 0 h)
          ∙ ap (λ (xs : List ℕ). grow near (64 - suc done) aside (take done l ++ at ∷ []) (drop (suc done) l ++ fresh near aside xs at)) parts
          ∙ ap₂ (λ (xs ys : List ℕ). grow near (64 - suc done) aside xs ys) old_next new_next;
      marks = λ k b. bit_or_lem seen new k ∙ ap₂ (λ (p q : Bool). p || q) (w.marks k b) (marks' k b)
          ∙ sym (ap (mem k) (sym (append_assoc aside l more)) ∙ mem_append k (aside ++ l) more);
    })
      where
        fuel : 64 - done ≡ suc (64 - suc done)
        fuel = one_left 64 done (omega (arith, explored_few)) ∙ ap (λ (k : ℕ). suc (64 - k)) (add-one done)

-- by masks: what a turn finds is the bits of the mask that are not seen
module _ (masks : List ℕ) {aside : List ℕ} {seed : ℕ} {l : List ℕ} {done seen : ℕ} (w : Explored (near_by masks) aside seed l done seen) (i : ℕ) where
  abbrev found : ℕ
  found = without (get_or masks i 0) seen

  pub found_fresh : these found ≡ fresh (near_by masks) aside l i
  found_fresh = these_less (get_or masks i 0) seen ∙ those_ext (λ k. not (bit seen k)) (λ k. not (mem k (aside ++ l))) (these (get_or masks i 0))
      (λ k m. ap not (w.marks k (these_below (get_or masks i 0) k m)))

  pub found_marks : (k : ℕ) → k < 64 → bit found k ≡ mem k (fresh (near_by masks) aside l i)
  found_marks k b = sym (mem_these found k b) ∙ ap (mem k) found_fresh

-- a turn, as the code makes it: i is gone through
pub explored_next : (masks : List ℕ) {aside : List ℕ} {seed : ℕ} {l : List ℕ} {done seen : ℕ} → Explored (near_by masks) aside seed l done seen → Network 64 (near_by masks) → done < length l
    → (i new : ℕ) → i ≡ get_or l done 0 → new ≡ without (get_or masks i 0) seen → Explored (near_by masks) aside seed (l ++ these new) (done + 1) (bit_or seen new)
explored_next masks {aside} {seed} {l} {done} {seen} w net h i new here is =
    let fresh_at : these new ≡ fresh (near_by masks) aside l (get_or l done 0) = ap these is ∙ found_fresh masks w i ∙ ap (fresh (near_by masks) aside l) here in
    subst (λ (xs : List ℕ). Explored (near_by masks) aside seed (l ++ xs) (done + 1) (bit_or seen new)) (sym fresh_at)
    (explored_turn w net h new (λ k b. ap (λ (m : ℕ). bit m k) is ∙ found_marks masks w i k b ∙ ap (λ (j : ℕ). mem k (fresh (near_by masks) aside l j)) here))
