-- Laws of the ring: the front, the back, how many wait, the mask.
-- Assumes nothing.
use Rattle.std.specs.Prelude.{ℕ, zero, suc, ◌+◌, ◌*◌, ◌-◌, ◌%◌, ◌^◌, ◌<◌, ◌≡◌, refl, List, [], ◌∷◌, ◌++◌, Bool, true, false, not, ◌&&◌, ◌||◌, eqb, get_or, set, length, drop}
use Rattle.std.proofs.Common.{ap, ap₂, sym, ◌∙◌, subst, add-one, arith, get_or-set_same, get_or-set_other, eqb-true}
use Rattle.std.proofs.Math.Bool.{and-true}
use Rattle.std.specs.Int.Bits.{bit_or}
use Rattle.whole.specs.Masks.{these, these_apart, without, mem_these, bit_or_lem, bit_less, bit_shifted}
use Rattle.whole.specs.Tests.{cases, clash, refuse}
use Rattle.whole.specs.Words.{mem, bit}
use Rattle.whole.specs.Pigeon.{Apart}
use Rattle.whole.specs.Members.{apart_new, apart_join, mem_append}
use Rattle.whole.specs.Counts.{less_one}
use Rattle.queue.specs.Items.{ring_from, items, QueueKept}
use Rattle.queue.specs.declared.Queue.TheInside.{Inside}

-- the place counts by its remainder alone
ring_mod : (n : ℕ) (r : List ℕ) (h k : ℕ) → h % 64 ≡ k % 64 → ring_from r h n ≡ ring_from r k n
unfolding ring_from
ring_mod zero r h k e = refl
ring_mod (suc n) r h k e = rw (e, ring_mod n r (suc h) (suc k) (omega arith))

-- the front, and the rest
ring_cons : (r : List ℕ) (h n : ℕ) → 0 < n → ring_from r h n ≡ get_or r (h % 64) 0 ∷ ring_from r (h + 1) (n - 1)
unfolding ring_from
ring_cons r h zero l = absurd (omega arith)
ring_cons r h (suc n) l = rw (add-one, less_one n)

pub ring_pop : (r : List ℕ) (h n : ℕ) → h < 64 → 0 < n → ring_from r h n ≡ get_or r h 0 ∷ ring_from r ((h + 1) % 64) (n - 1)
ring_pop r h n lh l =
    let e : h % 64 ≡ h = omega arith in
    rw (ring_cons r h n l, e, ring_mod (n - 1) r ((h + 1) % 64) (h + 1) (omega arith))

-- one more at the back
ring_push : (n : ℕ) (r : List ℕ) (h p d : ℕ) → length r ≡ 64 → n < 64 → p ≡ (h + n) % 64 → ring_from (set r p d) h (suc n) ≡ ring_from r h n ++ (d ∷ [])
unfolding ring_from
ring_push zero r h p d l b e =
    let q : h % 64 ≡ p = omega arith in
    rw (q, get_or-set_same r p d 0 (omega arith))
ring_push (suc n) r h p d l b e =
    let q : h % 64 ≡ p → ⊥ = λ x. omega arith in
    rw (get_or-set_other r p (h % 64) d 0 q, ring_push n r (suc h) p d l (omega arith) (omega arith))

pub ring_more : (n : ℕ) (r : List ℕ) (h d : ℕ) → length r ≡ 64 → n < 64 → ring_from (set r ((h + n) % 64) d) h (n + 1) ≡ ring_from r h n ++ (d ∷ [])
ring_more n r h d l b = rw add-one (ring_push n r h ((h + n) % 64) d l b refl)

-- the list has as many entries as the queue says
pub ring_length : (r : List ℕ) (h n : ℕ) → length (ring_from r h n) ≡ n
unfolding ring_from
ring_length r h zero = refl
ring_length r h (suc n) = ap suc (ring_length r (suc h) n)

-- the mask once the front d has gone. (1 << d is the mask of d alone)
pub shown_less : (w : ℕ) (xs : List ℕ) (d : ℕ) → d < 64 → Apart 64 (d ∷ xs) → ((k : ℕ) → k < 64 → bit w k ≡ mem k (d ∷ xs)) → (k : ℕ) → k < 64 → bit (without w (1 * 2 ^ d % 2 ^ 64)) k ≡ mem k xs
unfolding mem
shown_less w xs d l a h k lk =
    bit_less w (1 * 2 ^ d % 2 ^ 64) k ∙ ap₂ (λ (p q : Bool). p && not q) (h k lk) (bit_shifted d k l)
    ∙ cases (eqb k d)
    (λ e. rw e (sym (ap (λ (j : ℕ). mem j xs) (eqb-true k d e) ∙ apart_new a)))
    (λ e. rw e (and-true (mem k xs)))

-- and once the decisions of a mask have joined
pub shown_more : (w m : ℕ) (xs : List ℕ) → ((k : ℕ) → k < 64 → bit w k ≡ mem k xs) → (k : ℕ) → k < 64 → bit (bit_or w m) k ≡ mem k (xs ++ these m)
shown_more w m xs h k lk = bit_or_lem w m k ∙ ap₂ (λ (p q : Bool). p || q) (h k lk) (sym (mem_these m k lk)) ∙ sym (mem_append k xs (these m))

-- someone waits: the front and those behind it are different decisions
module _ (q : Inside) (p : QueueKept q) (l : 0 < q.len) where
  abbrev pub front : ℕ
  front = get_or q.places q.head 0

  abbrev pub others : List ℕ
  others = ring_from q.places ((q.head + 1) % 64) (q.len - 1)

  pub parts : items q ≡ front ∷ others
  parts = ring_pop q.places q.head q.len p.head l

  pub front_apart : Apart 64 (front ∷ others)
  front_apart = subst (Apart 64) parts p.apart

  pub behind_is : drop 1 (items q) ≡ others
  behind_is = ap (drop 1) parts

-- decisions that do not wait join: they and those that wait are different ones
pub joined_apart : (q : Inside) (m : ℕ) → QueueKept q → ((k : ℕ) → mem k (these m) ≡ true → mem k (items q) ≡ false) → Apart 64 (items q ++ these m)
joined_apart q m p new = apart_join p.apart (these_apart m) (λ k w. refuse (mem k (these m)) (λ j. clash w (new k j)))
