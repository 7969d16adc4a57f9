-- Loops that test each number of a range, or sort the states: one turn on.
-- Assumes nothing.
use Rattle.std.proofs.Common.{◌≡◌, refl, ap, ◌∙◌, Bool, true, false, ◌&&◌, cond, ℕ, ◌+◌, ◌-◌, ◌^◌, ◌<◌, ◌≤◌, ltb, bit_or, List, [], ◌∷◌, zero, suc, length, get_or, arith}
use Rattle.std.specs.List.{list_all}
use Rattle.whole.specs.Words.{from, all, bit}
use Rattle.whole.specs.Those.{from_more, from_end}
use Rattle.whole.specs.Masks.{bit_turn}
use Rattle.broken.specs.Masks.{Picks}

module _ (p : ℕ → Bool) (i n : ℕ) where
  pub all_turn : i < n → all p (from i (n - i)) ≡ (p i && all p (from (i + 1) (n - (i + 1))))
  unfolding all
  all_turn h = rw (from_more i n h)

  pub all_over : n ≤ i → all p (from i (n - i)) ≡ true
  unfolding all
  all_over h = rw (from_end i n h)

-- one that does not pass
pub one_fails : (p : ℕ → Bool) (l : List ℕ) (k : ℕ) → k < length l → p (get_or l k 0) ≡ false → list_all p l ≡ false
one_fails p [] k h e = absurd (omega arith)
one_fails p (x ∷ l) zero h e = rw e
one_fails p (x ∷ l) (suc k) h e = rw (one_fails p l k (omega arith) e) (none (p x))
  where
    none : (b : Bool) → (b && false) ≡ false
    none true = refl
    none false = refl

-- a mask of those below i that pass, with i put in where it passes
pub picked : (p : ℕ → Bool) (i m m' : ℕ) (t : Bool) → t ≡ p i → m' ≡ bit_or m (cond t (2 ^ i) 0) → Picks m (λ j. ltb j i && p j) → Picks m' (λ j. ltb j (i + 1) && p j)
picked p i m m' t e f h j = ap (λ (x : ℕ). bit x j) (f ∙ ap (λ (b : Bool). bit_or m (cond b (2 ^ i) 0)) e) ∙ bit_turn p i m j (h j)
