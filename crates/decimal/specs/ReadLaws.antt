-- What the readers' definitions say of a text t at a place, as a reader's code meets it there.
-- Assumes nothing.
use Rattle.std.specs.Prelude.{◌≡◌, refl, Bool, true, false, cond, List, [], ◌∷◌, ℕ, ◌+◌, ◌*◌, ◌-◌, ◌^◌, ◌<◌, ◌≤◌, zero, suc, length, take, drop, leb, eqb, pos, neg_ℤ}
use Rattle.std.proofs.Common.{◌∙◌, add-one, drop_of_length-le, drop-cons}
use native.Mathlib.Omega.{arith}
use Rattle.std.proofs.Math.ListN.{get_or}
use borrow.Author.Tests.{le-leb, lt-leb, leb-true, eqb-true, eq-eqb, ne_eqb}
use Rattle.std.specs.Cmp.Lexicographic.{pointwise}
use Rattle.whole.specs.Tests.{clash, and-true, and_both}
use Rattle.rules.specs.ReadText.{got, bad, turned, digit, digits, closed, number, weight}

pub digit_bounds : (b : ℕ) → digit b ≡ true → (48 ≤ b) × (b ≤ 57)
digit_bounds b h = let t = and-true (leb 48 b) (leb b 57) h in (leb-true 48 b t.0, leb-true b 57 t.1)

-- a value of digits is no less than the value before them
stop_or_go : (max end v b : ℕ) (s : List ℕ) (t : Bool) → max < v → closed max end (digits (10 * v + (b - 48)) s) ≡ bad
    → closed max end (cond t (digits (10 * v + (b - 48)) s) (got v (b ∷ s))) ≡ bad
stop_or_go max end v b s true h k = k
stop_or_go max end v b s false h k = rw (lt-leb v max h)

pub too_large : (max end v : ℕ) (s : List ℕ) → max < v → closed max end (digits v s) ≡ bad
unfolding digits
too_large max end v [] h = refl
too_large max end v (b ∷ s) h = stop_or_go max end v b s (digit b) h (too_large max end (10 * v + (b - 48)) s (omega arith))

module _ (max end : ℕ) (t : List ℕ) where
  -- at the text's end
  pub number_end : (at : ℕ) → length t ≤ at → number max end (drop at t) ≡ bad
  unfolding number
  number_end at h = rw (drop_of_length-le t h)

  pub digits_end : (v i : ℕ) → length t ≤ i → closed max end (digits v (drop i t)) ≡ bad
  unfolding digits
  digits_end v i h = rw (drop_of_length-le t h)

  -- the first byte
  pub number_none : (at : ℕ) → at < length t → digit (get_or t at 0) ≡ false → number max end (drop at t) ≡ bad
  unfolding number
  number_none at h k = rw (drop-cons t at 0 h, k)

  pub number_begins : (at : ℕ) → at < length t → digit (get_or t at 0) ≡ true → number max end (drop at t) ≡ closed max end (digits 0 (drop at t))
  unfolding number digits
  number_begins at h k = let e : 10 * 0 + (get_or t at 0 - 48) ≡ get_or t at 0 - 48 = omega arith in rw (drop-cons t at 0 h, k, e)

  -- the byte at i, after digits of the value v
  module _ (v i : ℕ) (h : i < length t) where
    pub digits_more : digit (get_or t i 0) ≡ true → closed max end (digits v (drop i t)) ≡ closed max end (digits (10 * v + (get_or t i 0 - 48)) (drop (i + 1) t))
    unfolding digits
    digits_more k = rw (drop-cons t i 0 h, k, add-one)

    pub digits_closed : digit (get_or t i 0) ≡ false → v ≤ max → get_or t i 0 ≡ end → closed max end (digits v (drop i t)) ≡ got v (drop (i + 1) t)
    unfolding digits
    digits_closed k l e = rw (drop-cons t i 0 h, k, le-leb v max l, eq-eqb (get_or t i 0) end e, add-one)

    pub digits_other : digit (get_or t i 0) ≡ false → v ≤ max → (get_or t i 0 ≡ end → ⊥) → closed max end (digits v (drop i t)) ≡ bad
    unfolding digits
    digits_other k l n = rw (drop-cons t i 0 h, k, le-leb v max l, ne_eqb (get_or t i 0) end n)

-- how far the number at the front of the text t is read: i bytes are digits, of the value v
pub record SoFar (max end : ℕ) (t : List ℕ) (i v : ℕ) : Type 0 where
  pub none : i ≡ 0 → v ≡ 0
  pub some : 0 < i → number max end t ≡ closed max end (digits v (drop i t))

pub so_far_start : (max end : ℕ) (t : List ℕ) → SoFar max end t 0 0
so_far_start max end t = record { none = λ h. refl; some = λ h. absurd (omega arith) }

module _ (max end : ℕ) (t : List ℕ) where
  -- the text is at its end
  pub so_far_end : (i v : ℕ) → SoFar max end t i v → length t ≤ i → number max end t ≡ bad
  so_far_end zero v f h = number_end max end t 0 h
  so_far_end (suc k) v f h = f.some (omega arith) ∙ digits_end max end t v (suc k) h

  -- the byte at i is a digit
  so_far_begun : (i v : ℕ) → SoFar max end t i v → i < length t → digit (get_or t i 0) ≡ true → number max end t ≡ closed max end (digits v (drop i t))
  so_far_begun zero v f h d = rw (f.none refl) (number_begins max end t 0 h d)
  so_far_begun (suc k) v f h d = f.some (omega arith)

  module _ (i v : ℕ) (f : SoFar max end t i v) (h : i < length t) where
    so_far_digit : digit (get_or t i 0) ≡ true → number max end t ≡ closed max end (digits (10 * v + (get_or t i 0 - 48)) (drop (i + 1) t))
    so_far_digit d = so_far_begun i v f h d ∙ digits_more max end t v i h d

    pub so_far_more : digit (get_or t i 0) ≡ true → SoFar max end t (i + 1) (10 * v + (get_or t i 0 - 48))
    so_far_more d = record { none = λ e. absurd (omega arith); some = λ o. so_far_digit d }

    pub so_far_large : digit (get_or t i 0) ≡ true → max < 10 * v + (get_or t i 0 - 48) → number max end t ≡ bad
    so_far_large d l = so_far_digit d ∙ too_large max end _ (drop (i + 1) t) l

    -- it is none
    pub so_far_none : digit (get_or t i 0) ≡ false → i ≡ 0 → number max end t ≡ bad
    so_far_none d e = number_none max end t 0 (rw e at h) (rw e at d)

    module _ (d : digit (get_or t i 0) ≡ false) (o : 0 < i) where
      pub so_far_above : max < v → number max end t ≡ bad
      so_far_above l = f.some o ∙ too_large max end v (drop i t) l

      pub so_far_closed : v ≤ max → get_or t i 0 ≡ end → number max end t ≡ got v (drop (i + 1) t)
      so_far_closed l e = f.some o ∙ digits_closed max end t v i h d l e

      pub so_far_other : v ≤ max → (get_or t i 0 ≡ end → ⊥) → number max end t ≡ bad
      so_far_other l n = f.some o ∙ digits_other max end t v i h d l n

module _ (end : ℕ) (t : List ℕ) where
  pub weight_end : (at : ℕ) → length t ≤ at → weight end (drop at t) ≡ bad
  unfolding weight
  weight_end at h = rw (drop_of_length-le t h)

  pub weight_minus : (at : ℕ) → at < length t → get_or t at 0 ≡ 45 → weight end (drop at t) ≡ turned (λ v. neg_ℤ (pos v)) (number (2 ^ 63) end (drop (at + 1) t))
  unfolding weight
  weight_minus at h e = rw (drop-cons t at 0 h, eq-eqb (get_or t at 0) 45 e, add-one)

  pub weight_plain : (at : ℕ) → at < length t → (get_or t at 0 ≡ 45 → ⊥) → weight end (drop at t) ≡ turned pos (number (2 ^ 63 - 1) end (drop at t))
  unfolding weight
  weight_plain at h n = rw (drop-cons t at 0 h, ne_eqb (get_or t at 0) 45 n)

-- by what the text begins with
module _ (end : ℕ) where
  pub minus_first : (t : List ℕ) → pointwise eqb (take 1 t) (45 ∷ []) ≡ true → weight end t ≡ turned (λ v. neg_ℤ (pos v)) (number (2 ^ 63) end (drop 1 t))
  minus_first [] h = clash h refl
  minus_first (b ∷ s) h = weight_minus end (b ∷ s) 0 (omega arith) (eqb-true b 45 (and-true (eqb b 45) true h).0)

  pub minus_none : (t : List ℕ) → pointwise eqb (take 1 t) (45 ∷ []) ≡ false → weight end t ≡ turned pos (number (2 ^ 63 - 1) end t)
  minus_none [] h = weight_end end [] 0 (omega arith) ∙ rw (number_end (2 ^ 63 - 1) end [] 0 (omega arith))
  minus_none (b ∷ s) h = weight_plain end (b ∷ s) 0 (omega arith) (λ e. clash (and_both (eq-eqb b 45 e) refl) h)
