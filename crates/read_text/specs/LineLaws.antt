-- A line of n numbers, as a loop over an array reads it.
-- Assumes nothing.
use Rattle.std.specs.Prelude.{◌≡◌, refl, true, false, List, [], ◌∷◌, ◌++◌, length, get_or, take, set, drop, eqb}
use Rattle.std.proofs.Common.{◌∙◌, add-one, arith, sub-eq-zero_of_le, drop_of_length-le, length-set, drop-cons, eqb-true}
use Prim.Native.Nat.{ℕ, zero, suc, ◌+◌, ◌-◌, ◌<◌, ◌≤◌}
use Rattle.std.proofs.Math.Nat.{sub-zero, sub-add-eq}
use Rattle.std.proofs.lemmas.List.{take_all}
use borrow.Author.Tests.{eq-eqb, ne_eqb}
use Rattle.std.specs.Cmp.Lexicographic.{pointwise}
use Rattle.rules.specs.ReadText.{Read, got, bad, then, ender, more, empty, line}
use Rattle.whole.specs.Counts.{one_left}
use Rattle.whole.specs.Stores.{front_more}
use Rattle.whole.specs.Tests.{clash, and-true, and_both}

-- a line of numbers: k = n − i are to come
module _ {A : Type 0} (one : ℕ → List ℕ → Read A) where
  pub more_step : (xs : List A) (n i : ℕ) (s : List ℕ) → i < n
      → more one xs (n - i) s ≡ then (one (ender (n - i - 1)) s) (λ x r. more one (xs ++ (x ∷ [])) (n - (i + 1)) r)
  unfolding more
  more_step xs n i s h = rw (← sub-add-eq n i 1, one_left n i h)

  pub more_end : (xs : List A) (n i : ℕ) (s : List ℕ) → n ≤ i → more one xs (n - i) s ≡ got xs s
  unfolding more
  more_end xs n i s h = rw (sub-eq-zero_of_le h)

  pub line_start : (n : ℕ) (s : List ℕ) → (n ≡ 0 → ⊥) → line one n s ≡ more one [] (n - 0) s
  unfolding line
  line_start zero s h = absurd (h refl)
  line_start (suc k) s h = rw (sub-zero (suc k))

  pub line_none : (n : ℕ) (s : List ℕ) → n ≡ 0 → line one n s ≡ empty s
  unfolding line
  line_none n s h = rw h

module _ {A : Type 0} (t : List ℕ) where
  pub empty_end : (at : ℕ) → length t ≤ at → empty {A = A} (drop at t) ≡ bad
  unfolding empty
  empty_end at h = rw (drop_of_length-le t h)

  pub empty_yes : (at : ℕ) → at < length t → get_or t at 0 ≡ 10 → empty {A = A} (drop at t) ≡ got [] (drop (at + 1) t)
  unfolding empty
  empty_yes at h e = rw (drop-cons t at 0 h, eq-eqb (get_or t at 0) 10 e, add-one)

  pub empty_no : (at : ℕ) → at < length t → (get_or t at 0 ≡ 10 → ⊥) → empty {A = A} (drop at t) ≡ bad
  unfolding empty
  empty_no at h n = rw (drop-cons t at 0 h, ne_eqb (get_or t at 0) 10 n)

-- by what the text begins with
pub newline_first : {A : Type 0} (t : List ℕ) → pointwise eqb (take 1 t) (10 ∷ []) ≡ true → empty {A = A} t ≡ got [] (drop 1 t)
newline_first [] h = clash h refl
newline_first (b ∷ s) h = empty_yes (b ∷ s) 0 (omega arith) (eqb-true b 10 (and-true (eqb b 10) true h).0)

pub newline_none : {A : Type 0} (t : List ℕ) → pointwise eqb (take 1 t) (10 ∷ []) ≡ false → empty {A = A} t ≡ bad
newline_none [] h = empty_end [] 0 (omega arith)
newline_none (b ∷ s) h = empty_no (b ∷ s) 0 (omega arith) (λ e. clash (and_both (eq-eqb b 10 e) refl) h)

pub ender_last : (k : ℕ) → k ≡ 0 → 10 ≡ ender k
ender_last k h = rw h

pub ender_more : (k : ℕ) → (k ≡ 0 → ⊥) → 32 ≡ ender k
ender_more zero h = absurd (h refl)
ender_more (suc k) h = refl

module _ {A : Type 0} (one : ℕ → List ℕ → Read A) (n : ℕ) (t : List ℕ) where
  -- how far the line at the front of the text t is read: i numbers, which stand at the front of `out`, and `rest` is left
  pub record ReadSoFar (out : List A) (i : ℕ) (rest : List ℕ) : Type 0 where
    pub long : length out ≡ n
    pub ahead : line one n t ≡ more one (take i out) (n - i) rest

  pub so_far_none : (out : List A) → length out ≡ n → (n ≡ 0 → ⊥) → ReadSoFar out 0 t
  so_far_none out l h = record { long = l; ahead = line_start one n t h }

  module _ {out : List A} {i : ℕ} {rest : List ℕ} (g : ReadSoFar out i rest) where
    -- d is the byte that ends the next number
    so_far_next : (d : ℕ) → i < n → d ≡ ender (n - i - 1) → line one n t ≡ then (one d rest) (λ x r. more one (take i out ++ (x ∷ [])) (n - (i + 1)) r)
    so_far_next d h e = rw (e, g.ahead) (more_step one (take i out) n i rest h)

    pub so_far_bad : (d : ℕ) → i < n → d ≡ ender (n - i - 1) → bad ≡ one d rest → bad ≡ line one n t
    so_far_bad d h e b = rw (so_far_next d h e, ← b)

    pub so_far_more : (d : ℕ) → i < n → d ≡ ender (n - i - 1) → (x : A) (r : List ℕ) → got x r ≡ one d rest → ReadSoFar (set out i x) (i + 1) r
    so_far_more d h e x r b = record {
      long = length-set out i x ∙ g.long;
      ahead = rw (so_far_next d h e, ← b, front_more out i x (omega (arith, g.long)));
    }

    pub so_far_all : n ≡ i → got out rest ≡ line one n t
    so_far_all h = rw (g.ahead, more_end one (take i out) n i rest (omega arith), take_all i out (omega (arith, g.long)))
