-- A walk over the decisions of a mask that sets those that pass aside, in a mask of their own.
-- Assumes nothing.
use Rattle.std.specs.Prelude.{◌≡◌, refl, Bool, true, false, ◌&&◌, ◌||◌, [], ◌∷◌, ℕ, ◌-◌, ◌<◌}
use Rattle.std.proofs.Math.Path.{sym, ap}
use Rattle.std.proofs.Common.{◌∙◌, eqb-true}
use Rattle.std.specs.Int.Bits.{bit_and, bit_or}
use Rattle.std.specs.Int.Count.{count_trailing_zeros}
use Rattle.std.proofs.Math.Dec.{eqb}
use Rattle.whole.specs.Words.{bit, upto, mem, those}
use Rattle.whole.specs.Members.{upto_in}
use Rattle.whole.specs.Masks.{these, mem_these, those_ext, those_those, bit_none, bit_or_lem, these_end, Turn}

-- those of `of` that pass are those set aside so far, and those of `rest` that pass
abbrev pub Sifted : (ℕ → Bool) → ℕ → ℕ → ℕ → Type 0
Sifted p of rest who = (k : ℕ) → k < 64 → (bit who k || (bit rest k && p k)) ≡ (bit of k && p k)

pub sift_none : (p : ℕ → Bool) (of : ℕ) → Sifted p of of 0
sift_none p of k h = ap (λ (t : Bool). t || (bit of k && p k)) (bit_none k)

module _ (p : ℕ → Bool) (of rest who d others : ℕ) (s : Sifted p of rest who) (parts : these rest ≡ d ∷ these others) where
  -- the next, or one of the others
  split : (k : ℕ) → k < 64 → bit rest k ≡ (eqb k d || bit others k)
  unfolding mem
  split k h = sym (mem_these rest k h) ∙ ap (mem k) parts ∙ ap (λ (b : Bool). eqb k d || b) (mem_these others k h)

  -- it passes: `one` is the mask of it alone
  pub walk_yes : (one : ℕ) → ((k : ℕ) → bit one k ≡ eqb k d) → p d ≡ true → Sifted p of others (bit_or who one)
  walk_yes one s1 y k h =
      ap (λ (b : Bool). b || (bit others k && p k)) (bit_or_lem who one k ∙ ap (λ (b : Bool). bit who k || b) (s1 k))
      ∙ by (eqb k d) refl (bit who k) (bit others k) ∙ sym (ap (λ (b : Bool). bit who k || (b && p k)) (split k h)) ∙ s k h
    where
      by : (e : Bool) → eqb k d ≡ e → (w o : Bool) → ((w || e) || (o && p k)) ≡ (w || ((e || o) && p k))
      by true e true o = refl
      by true e false o = sym (ap p (eqb-true k d e) ∙ y)
      by false e true o = refl
      by false e false o = refl

  -- it does not
  pub walk_no : p d ≡ false → Sifted p of others who
  walk_no n k h = by (eqb k d) refl (bit who k) (bit others k) ∙ sym (ap (λ (b : Bool). bit who k || (b && p k)) (split k h)) ∙ s k h
    where
      none : (o : Bool) → (o && false) ≡ false
      none true = refl
      none false = refl

      by : (e : Bool) → eqb k d ≡ e → (w o : Bool) → (w || (o && p k)) ≡ (w || ((e || o) && p k))
      by true e w o = ap (λ (b : Bool). w || b) (ap (λ (b : Bool). o && b) (ap p (eqb-true k d e) ∙ n) ∙ none o ∙ sym (ap p (eqb-true k d e) ∙ n))
      by false e w o = refl

-- the same where the lowest is taken off
module _ (p : ℕ → Bool) (of rest who : ℕ) (s : Sifted p of rest who) (t : Turn rest) where
  pub sift_yes : (one : ℕ) → ((k : ℕ) → bit one k ≡ eqb k (count_trailing_zeros 64 rest)) → p (count_trailing_zeros 64 rest) ≡ true → Sifted p of (bit_and rest (rest - 1)) (bit_or who one)
  sift_yes = walk_yes p of rest who (count_trailing_zeros 64 rest) (bit_and rest (rest - 1)) s t.parts

  pub sift_no : p (count_trailing_zeros 64 rest) ≡ false → Sifted p of (bit_and rest (rest - 1)) who
  sift_no = walk_no p of rest who (count_trailing_zeros 64 rest) (bit_and rest (rest - 1)) s t.parts

-- none is left
pub sift_all : (p : ℕ → Bool) (of rest who : ℕ) → Sifted p of rest who → these rest ≡ [] → these who ≡ those p (these of)
unfolding these mem
sift_all p of rest who s z =
    those_ext (λ k. bit who k) (λ k. bit of k && p k) (upto 64) (λ k m. sym (over (bit who k)) ∙ ap (λ (b : Bool). bit who k || (b && p k)) (sym (sym (mem_these rest k (upto_in k 64 m)) ∙ ap (mem k) z)) ∙ s k (upto_in k 64 m))
    ∙ sym (those_those p (λ k. bit of k) (upto 64))
  where
    over : (b : Bool) → (b || false) ≡ b
    over true = refl
    over false = refl

pub sift_end : (p : ℕ → Bool) (of rest who : ℕ) → Sifted p of rest who → rest ≡ 0 → these who ≡ those p (these of)
sift_end p of rest who s z = sift_all p of rest who s (these_end rest z)
