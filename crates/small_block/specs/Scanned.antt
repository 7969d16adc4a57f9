-- A mask that gathers, from the lowest up, the decisions that pass a test.
-- Assumes nothing.
use Rattle.std.specs.Prelude.{◌≡◌, Bool, true, false, cond, ◌&&◌, ◌||◌, ℕ, ◌+◌, ◌^◌, ◌<◌, ◌≤◌, ltb}
use Rattle.std.proofs.Common.{sym, ap, ◌∙◌, arith, lt-ltb, le-ltb}
use Rattle.std.proofs.Math.Bool.{or-false}
use Rattle.std.specs.Int.Bits.{bit_or}
use Rattle.whole.specs.Words.{bit, upto, those}
use Rattle.whole.specs.Members.{upto_in}
use Rattle.whole.specs.Masks.{these, those_ext, bit_or_lem, bit_none, bit_turn}
use Rattle.graph.specs.ShowsLaws.{these_upto}

-- of those below c, m holds the ones that pass
abbrev pub Scanned : (ℕ → Bool) → ℕ → ℕ → Type 0
Scanned p c m = (k : ℕ) → k < 64 → bit m k ≡ (ltb k c && p k)

pub scanned_none : (p : ℕ → Bool) → Scanned p 0 0
scanned_none p k b = bit_none k ∙ sym (ap (λ (t : Bool). t && p k) (le-ltb k 0 (omega arith)))

module _ (p : ℕ → Bool) (c m : ℕ) (w : Scanned p c m) where
  next : (t : Bool) → p c ≡ t → Scanned p (c + 1) (bit_or m (cond t (2 ^ c) 0))
  next t e k b = ap (λ (x : Bool). bit (bit_or m (cond x (2 ^ c) 0)) k) (sym e) ∙ bit_turn p c m k (w k b)

  pub scanned_yes : (s : ℕ) → s ≡ 2 ^ c → p c ≡ true → Scanned p (c + 1) (bit_or m s)
  scanned_yes s e y k b = ap (λ (z : ℕ). bit (bit_or m z) k) e ∙ next true y k b

  pub scanned_no : p c ≡ false → Scanned p (c + 1) m
  scanned_no y k b = sym (bit_or_lem m 0 k ∙ ap (λ (x : Bool). bit m k || x) (bit_none k) ∙ or-false (bit m k)) ∙ next false y k b

  pub scanned_all : c ≤ 64 → these m ≡ those p (upto c)
  scanned_all l =
      these_upto (λ k. ltb k c && p k) m c l w (λ k b t. ap (λ (x : Bool). x && p k) (le-ltb k c t))
      ∙ those_ext (λ k. ltb k c && p k) p (upto c) (λ k t. ap (λ (b : Bool). b && p k) (lt-ltb k c (upto_in k c t)))
