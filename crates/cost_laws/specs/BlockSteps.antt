-- A block's steps, played last to first, set its members to the winning mask for the boundary's filling. With BlockCost: the reduced cost of a plan is
-- the old cost of the plan grown back.
-- Assumes nothing.
use Rattle.std.specs.Prelude.{◌≡◌, Bool, eqb}
use Rattle.std.proofs.Math.Path.{ap}
use Rattle.std.proofs.Common.{sym, ◌∙◌, arith, pow-suc, not-suc-le-zero, one-mul, add-zero, zero-add}
use Rattle.std.proofs.Math.Bool.{cond}
use mathlib.Core.List.{List, [], ◌∷◌}
use Prim.Native.Nat.{ℕ, zero, suc, ◌+◌, ◌*◌, ◌^◌, ◌<◌}
use Rattle.whole.specs.Words.{bit, one_if, bits_from}
use Rattle.rules.specs.Eliminate.{Step}
use Rattle.cost_laws.specs.EliminateLaws.{mask_at, odd_of, half_of}
use Rattle.whole.specs.Masks.{bit_half, bit_first}
use Rattle.whole.specs.Counts.{shift}

-- ---- choices: bit m of the byte is the choice for mask m
-- the byte's digits, from the choice for b up
unfoldable digits : (ℕ → Bool) → ℕ → ℕ → ℕ
digits f b zero = 0
digits f b (suc c) = one_if (f b) + 2 * digits f (suc b) c

bits_digits : (f : ℕ → Bool) (b c : ℕ) → bits_from f b c ≡ 2 ^ b * digits f b c
unfolding bits_from digits
bits_digits f b zero = omega arith
bits_digits f b (suc c) = ap (λ (z : ℕ). one_if (f b) * 2 ^ b + z) (bits_digits f (suc b) c ∙ ap (λ (z : ℕ). z * digits f (suc b) c) (pow-suc 2 b)) ∙ regroup (one_if (f b)) (2 ^ b) (digits f (suc b) c)
  where
    regroup : (o p d : ℕ) → o * p + p * 2 * d ≡ p * (o + 2 * d)
    regroup o p d = omega arith

digit_is : (f : ℕ → Bool) (c b m : ℕ) → m < c → bit (digits f b c) m ≡ f (b + m)
unfolding digits
digit_is f zero b m l = absurd (not-suc-le-zero l)
digit_is f (suc c) b zero l = bit_first (one_if (f b) + 2 * digits f (suc b) c) ∙ odd_of (f b) (digits f (suc b) c) ∙ ap f (sym (add-zero b))
digit_is f (suc c) b (suc m) l =
    bit_half (one_if (f b) + 2 * digits f (suc b) c) m ∙ ap (λ (z : ℕ). bit z m) (half_of (f b) (digits f (suc b) c)) ∙ digit_is f c (suc b) m (omega arith) ∙ ap f (shift b m)

pub choice_is : (f : ℕ → Bool) (c m : ℕ) → m < c → bit (bits_from f 0 c) m ≡ f m
choice_is f c m l = ap (λ (z : ℕ). bit z m) (bits_digits f 0 c ∙ one-mul (digits f 0 c)) ∙ digit_is f c 0 m l ∙ ap f (zero-add m)

-- ---- playing steps on a plan, last to first
unfoldable pub played_back : List Step → (ℕ → Bool) → ℕ → Bool
played_back [] x k = x k
played_back (s ∷ ss) x k = cond (eqb k s.decision) (bit s.choices (mask_at (played_back ss x) s.near)) (played_back ss x k)
