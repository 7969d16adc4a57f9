-- A mask's decisions one by one.
-- Assumes nothing.
use Rattle.std.specs.Prelude.{◌≡◌, Bool, cond, List, [], ◌∷◌, length, ℕ, zero, suc, ◌+◌, ◌-◌, ◌/◌, ◌%◌, ◌<◌, ◌≤◌, ◌^◌, eqb}
use Rattle.std.specs.Int.Count.{ones, ones_step}
use Rattle.std.proofs.Common.{sym, ap, ◌∙◌, subst, arith, pow-suc}
use Rattle.std.proofs.Math.Decide.{ℕ_discrete}
use Rattle.std.proofs.Math.Nat.{sub_self}
use Rattle.whole.specs.Words.{bit, odd, from, those}
use Rattle.whole.specs.Different.{Apart}
use Rattle.whole.specs.Members.{apart_head, from_in}
use Rattle.whole.specs.Masks.{these, these_apart, these_length, those_ext, bit_half, bit_first}

-- each is below 64: `#[tactic(auto, using(graph::specs::MaskLaws::these_head))]` lets a loop over `Members` index by them
pub these_head : (m j : ℕ) (js : List ℕ) → these m ≡ j ∷ js → j < 64
these_head m j js h = apart_head (subst (Apart 64) h (these_apart m))

-- a mask with none of them is 0
pub these_empty : (m : ℕ) → m < 2 ^ 64 → these m ≡ [] → m ≡ 0
these_empty m l h = go (ℕ_discrete m 0)
  where
    go : Dec (m ≡ 0) → m ≡ 0
    go (yes z) = z
    go (no d) = absurd (omega (arith, ap length h, these_length m d l))

-- how many there are, digit by digit from p up
ones_from : (p f m : ℕ) → m < 2 ^ f → ones m ≡ length (those (λ j. bit m (j - p)) (from p f))
unfolding those from ones
ones_from p zero m h = let z : m ≡ 0 = omega arith in rw z
ones_from p (suc f) m h =
    ones_step m ∙ ap (λ (k : ℕ). m % 2 + k) (ones_from (suc p) f (m / 2) half ∙ ap length shifted) ∙ counted (m % 2) (those (λ j. bit m (j - p)) (from (suc p) f)) (omega arith)
    ∙ ap (λ (b : Bool). length (cond b (p ∷ those (λ j. bit m (j - p)) (from (suc p) f)) (those (λ j. bit m (j - p)) (from (suc p) f)))) first
  where
    half : m / 2 < 2 ^ f
    half = omega (arith, rw pow-suc at h)

    first : odd m ≡ bit m (p - p)
    first = sym (ap (bit m) (sub_self p) ∙ bit_first m)

    up : (j : ℕ) → suc p ≤ j → j - p ≡ suc (j - suc p)
    up j l = omega arith

    shifted : those (λ j. bit (m / 2) (j - suc p)) (from (suc p) f) ≡ those (λ j. bit m (j - p)) (from (suc p) f)
    shifted = those_ext (λ j. bit (m / 2) (j - suc p)) (λ j. bit m (j - p)) (from (suc p) f) (λ j h. let l : suc p ≤ j = (from_in j (suc p) f h).0 in sym (ap (bit m) (up j l) ∙ bit_half m (j - suc p)))

    counted : (d : ℕ) (ys : List ℕ) → d < 2 → d + length ys ≡ length (cond (eqb d 1) (p ∷ ys) ys)
    counted zero ys l = omega arith
    counted (suc zero) ys l = omega arith
    counted (suc (suc d)) ys l = absurd (omega arith)

pub ones_these : (m : ℕ) → m < 2 ^ 64 → ones m ≡ length (these m)
unfolding these
ones_these m h = ones_from 0 64 m h ∙ ap length (those_ext (λ j. bit m (j - 0)) (λ j. bit m j) (from 0 64) (λ k i. ap (bit m) (whole k)))
  where
    whole : (k : ℕ) → k - 0 ≡ k
    whole k = omega arith
