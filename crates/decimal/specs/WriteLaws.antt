-- What the definitions of written numbers say, as a writer's code meets it, and how long they are at most.
-- Assumes nothing.
use Rattle.std.specs.Prelude.{◌≡◌, refl, Bool, true, false, cond, List, [], ◌∷◌, ◌++◌, ℕ, zero, suc, ◌+◌, ◌-◌, ◌/◌, ◌%◌, ◌^◌, ◌<◌, ◌≤◌, ltb, length, ℤ, pos, negsuc, nat_abs}
use Rattle.std.proofs.Common.{pow-suc, arith, length-append, lt-ltb, le-ltb, ltb-true}
use Rattle.std.specs.Int.Signed.{lt_z}
use Rattle.whole.specs.Counts.{less_one}
use Rattle.rules.specs.WriteText.{decimal, shown, shown_z}

pub decimal_none : (k v : ℕ) → k ≡ 0 → decimal k v ≡ []
unfolding decimal
decimal_none k v h = rw h

pub decimal_parts : (k v : ℕ) → (k ≡ 0 → ⊥) → decimal k v ≡ cond (ltb v 10) [] (decimal (k - 1) (v / 10)) ++ ((48 + v % 10) ∷ [])
unfolding decimal
decimal_parts zero v n = absurd (n refl)
decimal_parts (suc k) v n = rw (less_one k)

pub decimal_last : (k v : ℕ) → (k ≡ 0 → ⊥) → v < 10 → decimal k v ≡ (48 + v % 10) ∷ []
decimal_last k v n h = rw (decimal_parts k v n, lt-ltb v 10 h)

pub decimal_more : (k v : ℕ) → (k ≡ 0 → ⊥) → 10 ≤ v → decimal k v ≡ decimal (k - 1) (v / 10) ++ ((48 + v % 10) ∷ [])
decimal_more k v n h = rw (decimal_parts k v n, le-ltb v 10 h)

pub decimal_more_length : (k v : ℕ) → (k ≡ 0 → ⊥) → 10 ≤ v → length (decimal k v) ≡ length (decimal (k - 1) (v / 10)) + 1
decimal_more_length k v n h = rw (decimal_more k v n h, length-append)

-- a signed number
pub signed_less : (w : ℤ) → lt_z w (pos 0) ≡ true → shown_z w ≡ 45 ∷ shown (nat_abs w)
signed_less (pos v) h = let z : ◌≡◌ {A = ℕ} 0 1 = absurd (omega (arith, ltb-true v 0 h)) in absurd (omega arith)
signed_less (negsuc v) h = refl

pub signed_plain : (w : ℤ) → lt_z w (pos 0) ≡ false → shown_z w ≡ shown (nat_abs w)
signed_plain (pos v) h = refl
signed_plain (negsuc v) h = let z : ◌≡◌ {A = ℕ} 0 1 = cc in absurd (omega arith)

-- a number below 10, 100, .. has 1, 2, .. digits at most
one_more : (t : Bool) (xs : List ℕ) (x d : ℕ) → length xs ≤ d → length (cond t [] xs ++ (x ∷ [])) ≤ suc d
one_more true xs x d h = omega arith
one_more false xs x d h = rw length-append (omega arith)

pub decimal_length : (d k v : ℕ) → v < 10 ^ suc d → length (decimal k v) ≤ suc d
unfolding decimal
decimal_length d zero v h = omega arith
decimal_length zero (suc k) v h = rw (lt-ltb v 10 h) (omega arith)
decimal_length (suc d) (suc k) v h =
    one_more (ltb v 10) (decimal k (v / 10)) _ (suc d) (decimal_length d k (v / 10) (omega (arith, rw (pow-suc 10 (suc d)) at h)))

pub decimal_most : (k v : ℕ) → length (decimal k v) ≤ k
unfolding decimal
decimal_most zero v = omega arith
decimal_most (suc k) v = one_more (ltb v 10) (decimal k (v / 10)) _ k (decimal_most k (v / 10))

pub signed_most : (w : ℤ) → length (shown_z w) ≤ 21
signed_most (pos v) = omega (arith, decimal_most 20 v)
signed_most (negsuc v) = omega (arith, decimal_most 20 (suc v))
