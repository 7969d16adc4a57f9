-- A line of n numbers at a place of a text, as a loop over an array of 64 reads it.
-- Assumes nothing.
use Rattle.std.specs.Prelude.{◌≡◌, List, [], ◌∷◌, ◌++◌, ℕ, ◌+◌, ◌-◌, ◌<◌, ◌≤◌, length, take, set, drop}
use Rattle.std.proofs.Common.{◌∙◌, arith, length-set}
use Rattle.rules.specs.ReadText.{Read, got, bad, then, ender, more, line}
use Rattle.whole.specs.Stores.{front_more}
use Rattle.read_text.specs.LineLaws.{more_step, more_end, line_start}

module _ {A : Type 0} (one : ℕ → List ℕ → Read A) (n at : ℕ) (t : List ℕ) where
  -- how far the line at `at` of the text t is read: i numbers, which stand at the front of `out`, as far as the place p
  pub record ReadSoFar (out : List A) (i p : ℕ) : Type 0 where
    pub few : i ≤ n
    pub long : length out ≡ 64
    pub rest : line one n (drop at t) ≡ more one (take i out) (n - i) (drop p t)

  pub so_far_none : (out : List A) → length out ≡ 64 → (n ≡ 0 → ⊥) → ReadSoFar out 0 at
  so_far_none out l h = record { few = omega arith; long = l; rest = line_start one n (drop at t) h }

  module _ {out : List A} {i p : ℕ} (g : ReadSoFar out i p) where
    -- d is the byte that ends the next number
    so_far_next : (d : ℕ) → i < n → d ≡ ender (n - i - 1) → line one n (drop at t) ≡ then (one d (drop p t)) (λ x r. more one (take i out ++ (x ∷ [])) (n - (i + 1)) r)
    so_far_next d h e = rw (e, g.rest) (more_step one (take i out) n i (drop p t) h)

    pub so_far_bad : (d : ℕ) → i < n → d ≡ ender (n - i - 1) → bad ≡ one d (drop p t) → bad ≡ line one n (drop at t)
    so_far_bad d h e b = rw (so_far_next d h e, ← b)

    pub so_far_more : (d : ℕ) → i < n → n ≤ 64 → d ≡ ender (n - i - 1) → (x : A) (q : ℕ) → got x (drop q t) ≡ one d (drop p t) → ReadSoFar (set out i x) (i + 1) q
    so_far_more d h few e x q b = record {
      few = omega arith;
      long = length-set out i x ∙ g.long;
      rest = rw (so_far_next d h e, ← b, front_more out i x (omega (arith, g.long)));
    }

    pub so_far_all : n ≤ i → got (take n out) (drop p t) ≡ line one n (drop at t)
    so_far_all h = let e : n ≡ i = omega (arith, g.few) in rw (g.rest, more_end one (take i out) n i (drop p t) h, e)
