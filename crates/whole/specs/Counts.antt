-- Sums and differences of places that walks share; what else they need is the kit's.
-- Assumes nothing.
use Rattle.std.specs.Prelude.{◌≡◌, ℕ, suc, ◌+◌, ◌-◌, ◌<◌}
use Rattle.std.proofs.Common.{sym, ap, ◌∙◌, suc-add, add-suc, sub-one, arith}
use Rattle.std.proofs.Math.Numerals.{suc-eq-add-one}

-- a walk's place goes up by one where the steps ahead go down by one
pub shift : (a b : ℕ) → suc a + b ≡ a + suc b
shift a b = suc-add a b ∙ sym (add-suc a b)

-- one of those that are left
pub one_left : (n m : ℕ) → m < n → n - m ≡ suc (n - (m + 1))
one_left n m h = omega arith

-- the place after the k-th from i on
pub next_place : (i k : ℕ) → suc (i + k) ≡ i + (k + 1)
next_place i k = sym (add-suc i k) ∙ ap (λ (n : ℕ). i + n) (suc-eq-add-one k)

pub less_one : (n : ℕ) → suc n - 1 ≡ n
less_one n = sub-one (suc n)
