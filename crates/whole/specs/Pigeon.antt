-- Different decisions below n are at most n: what bounds the queue and a component by the array that holds them.
-- Assumes nothing.
use Rattle.std.specs.Prelude.{◌≡◌, refl, List, ℕ, zero, suc, ◌≤◌, length}
use Rattle.std.proofs.Common.{ap, arith}
use Rattle.whole.specs.Words.{from, upto}
use Rattle.whole.specs.Members.{apart_below, in_upto, few}
pub use Rattle.whole.specs.Different.{Apart, none, one}

length_from : (k c : ℕ) → length (from k c) ≡ c
unfolding from
length_from k zero = refl
length_from k (suc c) = ap suc (length_from (suc k) c)

pub pigeon : (n : ℕ) {xs : List ℕ} → Apart n xs → length xs ≤ n
pigeon n a = omega (arith, few (upto n) a (λ k m. in_upto k n (apart_below k a m)), length_from 0 n)
