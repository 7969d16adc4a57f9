-- The Möbius transform: each bit's pass at most doubles.
-- Assumes nothing.
use Rattle.std.specs.Prelude.{ℕ, ◌*◌, ◌≤◌, ℤ}
use Rattle.std.proofs.Common.{arith}
use Rattle.whole.specs.Words.{tab}
use Rattle.whole.specs.Parts.{∣◌∣}
use Rattle.rules.specs.DegreeThree.{pass, moebius}
use Rattle.accepted_laws.specs.Small.{Small, small_tab}
use Rattle.rules.specs.Graph.{Graph, degree}
use Rattle.rules.specs.Eliminate.{tee}
use Rattle.rules.specs.Size.{Within}
use Rattle.size_laws.specs.Sizes.{pass_size}
use Rattle.size_laws.specs.SumSizes.{tee_three}

pub moebius_size : {b : ℕ} (t : ℕ → ℤ) → ((m : ℕ) → ∣ t m ∣ ≤ b) → (m : ℕ) → ∣ moebius t m ∣ ≤ 8 * b
unfolding moebius
moebius_size t h m = omega (arith, pass_size 2 (pass 1 (pass 0 t)) (pass_size 1 (pass 0 t) (pass_size 0 t h)) m)

-- in a graph within the size rule, at degree at most 3
module _ (g : Graph) (w : Within g) (i : ℕ) (few : degree g i ≤ 3) where
  -- of the Möbius transform: 14·2^40 after the first pass, 28·2^40 after the second, 56·2^40 at the end
  pub first_pass : (m : ℕ) → ∣ pass 0 (tee g i) m ∣ ≤ 15393162788864
  first_pass = pass_size 0 (tee g i) (tee_three g w i few)

  pub second_pass : (m : ℕ) → ∣ pass 1 (pass 0 (tee g i)) m ∣ ≤ 30786325577728
  second_pass = pass_size 1 (pass 0 (tee g i)) first_pass

  pub entries_three : Small 61572651155456 (tab (moebius (tee g i)) 8)
  entries_three = small_tab (moebius (tee g i)) 8 (moebius_size (tee g i) (tee_three g w i few))
