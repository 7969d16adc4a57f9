-- Weights and a constant that need not be a graph's, where they gain an entry as it is read.
use mathlib.Core.Path.{◌≡◌, ap, ◌∙◌}
use mathlib.Core.List.{List, []}
use Prim.Native.Nat.{ℕ, ◌+◌, ◌^◌, ◌<◌, ◌≤◌}
use native.Mathlib.Omega.{arith}
use lib.ListN.{get_or, set}
use lib.IntN.{ℤ, pos, ◌+ℤ◌}
use mir.Syntax.{w64}
use mir.Val.{SFits, to_z, of_z}
use Rattle.whole.specs.Parts.{∣◌∣}
use Rattle.whole.specs.Fits.{read, sum_fits}
use Rattle.whole.specs.Ints.{rd}
use Rattle.rules.specs.Graph.{Graph, graph, add_constant, add_linear}
use Rattle.rules.specs.DegreeThree.{pairs, add_pairs, absorb3}
use Rattle.accepted_laws.specs.Small.{Small}
use Rattle.degree_three.proofs.Entries.{entry_back}
use Rattle.degree_three.proofs.Taking.{linear_fits, linear_gains}

-- a graph of weights alone: what Taking says of a gain holds of these
abbrev alone : List ℤ → Graph
alone l = graph 0 (pos 0) l [] []

module _ (e : List ℤ) (s : Small (2 ^ 54) e) where
  abbrev entry : ℕ → ℤ
  entry m = get_or e m (pos 0)

  abbrev as_read : ℕ → ℤ
  as_read m = to_z w64 (of_z w64 (entry m))

  as_read_few : (m : ℕ) → ∣ as_read m ∣ ≤ 2 ^ 54
  as_read_few m = omega (arith, ap ∣◌∣ (entry_back e s m), s.each m)

  pub weight_asks : {b : ℕ} {l : List ℤ} (m i k : ℕ) → i ≡ k → k < 64 → Small b l → b ≤ 2 ^ 59 → (i < 64) × SFits w64 (get_or l i (pos 0) +ℤ as_read m)
  weight_asks {l = l} m i k is h few low = (omega arith, linear_fits (as_read m) (as_read_few m) (alone l) i few low)

  pub weight_few : {b : ℕ} {l l' : List ℤ} (m i : ℕ) → Small b l → l' ≡ set l i (get_or l i (pos 0) +ℤ as_read m) → Small (b + 2 ^ 54) l'
  unfolding add_linear
  weight_few {b} {l} m i few made = rw made (linear_gains (as_read m) (as_read_few m) (alone l) i few)

  pub weight_gains : (m : ℕ) (l : List ℤ) {l' : List ℤ} {i k : ℕ} → i ≡ k → l' ≡ set l i (get_or l i (pos 0) +ℤ as_read m) → l' ≡ set l k (get_or l k (pos 0) +ℤ entry m)
  weight_gains m l is made = rw (is, entry_back e s m) at made

  pub constant_asks : (m : ℕ) (c : ℤ) → ∣ c ∣ ≤ 1099511627776 → SFits w64 (to_z w64 (of_z w64 c) +ℤ as_read m)
  constant_asks m c few = rw (read c (omega arith)) (sum_fits c (as_read m) (omega arith) (omega (arith, as_read_few m)))

  pub constant_gains : (m : ℕ) (c : ℤ) → ∣ c ∣ ≤ 1099511627776 → to_z w64 (of_z w64 (to_z w64 (of_z w64 c) +ℤ as_read m)) ≡ c +ℤ entry m
  constant_gains m c few = rd (constant_asks m c few) ∙ rw (read c (omega arith), entry_back e s m)

pub absorb_made : (e : ℕ → ℤ) (near : List ℕ) (n : ℕ) (c c₁ : ℤ) (l l₁ l₂ l₃ d d₁ : List ℤ) (ss : List ℕ) → c₁ ≡ c +ℤ e 0
    → l₁ ≡ set l (get_or near 0 0) (get_or l (get_or near 0 0) (pos 0) +ℤ e 1)
    → l₂ ≡ set l₁ (get_or near 1 0) (get_or l₁ (get_or near 1 0) (pos 0) +ℤ e 2)
    → l₃ ≡ set l₂ (get_or near 2 0) (get_or l₂ (get_or near 2 0) (pos 0) +ℤ e 4)
    → graph n c₁ l₃ d₁ ss ≡ add_pairs e near pairs (graph n c₁ l₃ d ss) → graph n c₁ l₃ d₁ ss ≡ absorb3 e near (graph n c l d ss)
unfolding absorb3 add_constant add_linear
absorb_made e near n c c₁ l l₁ l₂ l₃ d d₁ ss h p q r s = s ∙ ap (add_pairs e near pairs) (rw (r, q, p, h))
