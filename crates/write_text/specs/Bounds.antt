-- How long a result's text is at most. No bound on its numbers is needed: `shown` writes at most 20 digits.
-- Assumes nothing.
use Rattle.std.specs.Prelude.{◌≡◌, refl, Bool, true, false, not, ◌&&◌, List, [], ◌∷◌, ℕ, zero, suc, ◌+◌, ◌*◌, ◌/◌, ◌%◌, ◌^◌, ◌<◌, ◌≤◌, ltb, length, take, ℤ}
use Rattle.std.proofs.Common.{arith, pow_mono, length-append, length-take}
use Rattle.whole.specs.Words.{is_zero_z, one_if}
use Rattle.rules.specs.Eliminate.{Step}
use Rattle.rules.specs.Outcome.{Outcome}
use Rattle.rules.specs.WriteText.{listed, listed_z, edge_if, edge_lines, choices_of, step_line, step_lines, yes_no, written}
use Rattle.decimal.specs.WriteLaws.{decimal_length, decimal_most, signed_most}
use Rattle.record_laws.specs.Steps.{Few}
use Rattle.write_text.specs.WriteLaws.{edge_length, step_length, opening_length, closing_length, written_parts}

listed_most : (xs : List ℕ) → length (listed xs) ≤ 21 * length xs
unfolding listed
listed_most [] = omega arith
listed_most (x ∷ xs) = rw length-append (omega (arith, decimal_most 20 x, listed_most xs))

listed_z_most : (ws : List ℤ) → length (listed_z ws) ≤ 22 * length ws
unfolding listed_z
listed_z_most [] = omega arith
listed_z_most (w ∷ ws) = rw length-append (omega (arith, signed_most w, listed_z_most ws))

-- the cells above the diagonal, of the n from k on
unfoldable pairs : ℕ → ℕ → ℕ
pairs k zero = 0
pairs k (suc n) = one_if (ltb (k / 64) (k % 64)) + pairs (suc k) n

all_pairs : pairs 0 4096 ≡ 2016
unfolding pairs
all_pairs = refl

edge_most : (t u : Bool) (i j : ℕ) (w : ℤ) → i < 64 → j < 64 → length (edge_if (t && u) i j w) ≤ 33 * one_if t
edge_most false u i j w hi hj = omega arith
edge_most true false i j w hi hj = omega arith
edge_most true true i j w hi hj =
    omega (arith, edge_length i j w, decimal_length 1 20 i (omega arith), decimal_length 1 20 j (omega arith), signed_most w)

edges_most : (k : ℕ) (ws : List ℤ) → k + length ws ≤ 4096 → length (edge_lines k ws) ≤ 33 * pairs k (length ws)
unfolding edge_lines pairs
edges_most k [] l = omega arith
edges_most k (w ∷ ws) l =
    rw length-append (omega (arith, edge_most (ltb (k / 64) (k % 64)) (not (is_zero_z w)) (k / 64) (k % 64) w (omega arith) (omega arith), edges_most (suc k) ws (omega arith)))

-- a step
choices_most : (c m : ℕ) → length (listed (choices_of c m)) ≤ 2 * c
unfolding listed choices_of
choices_most zero m = omega arith
choices_most (suc c) m =
    rw length-append (omega (arith, decimal_length 0 20 (m % 2) (omega arith), choices_most c (m / 2)))

step_most : (s : Step) → length s.near ≤ 3 → length (step_line s) ≤ 109
step_most s h = omega (
  arith,
  step_length s,
  decimal_most 20 s.decision,
  listed_most s.near,
  choices_most (2 ^ length s.near) s.choices,
  pow_mono h,
)

steps_most : (ss : List Step) → Few ss → length (step_lines ss) ≤ 109 * length ss
unfolding step_lines
steps_most [] h = omega arith
steps_most (s ∷ ss) h = rw length-append (omega (arith, step_most s h.0, steps_most ss h.1))

yes_or_no : (b : Bool) → length (yes_no b) ≤ 4
yes_or_no true = omega arith
yes_or_no false = omega arith

-- an outcome of at most 64 decisions
pub record Moderate (o : Outcome) : Type 0 where
  pub remaining : length o.remaining ≤ 64
  pub cells : length o.edges ≡ 4096
  pub count : length o.steps ≤ 64
  pub short : Few o.steps

pub written_most : (o : Outcome) → Moderate o → length (written o) ≤ 76344
written_most o m = rw (written_parts o) (simp length-append (omega (
  arith,
  opening_length o.constant o.remaining (take (length o.remaining) o.linear),
  closing_length o.units o.complete,
  signed_most o.constant,
  listed_most o.remaining,
  listed_z_most (take (length o.remaining) o.linear),
  length-take (length o.remaining) o.linear,
  rw (m.cells, all_pairs) at (edges_most 0 o.edges (omega (arith, m.cells))),
  steps_most o.steps m.short,
  decimal_most 20 o.units,
  yes_or_no o.complete,
  m.remaining,
  m.count,
)))
