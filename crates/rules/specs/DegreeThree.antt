-- 01, "Degree three".
-- Assumes nothing.
use Rattle.std.specs.Prelude.{Bool, cond, not, List, [], ◌∷◌, ℕ, ◌-◌, ◌^◌, get_or, ℤ, ◌-ℤ◌}
use Rattle.whole.specs.Words.{is_zero_z, bit}
use Rattle.rules.specs.Graph.{Graph, neighbours, add_constant, add_linear, add_edge, drop_to}
use Rattle.rules.specs.Eliminate.{tee}

-- "The same eight T values, Möbius-transformed": one bit's pass
abbrev pub pass : ℕ → (ℕ → ℤ) → ℕ → ℤ
pass b t m = cond (bit m b) (t m -ℤ t (m - 2 ^ b)) (t m)

unfoldable pub moebius : (ℕ → ℤ) → ℕ → ℤ
moebius t = pass 2 (pass 1 (pass 0 t))

-- "Entry 7 nonzero: refuse, graph unchanged."
abbrev pub cubic : Graph → ℕ → Bool
cubic g i = not (is_zero_z (moebius (tee g i) 7))

-- a pair of neighbours, and the entry that goes to their edge
pub record Pair : Type 0 where
  pub low : ℕ
  pub high : ℕ
  pub mask : ℕ

abbrev pub pair_of : ℕ → ℕ → ℕ → Pair
pair_of j k m = record { low = j; high = k; mask = m }

-- "the pairs are taken in the order (0,1), (0,2), (1,2) for entries 3, 5, 6"
abbrev pub pairs : List Pair
pairs = pair_of 0 1 3 ∷ pair_of 0 2 5 ∷ pair_of 1 2 6 ∷ []

unfoldable pub add_pairs : (ℕ → ℤ) → List ℕ → List Pair → Graph → Graph
add_pairs e near [] g = g
add_pairs e near (p ∷ ps) g = add_pairs e near ps (add_edge (get_or near p.low 0) (get_or near p.high 0) (e p.mask) g)

-- "entry 0 goes to the constant, entries 1, 2, 4 to the neighbours"
unfoldable pub absorb3 : (ℕ → ℤ) → List ℕ → Graph → Graph
absorb3 e near g =
    add_pairs e near pairs
    (add_linear (get_or near 2 0) (e 4) (add_linear (get_or near 1 0) (e 2) (add_linear (get_or near 0 0) (e 1) (add_constant (e 0) g))))

unfoldable pub eliminate3 : ℕ → Graph → Graph
eliminate3 i g = absorb3 (moebius (tee g i)) (neighbours g i) (drop_to 3 i g)
