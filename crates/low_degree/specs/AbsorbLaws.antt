-- Absorbing, over at most two neighbours.
-- Assumes nothing.
use Rattle.std.specs.Prelude.{◌≡◌, List, [], ◌∷◌, ℕ, ◌^◌, ◌<◌, ◌≤◌, length, get_or, take, ℤ}
use Rattle.std.proofs.Common.{arith}
use Rattle.whole.specs.Words.{tab}
use Rattle.whole.specs.Lists.{held_whole}
use Rattle.rules.specs.Graph.{Graph}
use Rattle.rules.specs.Eliminate.{absorb}

-- the first two places hold the whole of a list of at most two
pub pair_whole : (xs : List ℕ) → length xs ≤ 2 → take (length xs) (get_or xs 0 0 ∷ get_or xs 1 0 ∷ []) ≡ xs
unfolding tab
pair_whole xs h = held_whole 0 2 xs h

-- it looks at the masks of its neighbours only
pub absorb_same : (t u : ℕ → ℤ) (ns : List ℕ) (g : Graph) → length ns ≤ 2 → ((m : ℕ) → m < 2 ^ length ns → t m ≡ u m) → absorb t ns g ≡ absorb u ns g
unfolding absorb
absorb_same t u [] g l h = rw (h 0 (omega arith))
absorb_same t u (j ∷ []) g l h = rw (h 0 (omega arith), h 1 (omega arith))
absorb_same t u (j ∷ k ∷ []) g l h = rw (h 0 (omega arith), h 1 (omega arith), h 2 (omega arith), h 3 (omega arith))
absorb_same t u (j ∷ k ∷ i ∷ ns) g l h = absurd (omega arith)
