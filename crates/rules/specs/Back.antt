-- 01, "Growing back" and projecting. `states` is n long.
-- Assumes nothing.
use Rattle.std.specs.Prelude.{cond, ℕ, ◌+◌, ◌*◌, ◌-◌, eqb, length, get_or, set, replicate}
use mathlib.Core.List.{List, [], ◌∷◌, ◌++◌, map, tail}
use Rattle.whole.specs.Words.{upto, those, bit, one_if}
use Rattle.rules.specs.Eliminate.{Step}

-- "Put in the remaining and fixed values": 0 where a step is still to be played
unfoldable pub place : List ℕ → List ℕ → List ℕ
place [] answer = []
place (s ∷ ss) answer =
    cond (eqb s 2) (get_or answer 0 0 ∷ place ss (tail answer)) (cond (eqb s 1) 1 0 ∷ place ss answer)

-- "the mask of its neighbours' values"
unfoldable pub mask_of : List ℕ → List ℕ → ℕ
mask_of x [] = 0
mask_of x (j ∷ js) = get_or x j 0 + 2 * mask_of x js

-- "each by its choice"
unfoldable pub play : Step → List ℕ → List ℕ
play s x = set x s.decision (one_if (bit s.choices (mask_of x s.near)))

-- "then the steps last to first"
unfoldable pub play_all : List Step → List ℕ → List ℕ
play_all [] x = x
play_all (s ∷ ss) x = play s (play_all ss x)

unfoldable pub grow_back : List ℕ → List Step → List ℕ → List ℕ
grow_back states steps answer = play_all steps (place states answer)

-- the remaining decisions, ascending
unfoldable pub remaining_of : List ℕ → List ℕ
remaining_of states = those (λ i. eqb (get_or states i 0) 2) (upto (length states))

-- "Projecting writes the remaining entries of a full plan, ascending, at the front of an output n long, then zeros."
unfoldable pub project : List ℕ → List ℕ → List ℕ
project states plan =
    map (λ i. get_or plan i 0) (remaining_of states) ++ replicate (length states - length (remaining_of states)) 0
