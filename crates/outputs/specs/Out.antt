-- What is written out, over the list of the remaining decisions.
-- Assumes nothing.
use Rattle.std.specs.Prelude.{◌≡◌, not, cond, ◌&&◌, List, ◌++◌, map, ℕ, ◌+◌, ◌*◌, ◌-◌, ◌/◌, ◌%◌, ◌<◌, ◌≤◌, ltb, eqb, length, get_or, take, replicate, ℤ, pos}
use Rattle.whole.specs.Words.{those, upto, bit, is_zero_z}
use Rattle.outputs.specs.declared.Remaining.{Remaining}

abbrev pub rest : Remaining → List ℕ
rest r = take r.len r.list

abbrev pub active_of : List ℕ → ℕ → List ℕ
active_of ss n = those (λ i. eqb (get_or ss i 0) 2) (upto n)

-- the first n of 64 places, each with a decision
pub record Places (list : List ℕ) (n : ℕ) : Type 0 where
  pub few : n ≤ 64
  pub long : length list ≡ 64
  pub each : (k : ℕ) → get_or list k 0 < 64

-- the mask m shows the edges of i
abbrev pub MaskShows : ℕ → ℕ → List ℤ → Type 0
MaskShows m i e = (j : ℕ) → j < 64 → bit m j ≡ not (is_zero_z (get_or e (64 * i + j) (pos 0)))

-- entry k of each output
abbrev pub linear_at : List ℤ → List ℕ → ℕ → ℕ → ℤ
linear_at l list r k = cond (ltb k r) (get_or l (get_or list k 0) (pos 0)) (pos 0)

abbrev pub edge_at : List ℤ → List ℕ → ℕ → ℕ → ℤ
edge_at e list r k = cond (ltb (k / 64) r) (cond (ltb (k % 64) r) (get_or e (64 * get_or list (k / 64) 0 + get_or list (k % 64) 0) (pos 0)) (pos 0)) (pos 0)

abbrev pub linear_of : List ℤ → List ℕ → List ℤ
linear_of l rs = map (λ i. get_or l i (pos 0)) rs ++ replicate (64 - length rs) (pos 0)

abbrev pub cell_of : List ℤ → List ℕ → ℕ → ℤ
cell_of e rs k = cond (ltb (k / 64) (length rs) && ltb (k % 64) (length rs)) (get_or e (64 * get_or rs (k / 64) 0 + get_or rs (k % 64) 0) (pos 0)) (pos 0)

-- entry b of the row of i
abbrev pub entry_of : List ℤ → List ℕ → ℕ → ℕ → ℤ
entry_of e rs i b = cond (ltb b (length rs)) (get_or e (64 * i + get_or rs b 0) (pos 0)) (pos 0)
