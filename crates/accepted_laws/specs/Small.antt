-- Bounds of a list of weights, and what the updates do to them. A place past the end is 0.
-- Assumes nothing.
use Rattle.std.proofs.Common.{subst, arith}
use Rattle.std.specs.Prelude.{List, [], ◌∷◌, map, ℕ, zero, suc, ◌+◌, ◌*◌, ◌≤◌, get_or, set, ℤ, pos}
use Rattle.whole.specs.Parts.{∣◌∣}
use Rattle.whole.specs.Words.{tab, upto}
use Rattle.whole.specs.Lists.{tab_map}
use Rattle.rules.specs.Graph.{clear}

pub record Small (b : ℕ) (l : List ℤ) : Type 0 where
  pub each : (k : ℕ) → ∣ get_or l k (pos 0) ∣ ≤ b

pub small_more : {l : List ℤ} {b : ℕ} (c : ℕ) → Small b l → b ≤ c → Small c l
small_more c s h = record { each = λ k. omega (arith, s.each k) }

set_at_most : (b : ℕ) (l : List ℤ) (k j : ℕ) (v : ℤ) → ((m : ℕ) → ∣ get_or l m (pos 0) ∣ ≤ b) → ∣ v ∣ ≤ b → ∣ get_or (set l k v) j (pos 0) ∣ ≤ b
set_at_most b [] k j v s h = s j
set_at_most b (x ∷ l) zero zero v s h = h
set_at_most b (x ∷ l) zero (suc j) v s h = s (suc j)
set_at_most b (x ∷ l) (suc k) zero v s h = s 0
set_at_most b (x ∷ l) (suc k) (suc j) v s h = set_at_most b l k j v (λ m. s (suc m)) h

pub small_set : {b : ℕ} {l : List ℤ} (k : ℕ) (v : ℤ) → Small b l → ∣ v ∣ ≤ b → Small b (set l k v)
small_set {b} {l} k v s h = record { each = λ j. set_at_most b l k j v s.each h }

pub small_clear : {b : ℕ} {e : List ℤ} (i n : ℕ) → Small b e → Small b (clear i n e)
unfolding clear
small_clear i zero s = s
small_clear i (suc j) s = small_set (64 * j + i) (pos 0) (small_set (64 * i + j) (pos 0) (small_clear i j s) (omega arith)) (omega arith)

pub map_at_most : (b : ℕ) (f : ℕ → ℤ) (js : List ℕ) (k : ℕ) → ((j : ℕ) → ∣ f j ∣ ≤ b) → ∣ get_or (map f js) k (pos 0) ∣ ≤ b
map_at_most b f [] k h = omega arith
map_at_most b f (j ∷ js) zero h = h j
map_at_most b f (j ∷ js) (suc k) h = map_at_most b f js k h

-- a list that is made by a rule
pub small_map : {b : ℕ} (f : ℕ → ℤ) (js : List ℕ) → ((j : ℕ) → ∣ f j ∣ ≤ b) → Small b (map f js)
small_map {b} f js h = record { each = λ k. map_at_most b f js k h }

pub small_tab : {b : ℕ} (f : ℕ → ℤ) (n : ℕ) → ((m : ℕ) → ∣ f m ∣ ≤ b) → Small b (tab f n)
small_tab {b} f n h = subst (Small b) (tab_map f n) (small_map f (upto n) h)

-- what follows the first weight
pub small_tail : {b : ℕ} {w : ℤ} {ws : List ℤ} → Small b (w ∷ ws) → Small b ws
small_tail s = record { each = λ k. s.each (suc k) }
