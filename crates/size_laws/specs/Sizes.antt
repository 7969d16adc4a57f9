-- Of weights that are at most b in size: what the sums of them are at most.
-- Assumes nothing.
use Rattle.std.specs.Prelude.{◌≡◌, Bool, true, false, cond, List, [], ◌∷◌, ℕ, ◌+◌, ◌*◌, ◌-◌, ◌/◌, ◌^◌, ◌≤◌, length, get_or, ℤ, pos, neg_ℤ, ◌+ℤ◌, ◌-ℤ◌}
use Rattle.std.proofs.Common.{ap, arith, SFits}
use Rattle.whole.specs.Words.{odd, bit, chosen, below0, above0}
use Rattle.std.specs.Int.{w64}
use Rattle.whole.specs.Parts.{∣◌∣}
use Rattle.whole.specs.Fits.{fit}
use Rattle.whole.specs.Ints.{ints}
use Rattle.whole.specs.Cmp.{below0_abs, above0_abs}
use Rattle.rules.specs.DegreeThree.{pass}
use Rattle.rules.specs.DominantEdge.{negatives, positives}
use Rattle.accepted_laws.specs.Small.{Small, small_tail}

-- ---- one number
pub add_size : {b c : ℕ} (u v : ℤ) → ∣ u ∣ ≤ b → ∣ v ∣ ≤ c → ∣ u +ℤ v ∣ ≤ b + c
add_size u v h k = simp ints (omega arith)

pub sub_size : {b c : ℕ} (u v : ℤ) → ∣ u ∣ ≤ b → ∣ v ∣ ≤ c → ∣ u -ℤ v ∣ ≤ b + c
sub_size u v h k = simp ints (omega arith)

pub neg_size : {b : ℕ} (v : ℤ) → ∣ v ∣ ≤ b → ∣ neg_ℤ v ∣ ≤ b
neg_size v h = simp ints (omega arith)

-- where a test says which: u ∓ v, and u ± v
pub less_size : {b c : ℕ} (t : Bool) (u v : ℤ) → ∣ u ∣ ≤ b → ∣ v ∣ ≤ c → ∣ cond t (u -ℤ v) (u +ℤ v) ∣ ≤ b + c
less_size true u v h k = sub_size u v h k
less_size false u v h k = add_size u v h k

pub more_size : {b c : ℕ} (t : Bool) (u v : ℤ) → ∣ u ∣ ≤ b → ∣ v ∣ ≤ c → ∣ cond t (u +ℤ v) (u -ℤ v) ∣ ≤ b + c
more_size true u v h k = add_size u v h k
more_size false u v h k = sub_size u v h k

-- what is there so far, where it and the rest come to t
pub part_size : {b c : ℕ} (s r t : ℤ) → s +ℤ r ≡ t → ∣ t ∣ ≤ b → ∣ r ∣ ≤ c → ∣ s ∣ ≤ b + c
part_size s r t e h k =
    let less : t -ℤ r ≡ s = simp ints (omega (arith, simp ints at e)) in
    omega (arith, ap ∣◌∣ less, sub_size t r h k)

pub when_size : {b : ℕ} (t : Bool) (v : ℤ) → ∣ v ∣ ≤ b → ∣ cond t v (pos 0) ∣ ≤ b
when_size true v h = h
when_size false v h = omega arith

-- ---- sums over a list
pub chosen_size : {b : ℕ} (ws : List ℤ) (m : ℕ) → Small b ws → ∣ chosen ws m ∣ ≤ length ws * b
unfolding chosen
chosen_size [] m e = omega arith
chosen_size (w ∷ ws) m e =
    omega (arith, add_size (cond (odd m) w (pos 0)) (chosen ws (m / 2)) (when_size (odd m) w (e.each 0)) (chosen_size ws (m / 2) (small_tail e)))

negatives_size : {b : ℕ} (ws : List ℤ) → Small b ws → ∣ negatives ws ∣ ≤ length ws * b
unfolding negatives
negatives_size [] e = omega arith
negatives_size {b} (w ∷ ws) e =
    let h : ∣ below0 w ∣ ≤ b = omega (arith, below0_abs w, e.each 0) in
    omega (arith, add_size (below0 w) (negatives ws) h (negatives_size ws (small_tail e)))

positives_size : {b : ℕ} (ws : List ℤ) → Small b ws → ∣ positives ws ∣ ≤ length ws * b
unfolding positives
positives_size [] e = omega arith
positives_size {b} (w ∷ ws) e =
    let h : ∣ above0 w ∣ ≤ b = omega (arith, above0_abs w, e.each 0) in
    omega (arith, add_size (above0 w) (positives ws) h (positives_size ws (small_tail e)))

-- ---- of a decision of weight a and edges ws, within the size rule's bounds
module _ (a : ℤ) (ws : List ℤ) (h : ∣ a ∣ ≤ 1099511627776) (e : Small 2199023255552 ws) where
  -- "delta(mask) is a plus the chosen edges"
  pub delta_size : (m : ℕ) → ∣ a +ℤ chosen ws m ∣ ≤ 1099511627776 + length ws * 2199023255552
  delta_size m = add_size a (chosen ws m) h (chosen_size ws m e)

  -- lo and hi so far, where the edges rs are left; of at most 64 edges: 257·2^40
  module _ (rs : List ℤ) (s : ℤ) (r : Small 2199023255552 rs) (k : length ws ≤ 64) (l : length rs ≤ 64) where
    pub lo_size : s +ℤ negatives rs ≡ a +ℤ negatives ws → ∣ s ∣ ≤ 282574488338432
    lo_size q = omega (arith, part_size s (negatives rs) (a +ℤ negatives ws) q (add_size a (negatives ws) h (negatives_size ws e)) (negatives_size rs r))

    pub hi_size : s +ℤ positives rs ≡ a +ℤ positives ws → ∣ s ∣ ≤ 282574488338432
    hi_size q = omega (arith, part_size s (positives rs) (a +ℤ positives ws) q (add_size a (positives ws) h (positives_size ws e)) (positives_size rs r))

-- ---- a reduction's update: each place gains once, so what it has is still what it had before
pub gain_size : {b c : ℕ} (before now : List ℤ) (k : ℕ) (v : ℤ) → ∣ get_or before k (pos 0) ∣ ≤ b → get_or now k (pos 0) ≡ get_or before k (pos 0) → ∣ v ∣ ≤ c → ∣ get_or now k (pos 0) +ℤ v ∣ ≤ b + c
gain_size before now k v s e h = add_size (get_or now k (pos 0)) v (omega (arith, ap ∣◌∣ e, s)) h

pub gain_fits : {b c : ℕ} (before now : List ℤ) (k : ℕ) (v : ℤ) → ∣ get_or before k (pos 0) ∣ ≤ b → get_or now k (pos 0) ≡ get_or before k (pos 0) → ∣ v ∣ ≤ c → b + c ≤ 2 ^ 60 → SFits w64 (get_or now k (pos 0) +ℤ v)
gain_fits before now k v s e h i = fit (get_or now k (pos 0) +ℤ v) (omega (arith, gain_size before now k v s e h))

-- ---- the sums that an update makes of a table t, each entry of which is at most b
pub record TableSums (b : ℕ) (t : ℕ → ℤ) : Type 0 where
  -- "neighbour k gains T(1 shifted by k) − T(0)"
  pub near : (m k : ℕ) → ∣ t m -ℤ t k ∣ ≤ b + b
  -- "their edge gains T(3) − T(1) − T(2) + T(0)", and before T(0) is added
  pub part : ∣ t 3 -ℤ t 1 -ℤ t 2 ∣ ≤ b + b + b
  pub pair : ∣ t 3 -ℤ t 1 -ℤ t 2 +ℤ t 0 ∣ ≤ b + b + b + b

pub table_size : {b : ℕ} (t : ℕ → ℤ) → ((m : ℕ) → ∣ t m ∣ ≤ b) → TableSums b t
table_size {b} t h =
    let part : ∣ t 3 -ℤ t 1 -ℤ t 2 ∣ ≤ b + b + b = sub_size (t 3 -ℤ t 1) (t 2) (sub_size (t 3) (t 1) (h 3) (h 1)) (h 2) in
    record { near = λ m k. sub_size (t m) (t k) (h m) (h k); part = part; pair = add_size (t 3 -ℤ t 1 -ℤ t 2) (t 0) part (h 0) }

-- ---- the Möbius transform: each bit's pass at most doubles
pub pass_size : {b : ℕ} (k : ℕ) (t : ℕ → ℤ) → ((m : ℕ) → ∣ t m ∣ ≤ b) → (m : ℕ) → ∣ pass k t m ∣ ≤ b + b
pass_size {b} k t h m = go (bit m k)
  where
    go : (c : Bool) → ∣ cond c (t m -ℤ t (m - 2 ^ k)) (t m) ∣ ≤ b + b
    go true = sub_size (t m) (t (m - 2 ^ k)) (h m) (h (m - 2 ^ k))
    go false = omega (arith, h m)
