-- Laws of the neighbours as the code holds them.
-- Assumes nothing.
use Rattle.std.specs.Prelude.{◌≡◌, refl, Bool, true, not, List, [], ◌∷◌, ◌++◌, map, length, set, ℤ, pos}
use Rattle.std.proofs.Common.{sym, ap₂, ◌∙◌, arith, length-append}
use Rattle.std.proofs.Math.Path.{ap}
use Rattle.std.proofs.lemmas.List.{map-append, length-map}
use Prim.Native.Nat.{ℕ, zero, suc, ◌+◌, ◌*◌, ◌<◌, ◌≤◌}
use Rattle.std.proofs.Math.ListN.{get_or, take}
use Rattle.whole.specs.Words.{is_zero_z, tab, mem}
use Rattle.whole.specs.Lists.{held_whole}
use Rattle.whole.specs.Members.{in_at, low_at}
use Rattle.rules.specs.Graph.{Graph, row, neighbours}
use Rattle.cost_laws.specs.Growth.{neighbours_apart, in_nbrs}
use Rattle.graph.specs.Near.{three, near_among, near_at}
use Rattle.graph.specs.declared.Near.{Near}

-- ---- the first three of a list
module _ {A : Type 0} (z : A) where
  pub three_at : (xs : List A) (k : ℕ) → k < 3 → get_or (three xs z) k z ≡ get_or xs k z
  three_at xs zero h = refl
  three_at xs (suc zero) h = refl
  three_at xs (suc (suc zero)) h = refl
  three_at xs (suc (suc (suc k))) h = absurd (omega arith)

  three_whole : (xs : List A) → length xs ≡ 3 → three xs z ≡ xs
  unfolding tab
  three_whole xs h = ap (λ (n : ℕ). take n (three xs z)) (sym h) ∙ held_whole z 3 xs (omega arith)

  three_more : (xs : List A) (v : A) → length xs < 3 → set (three xs z) (length xs) v ≡ three (xs ++ (v ∷ [])) z
  three_more [] v h = refl
  three_more (a ∷ []) v h = refl
  three_more (a ∷ b ∷ []) v h = refl
  three_more (a ∷ b ∷ c ∷ xs) v h = absurd (omega arith)

  three_full : (xs : List A) (v : A) → 3 ≤ length xs → three xs z ≡ three (xs ++ (v ∷ [])) z
  three_full [] v h = absurd (omega arith)
  three_full (a ∷ []) v h = absurd (omega arith)
  three_full (a ∷ b ∷ []) v h = absurd (omega arith)
  three_full (a ∷ b ∷ c ∷ xs) v h = refl

-- ---- the loop over a row
made : {a b : List ℕ} {x y : List ℤ} {m n : ℕ} → a ≡ b → x ≡ y → m ≡ n → ◌≡◌ {A = Near} (record { list = a; weights = x; count = m }) (record { list = b; weights = y; count = n })
made p q r = rw (p, q, r)

module _ (e : List ℤ) (i : ℕ) where
  abbrev pub there : ℕ → Bool
  there j = not (is_zero_z (get_or e (64 * i + j) (pos 0)))

  -- one more neighbour: one of the first three is written down
  module _ (js : List ℕ) (j : ℕ) (r : Near) (q : r ≡ near_among e i js) where
    abbrev entry : ℕ → ℤ
    entry j = get_or e (64 * i + j) (pos 0)

    pub near_more : (w : ℤ) → w ≡ entry j → r.count < 3
        → ◌≡◌ {A = Near} (record { list = set r.list r.count j; weights = set r.weights r.count w; count = r.count + 1 }) (near_among e i (js ++ (j ∷ [])))
    near_more w f h =
        let n : length js < 3 = omega (arith, ap (λ (x : Near). x.count) q) in
        let m : length (map entry js) < 3 = omega (arith, length-map js entry) in
        ap (λ (x : Near). record { list = set x.list x.count j; weights = set x.weights x.count w; count = x.count + 1 }) q
        ∙ made (three_more 0 js j n)
        (ap₂ (λ (t : ℕ) (v : ℤ). set (three (map entry js) (pos 0)) t v) (sym (length-map js entry)) f ∙ three_more (pos 0) (map entry js) (entry j) m ∙ ap (λ (xs : List ℤ). three xs (pos 0)) (sym (map-append entry js (j ∷ []))))
        (sym (length-append js (j ∷ [])))

    pub near_full : 3 ≤ r.count → ◌≡◌ {A = Near} (record { list = r.list; weights = r.weights; count = r.count + 1 }) (near_among e i (js ++ (j ∷ [])))
    near_full h =
        let n : 3 ≤ length js = omega (arith, ap (λ (x : Near). x.count) q) in
        let m : 3 ≤ length (map entry js) = omega (arith, length-map js entry) in
        ap (λ (x : Near). record { list = x.list; weights = x.weights; count = x.count + 1 }) q
        ∙ made (three_full 0 js j n)
        (three_full (pos 0) (map entry js) (entry j) m ∙ ap (λ (xs : List ℤ). three xs (pos 0)) (sym (map-append entry js (j ∷ []))))
        (sym (length-append js (j ∷ [])))

-- ---- what is read from it
-- each neighbour is a decision, and a place past the last is 0
pub neighbour_below : (g : Graph) (i k : ℕ) → g.n ≤ 64 → get_or (neighbours g i) k 0 < 64
neighbour_below g i k h = low_at g.n (neighbours g i) k (neighbours_apart g i) h

pub mem_inside : (g : Graph) (i t : ℕ) → mem t (neighbours g i) ≡ true → t < g.n
mem_inside g i t h = (in_nbrs g i t h).0

pub neighbour_inside : (g : Graph) (i k : ℕ) → k < length (neighbours g i) → get_or (neighbours g i) k 0 < g.n
neighbour_inside g i k h = mem_inside g i (get_or (neighbours g i) k 0) (in_at (neighbours g i) k h)

module _ (g : Graph) (i : ℕ) (near : Near) (is : near ≡ near_at g i) where
  pub near_count : near.count ≡ length (neighbours g i)
  unfolding near_at
  near_count = ap (λ (x : Near). x.count) is

  pub near_list : (k : ℕ) → k < 3 → get_or near.list k 0 ≡ get_or (neighbours g i) k 0
  unfolding near_at
  near_list k h = ap (λ (x : Near). get_or x.list k 0) is ∙ three_at 0 (neighbours g i) k h

  -- where there are three, they are the whole list
  pub near_whole : near.count ≡ 3 → near.list ≡ neighbours g i
  unfolding near_at
  near_whole h = ap (λ (x : Near). x.list) is ∙ three_whole 0 (neighbours g i) (sym near_count ∙ h)

  pub near_weights : (k : ℕ) → k < 3 → get_or near.weights k (pos 0) ≡ get_or (row g i (neighbours g i)) k (pos 0)
  unfolding near_at
  near_weights k h = ap (λ (x : Near). get_or x.weights k (pos 0)) is ∙ three_at (pos 0) (row g i (neighbours g i)) k h

  pub near_below : g.n ≤ 64 → (k : ℕ) → get_or near.list k 0 < 64
  unfolding near_at
  near_below h zero = rw (near_list 0 (omega arith)) (neighbour_below g i 0 h)
  near_below h (suc zero) = rw (near_list 1 (omega arith)) (neighbour_below g i 1 h)
  near_below h (suc (suc zero)) = rw (near_list 2 (omega arith)) (neighbour_below g i 2 h)
  near_below h (suc (suc (suc k))) = rw is (omega arith)

  pub near_inside : (k : ℕ) → k < 3 → k < near.count → get_or near.list k 0 < g.n
  near_inside k h l = rw (near_list k h) (neighbour_inside g i k (omega (arith, near_count)))
