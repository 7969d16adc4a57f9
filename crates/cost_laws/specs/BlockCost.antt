-- A block: what eliminating it does to the cost of every plan.
-- Of any different decisions b whose boundary has at most two: the reduced cost of a plan is the old cost of the plan with the members set to the
-- winning mask (`block_plan`), and no plan costs less than its reduced cost (`block_least`).
-- Assumes nothing.
use Rattle.std.specs.Prelude.{◌≡◌, Bool, true, false, cond, not, ◌&&◌, ◌≢◌, ℕ, zero, suc, ◌+◌, ◌*◌, ◌-◌, ◌/◌, ◌%◌, ◌^◌, ◌<◌, ◌≤◌, eqb, length, ℤ, pos, ◌+ℤ◌, ◌≤ℤ◌, ◌<ℤ◌}
use Rattle.std.proofs.Math.Path.{refl, sym, ap, ap₂}
use Rattle.std.proofs.Common.{◌∙◌, subst, arith, pow-suc, eqb-true, eq-eqb, ne_eqb}
use mathlib.Core.List.{List, [], ◌∷◌, ◌++◌}
use Rattle.std.proofs.Math.IntN.{+ℤ_idr}
use Rattle.std.specs.Int.Signed.{lt_z, ≤ℤ_refl}
use Rattle.std.proofs.lemmas.Bool.{eqb-false}
use Rattle.whole.specs.Ints.{ints, zarith}
use Rattle.whole.specs.Cmp.{lt_ind}
use Rattle.whole.specs.Words.{is_zero_z, odd, one_if, upto, mem, some, chosen}
use Rattle.rules.specs.Graph.{Graph, lin, edge, row, drop_to}
use Rattle.rules.specs.SmallBlock.{boundary, inner, cheapest, best_mask, block_table, drop_all, eliminate_block}
use Rattle.whole.specs.Sum.{Σ_cong}
use Rattle.cost_laws.specs.Cost.{shift-≤, regroup, swap_last, when, when_zero, row_zero, row_cost, cost_of, delta_of}
use Rattle.cost_laws.specs.CostLaws.{cost, Shaped, drop_cost, drop_lin, drop_own, drop_edge, drop_zero}
use Rattle.whole.specs.Cmp.{zero_of}
use Rattle.cost_laws.specs.EliminateLaws.{mask_at, odd_of, half_of, chosen_mask, shaped_drop, AtMostTwo, empty, single, double, absorb_cost}
use Rattle.whole.specs.Pigeon.{Apart, none, one}
use Rattle.whole.specs.Tests.{cases, clash, and_both, not_off, on_not, off_not, refuse, and-true}
use Rattle.whole.specs.Members.{nobody, in_cons, in_head, in_tail, out_append, out_cons, out_of_cons, differ, in_those, to_those, in_upto, some_true, apart_head, apart_new, apart_tail, apart_left, apart_right, apart_below, apart_join, apart_those, apart_upto, upto_in}
use Rattle.cost_laws.specs.OverLists.{over_append, over_all}

-- ---- what dropping i leaves alone
module _ (g : Graph) (s : Shaped g) (i : ℕ) (li : i < g.n) where
  drop_row : (k : ℕ) → k < g.n → k ≢ i → {js : List ℕ} → Apart g.n js → mem i js ≡ false → row (drop_to 3 i g) k js ≡ row g k js
  drop_row k lk dk none h = refl
  drop_row k lk dk (one {x = x} {xs = xs} l m a) h =
      let p = out_cons i x xs h in
      ap₂ (λ (z : ℤ) (zs : List ℤ). z ∷ zs) (drop_edge g s 3 i li k x lk l dk (λ e. p.0 (sym e))) (drop_row k lk dk a p.1)

  drop_inner : (out is : List ℕ) (f m : ℕ) → Apart g.n out → mem i out ≡ false → Apart g.n is → mem i is ≡ false
      → inner (drop_to 3 i g) out f is m ≡ inner g out f is m
  unfolding inner
  drop_inner out [] f m ao ho none h = refl
  drop_inner out (k ∷ is) f m ao ho (one l n a) h =
      let p = out_cons i k is h in
      let d : k ≢ i = λ e. p.0 (sym e) in
      rw (drop_lin g s 3 i li k d, drop_row k l d ao ho, drop_row k l d a p.1, drop_inner out is f (m / 2) ao ho a p.1)

-- ---- the members' own cost at a plan
-- every edge of a member goes to a member or to `out`
abbrev pub Inside : Graph → List ℕ → List ℕ → Type 0
Inside g b out = (i j : ℕ) → mem i b ≡ true → j < g.n → mem j (b ++ out) ≡ false → edge g i j ≡ pos 0

-- what j pulls at i by their edge
abbrev pull : Graph → (ℕ → Bool) → ℕ → ℕ → ℤ
pull g x i j = when (x j) (edge g i j)

module _ (x : ℕ → Bool) (out : List ℕ) where
  -- delta of a member: its weight, its edges to the boundary and those to the members after it
  member_delta : (g : Graph) (i : ℕ) (is : List ℕ) → Shaped g → Apart g.n (i ∷ is ++ out) → Inside g (i ∷ is) out
      → delta_of g.n (lin g) (edge g) x i ≡ lin g i +ℤ chosen (row g i out) (mask_at x out) +ℤ chosen (row g i is) (mask_at x is)
  member_delta g i is s a h =
      ap (λ (z : ℤ). lin g i +ℤ z)
      (sym (over_all (pull g x i) g.n (apart_tail a) zeros) ∙ over_append (pull g x i) is out ∙ ap₂ (λ (u v : ℤ). u +ℤ v) (sym (chosen_mask x (edge g i) is)) (sym (chosen_mask x (edge g i) out)))
      ∙ sym (swap_last (lin g i) (chosen (row g i out) (mask_at x out)) (chosen (row g i is) (mask_at x is)))
    where
      zeros : (j : ℕ) → j < g.n → mem j (is ++ out) ≡ false → pull g x i j ≡ pos 0
      zeros j l m = ap (when (x j)) (cases (eqb j i)
          (λ e. ap (edge g i) (eqb-true j i e) ∙ s.self i (apart_head a))
          (λ e. h i j (in_head i is) l (out_of_cons j i (is ++ out) (eqb-false j i e) m)))
          ∙ when_zero (x j)

  inside_drop : (g : Graph) (i : ℕ) (is : List ℕ) → Shaped g → Apart g.n (i ∷ is ++ out) → Inside g (i ∷ is) out → Inside (drop_to 3 i g) is out
  unfolding drop_to
  inside_drop g i is s a h k j mk lj mj = cases (eqb j i)
      (λ e. ap (edge (drop_to 3 i g) k) (eqb-true j i e) ∙ gone)
      (λ e. drop_edge g s 3 i li k j lk lj dk (eqb-false j i e) ∙ h k j (in_tail k i is mk) lj (out_of_cons j i (is ++ out) (eqb-false j i e) mj))
    where
      li : i < g.n
      li = apart_head a

      lk : k < g.n
      lk = apart_below k (apart_left is out (apart_tail a)) mk

      dk : k ≢ i
      dk = differ is mk (out_append i is out (apart_new a)).0

      gone : edge (drop_to 3 i g) k i ≡ pos 0
      gone = (drop_zero g s 3 i li k lk).1

  -- the cost is what is left without the members, and the members' own cost
  pub inside_cost : (g : Graph) (b : List ℕ) → Shaped g → Apart g.n (b ++ out) → Inside g b out
      → cost g x ≡ cost (drop_all b g) x +ℤ inner g out (mask_at x out) b (mask_at x b)
  unfolding drop_all inner mask_at drop_to
  inside_cost g [] s a h = sym (+ℤ_idr (cost g x))
  inside_cost g (i ∷ is) s a h =
      let li : i < g.n = apart_head a in
      let no = out_append i is out (apart_new a) in
      let rest = apart_tail a in
      drop_cost g x 3 i s li
      ∙ ap₂ (λ (u v : ℤ). u +ℤ when (x i) v)
      (inside_cost (drop_to 3 i g) is (shaped_drop 3 i g s li) rest (inside_drop g i is s a h)
      ∙ ap (λ (z : ℤ). cost (drop_all is (drop_to 3 i g)) x +ℤ z)
      (drop_inner g s i li out is (mask_at x out) (mask_at x is) (apart_right is out rest) no.1 (apart_left is out rest) no.0))
      (member_delta g i is s a h)
      ∙ swap_last (cost (drop_all is (drop_to 3 i g)) x) (inner g out (mask_at x out) is (mask_at x is)) (when (x i) (lin g i +ℤ chosen (row g i out) (mask_at x out) +ℤ chosen (row g i is) (mask_at x is)))
      ∙ ap₂ (λ (c : Bool) (m : ℕ). cost (drop_all is (drop_to 3 i g)) x +ℤ (when c (lin g i +ℤ chosen (row g i out) (mask_at x out) +ℤ chosen (row g i is) m) +ℤ inner g out (mask_at x out) is m))
      (sym (odd_of (x i) (mask_at x is))) (sym (half_of (x i) (mask_at x is)))

-- ---- the cheapest mask
pub cheapest_in : (c : ℕ → ℤ) (k : ℕ) → cheapest c k ≤ k
unfolding cheapest
cheapest_in c zero = omega arith
cheapest_in c (suc k) = go (lt_z (c (suc k)) (c (cheapest c k))) (cheapest_in c k)
  where
    go : (b : Bool) → cheapest c k ≤ k → cond b (suc k) (cheapest c k) ≤ suc k
    go true r = omega arith
    go false r = omega arith

pub cheapest_least : (c : ℕ → ℤ) (k m : ℕ) → m ≤ k → c (cheapest c k) ≤ℤ c m
unfolding cheapest
cheapest_least c zero m l = subst (λ (j : ℕ). c 0 ≤ℤ c j) (omega arith) (≤ℤ_refl (c 0))
cheapest_least c (suc k) m l = lt_ind (c (suc k)) (c (cheapest c k)) (λ t. c (cond t (suc k) (cheapest c k)) ≤ℤ c m)
    (λ t. cases (eqb m (suc k))
    (λ e. subst (λ (j : ℕ). c (suc k) ≤ℤ c j) (sym (eqb-true m (suc k) e)) (≤ℤ_refl (c (suc k))))
    (λ e. let d = eqb-false m (suc k) e in let r : c (cheapest c k) ≤ℤ c m = cheapest_least c k m (omega arith) in simp ints (omega zarith)))
    (λ t. cases (eqb m (suc k))
    (λ e. subst (λ (j : ℕ). c (cheapest c k) ≤ℤ c j) (sym (eqb-true m (suc k) e)) (simp ints (omega zarith)))
    (λ e. let d = eqb-false m (suc k) e in cheapest_least c k m (omega arith)))

-- ties keep the lowest: every mask below it costs more
pub cheapest_lowest : (c : ℕ → ℤ) (k m : ℕ) → m < cheapest c k → c (cheapest c k) <ℤ c m
unfolding cheapest
cheapest_lowest c zero m l = absurd (bad l)
  where
    bad : m < 0 → ⊥
    bad p = omega arith
cheapest_lowest c (suc k) m l = go (lt_z (c (suc k)) (c (cheapest c k))) refl l
    (λ r. cheapest_least c k m r) (λ r. cheapest_lowest c k m r)
  where
    go : (t : Bool) → lt_z (c (suc k)) (c (cheapest c k)) ≡ t → m < cond t (suc k) (cheapest c k)
        → (m ≤ k → c (cheapest c k) ≤ℤ c m) → (m < cheapest c k → c (cheapest c k) <ℤ c m) → c (cond t (suc k) (cheapest c k)) <ℤ c m
    go true e l f h = let r = f (omega arith) in simp ints (omega zarith)
    go false e l f h = h l

-- ---- a mask put into a plan: bit = place in growth order
unfoldable pub put : List ℕ → ℕ → (ℕ → Bool) → ℕ → Bool
put [] m x k = x k
put (i ∷ is) m x k = cond (eqb k i) (odd m) (put is (m / 2) x k)

pub put_other : (b : List ℕ) (m : ℕ) (x : ℕ → Bool) (k : ℕ) → mem k b ≡ false → put b m x k ≡ x k
unfolding put
put_other [] m x k h = refl
put_other (i ∷ is) m x k h =
    let p = out_cons k i is h in
    ap (λ (c : Bool). cond c (odd m) (put is (m / 2) x k)) (ne_eqb k i p.0) ∙ put_other is (m / 2) x k p.1

pub mask_ext : (x y : ℕ → Bool) (js : List ℕ) → ((k : ℕ) → mem k js ≡ true → x k ≡ y k) → mask_at x js ≡ mask_at y js
unfolding mask_at
mask_ext x y [] h = refl
mask_ext x y (j ∷ js) h = ap₂ (λ (c : Bool) (m : ℕ). one_if c + 2 * m) (h j (in_head j js)) (mask_ext x y js (λ k t. h k (in_tail k j js t)))

pub mask_below : (x : ℕ → Bool) (js : List ℕ) → mask_at x js < 2 ^ length js
unfolding mask_at
mask_below x [] = omega arith
mask_below x (j ∷ js) = go (x j) (mask_below x js)
  where
    go : (c : Bool) → mask_at x js < 2 ^ length js → one_if c + 2 * mask_at x js < 2 ^ suc (length js)
    go true r = rw pow-suc (omega arith)
    go false r = rw pow-suc (omega arith)

-- the mask put in is the mask read out
pub mask_put : {n : ℕ} (x : ℕ → Bool) {b : List ℕ} (m : ℕ) → Apart n b → m < 2 ^ length b → mask_at (put b m x) b ≡ m
unfolding mask_at put
mask_put x m none h = omega arith
mask_put x m (one {x = i} {xs = is} l d a) h =
    ap₂ (λ (c : Bool) (r : ℕ). one_if c + 2 * r)
    (ap (λ (c : Bool). cond c (odd m) (put is (m / 2) x i)) (eq-eqb i i refl))
    (mask_ext (λ k. cond (eqb k i) (odd m) (put is (m / 2) x k)) (put is (m / 2) x) is
    (λ k t. ap (λ (c : Bool). cond c (odd m) (put is (m / 2) x k)) (ne_eqb k i (differ is t d)))
    ∙ mask_put x (m / 2) a half)
    ∙ whole (odd m) refl
  where
    half : m / 2 < 2 ^ length is
    half = omega (arith, rw pow-suc at h)

    whole : (c : Bool) → odd m ≡ c → one_if c + 2 * (m / 2) ≡ m
    whole true e = omega (arith, eqb-true (m % 2) 1 e)
    whole false e = omega (arith, eqb-false (m % 2) 1 e)

-- ---- dropping the members
pub drop_all_n : (b : List ℕ) (g : Graph) → (drop_all b g).n ≡ g.n
unfolding drop_all drop_to
drop_all_n [] g = refl
drop_all_n (i ∷ is) g = drop_all_n is (drop_to 3 i g)

pub drop_all_shaped : (b : List ℕ) (g : Graph) → Shaped g → Apart g.n b → Shaped (drop_all b g)
unfolding drop_all drop_to
drop_all_shaped [] g s a = s
drop_all_shaped (i ∷ is) g s a = drop_all_shaped is (drop_to 3 i g) (shaped_drop 3 i g s (apart_head a)) (apart_tail a)

-- i has no weight and no edge
pub record Gone (g : Graph) (i : ℕ) : Type 0 where
  pub weight : lin g i ≡ pos 0
  pub across : (j : ℕ) → j < g.n → edge g i j ≡ pos 0
  pub down : (j : ℕ) → j < g.n → edge g j i ≡ pos 0

gone_here : (g : Graph) (i : ℕ) → Shaped g → i < g.n → Gone (drop_to 3 i g) i
unfolding drop_to
gone_here g i s l = record { weight = drop_own g s 3 i l; across = λ j m. (drop_zero g s 3 i l j m).0; down = λ j m. (drop_zero g s 3 i l j m).1 }

gone_stays : (g : Graph) (i k : ℕ) → Shaped g → i < g.n → k < g.n → k ≢ i → Gone g k → Gone (drop_to 3 i g) k
unfolding drop_to
gone_stays g i k s li lk d h =
    let here : Gone (drop_to 3 i g) i = gone_here g i s li in
    record {
      weight = drop_lin g s 3 i li k d ∙ h.weight;
      across = λ j m. cases (eqb j i)
          (λ e. ap (edge (drop_to 3 i g) k) (eqb-true j i e) ∙ here.down k lk)
          (λ e. drop_edge g s 3 i li k j lk m d (eqb-false j i e) ∙ h.across j m);
      down = λ j m. cases (eqb j i)
          (λ e. ap (λ (t : ℕ). edge (drop_to 3 i g) t k) (eqb-true j i e) ∙ here.across k lk)
          (λ e. drop_edge g s 3 i li j k m lk (eqb-false j i e) d ∙ h.down j m);
    }

gone_after : (b : List ℕ) (g : Graph) (k : ℕ) → Shaped g → Apart g.n b → k < g.n → mem k b ≡ false → Gone g k → Gone (drop_all b g) k
unfolding drop_all drop_to
gone_after [] g k s a lk m h = h
gone_after (i ∷ is) g k s a lk m h =
    let p = out_cons k i is m in
    gone_after is (drop_to 3 i g) k (shaped_drop 3 i g s (apart_head a)) (apart_tail a) lk p.1 (gone_stays g i k s (apart_head a) lk p.0 h)

pub drop_all_gone : (b : List ℕ) (g : Graph) (k : ℕ) → Shaped g → Apart g.n b → mem k b ≡ true → Gone (drop_all b g) k
unfolding drop_all drop_to mem
drop_all_gone [] g k s a m = clash m refl
drop_all_gone (i ∷ is) g k s a m =
    let s' : Shaped (drop_to 3 i g) = shaped_drop 3 i g s (apart_head a) in
    in_cons k i is m
    (λ e. subst (λ (t : ℕ). Gone (drop_all is (drop_to 3 i g)) t) (sym e) (gone_after is (drop_to 3 i g) i s' (apart_tail a) (apart_head a) (apart_new a) (gone_here g i s (apart_head a))))
    (λ r. drop_all_gone is (drop_to 3 i g) k s' (apart_tail a) r)

-- plans that agree but on decisions that are gone cost the same
pub gone_cost : (g : Graph) (x y : ℕ → Bool) (b : List ℕ) → ((k : ℕ) → mem k b ≡ true → Gone g k) → ((k : ℕ) → mem k b ≡ false → x k ≡ y k) → cost g x ≡ cost g y
unfolding cost_of
gone_cost g x y b h e = ap (λ (z : ℤ). g.constant +ℤ z) (Σ_cong g.n (row_cost (lin g) (edge g) x) (row_cost (lin g) (edge g) y) rows)
  where
    pulls : (k j : ℕ) → k < g.n → j < g.n → when (x j) (edge g k j) ≡ when (y j) (edge g k j)
    pulls k j lk lj = cases (mem j b)
        (λ m. let z = (h j m).down k lk in ap (when (x j)) z ∙ when_zero (x j) ∙ sym (ap (when (y j)) z ∙ when_zero (y j)))
        (λ m. ap (λ (c : Bool). when c (edge g k j)) (e j m))

    empty_row : (u : ℕ → Bool) (k : ℕ) → k < g.n → mem k b ≡ true → row_cost (lin g) (edge g) u k ≡ pos 0
    empty_row u k lk m = row_zero (lin g) (edge g) u k (h k m).weight (λ j l. (h k m).across j (omega arith))

    rows : (k : ℕ) → k < g.n → row_cost (lin g) (edge g) x k ≡ row_cost (lin g) (edge g) y k
    rows k lk = cases (mem k b)
        (λ m. empty_row x k lk m ∙ sym (empty_row y k lk m))
        (λ m. ap₂ (λ (c : Bool) (z : ℤ). when c (lin g k +ℤ z)) (e k m) (Σ_cong k (λ j. when (x j) (edge g k j)) (λ j. when (y j) (edge g k j)) (λ j l. pulls k j lk (omega arith))))

-- plans that are the same everywhere cost the same
pub cost_ext : (g : Graph) (x y : ℕ → Bool) → ((k : ℕ) → x k ≡ y k) → cost g x ≡ cost g y
cost_ext g x y h = gone_cost g x y [] (λ k m. nobody k m) (λ k m. h k)

-- ---- the boundary
pub boundary_apart : (g : Graph) (b : List ℕ) → Apart g.n (boundary g b)
unfolding boundary
boundary_apart g b = apart_those (λ j. not (mem j b) && some (λ i. not (is_zero_z (edge g i j))) b) (apart_upto g.n)

-- one of the boundary is a decision, no member, and some member's neighbour
pub in_boundary : (g : Graph) (b : List ℕ) (k : ℕ) → mem k (boundary g b) ≡ true → (k < g.n) × (mem k b ≡ false) × (some (λ i. not (is_zero_z (edge g i k))) b ≡ true)
unfolding boundary
in_boundary g b k h =
    let p = in_those (λ j. not (mem j b) && some (λ i. not (is_zero_z (edge g i j))) b) k (upto g.n) h in
    let q = and-true (not (mem k b)) (some (λ i. not (is_zero_z (edge g i k))) b) p.1 in
    (upto_in k g.n p.0, off_not (mem k b) q.0, q.1)

pub boundary_outside : (g : Graph) (b : List ℕ) (k : ℕ) → mem k (boundary g b) ≡ true → mem k b ≡ false
boundary_outside g b k h = (in_boundary g b k h).1

-- what is neither a member nor on the boundary has no edge to a member
pub boundary_inside : (g : Graph) (b : List ℕ) → Inside g b (boundary g b)
unfolding boundary
boundary_inside g b i j mi lj out =
    let p = out_append j b (boundary g b) out in
    zero_of (edge g i j) (on_not (is_zero_z (edge g i j)) (refuse (not (is_zero_z (edge g i j)))
    (λ t. clash (to_those (λ j. not (mem j b) && some (λ i. not (is_zero_z (edge g i j))) b) j (upto g.n) (in_upto j g.n lj)
    (and_both (not_off p.0) (some_true (λ i. not (is_zero_z (edge g i j))) i b mi t))) p.1)))

pub whole_apart : (g : Graph) (b : List ℕ) → Apart g.n b → Apart g.n (b ++ boundary g b)
whole_apart g b a = apart_join a (boundary_apart g b) (λ k m. refuse (mem k (boundary g b)) (λ t. clash m (boundary_outside g b k t)))

pub pair_of : {n : ℕ} {js : List ℕ} → Apart n js → length js ≤ 2 → AtMostTwo n js
pair_of none h = empty
pair_of (one l m none) h = single l
pair_of (one {x = j} l m (one {x = k} {xs = xs} l' m' none)) h = double l l' (out_cons j k xs m).0
pair_of (one l m (one l' m' (one l'' m'' a))) h = absurd (bad h)
  where
    bad : {n : ℕ} → suc (suc (suc n)) ≤ 2 → ⊥
    bad p = omega arith

-- ---- the laws of a block: of any different decisions whose boundary has at most two
module _ (g : Graph) (b : List ℕ) (s : Shaped g) (a : Apart g.n b) (l : length (boundary g b) ≤ 2) where
  abbrev filling : (ℕ → Bool) → ℕ
  filling x = mask_at x (boundary g b)

  pub absorbed : (x : ℕ → Bool) → cost (eliminate_block b g) x ≡ cost (drop_all b g) x +ℤ block_table g b (mask_at x (boundary g b))
  unfolding eliminate_block
  absorbed x = absorb_cost (drop_all b g) x (block_table g b) (boundary g b) (drop_all_shaped b g s a)
      (subst (λ (n : ℕ). AtMostTwo n (boundary g b)) (sym (drop_all_n b g)) (pair_of (boundary_apart g b) l))

  pub parted : (x : ℕ → Bool) → cost g x ≡ cost (drop_all b g) x +ℤ inner g (boundary g b) (mask_at x (boundary g b)) b (mask_at x b)
  parted x = inside_cost x (boundary g b) g b s (whole_apart g b a) (boundary_inside g b)

  -- the reduced cost and the members' own cost, against the old cost and the table
  pub block_cost : (x : ℕ → Bool)
      → cost (eliminate_block b g) x +ℤ inner g (boundary g b) (mask_at x (boundary g b)) b (mask_at x b) ≡ cost g x +ℤ block_table g b (mask_at x (boundary g b))
  block_cost x = rw (absorbed x, parted x) (regroup (cost (drop_all b g) x) (block_table g b (mask_at x (boundary g b))) (inner g (boundary g b) (mask_at x (boundary g b)) b (mask_at x b)))

  -- no plan costs less than its reduced cost
  pub block_least : (x : ℕ → Bool) → cost (eliminate_block b g) x ≤ℤ cost g x
  block_least x =
      let t : block_table g b (mask_at x (boundary g b)) ≤ℤ inner g (boundary g b) (mask_at x (boundary g b)) b (mask_at x b) =
      cheapest_least (inner g (boundary g b) (mask_at x (boundary g b)) b) (2 ^ length b - 1) (mask_at x b) (omega (arith, mask_below x b)) in
      shift-≤ (cost (eliminate_block b g) x) (cost g x) (inner g (boundary g b) (mask_at x (boundary g b)) b (mask_at x b)) (block_table g b (mask_at x (boundary g b))) (block_cost x) t

  -- the plan with the members set to the winning mask for its filling of the boundary
  abbrev pub settled : (ℕ → Bool) → ℕ → Bool
  settled x = put b (best_mask g b (mask_at x (boundary g b))) x
