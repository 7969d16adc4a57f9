-- What the code's parts make: the table of masks, the choices, and the update of the graph.
use mathlib.Core.Path.{◌≡◌, refl, sym, ap, ap₂, ◌∙◌, subst}
use mathlib.Core.Bool.{Bool, true, false}
use mathlib.Core.List.{List, [], ◌∷◌}
use mathlib.Core.Logic.{◌≢◌}
use Prim.Native.Nat.{ℕ, ◌+◌, ◌*◌, ◌-◌, ◌^◌, ◌<◌, ◌≤◌}
use native.Mathlib.Omega.{arith}
use native.Mathlib.Numerals.{add-one}
use native.Mathlib.Nat.{sub-eq-zero_of_le}
use lib.ListN.{length, get_or, take}
use lib.Seq.{get_or-set_other}
use lib.Pow.{pow_mono}
use lib.IntN.{ℤ, pos, ◌+ℤ◌, ◌-ℤ◌}
use mir.Syntax.{w64}
use mir.Val.{SFits, to_z, of_z}
use Rattle.std.specs.Int.Signed.{lt_z}
use Rattle.whole.specs.Parts.{∣◌∣}
use Rattle.whole.specs.Ints.{ints}
use Rattle.whole.specs.Fits.{fit, read}
use Rattle.whole.specs.Words.{tab, chosen, bits_from}
use Rattle.whole.specs.Lists.{tab_at, cons_same}
use Rattle.whole.specs.Counts.{one_left}
use Rattle.whole.specs.Members.{apart_new, apart_at, out_cons}
use Rattle.whole.specs.Pigeon.{Apart}
use Rattle.rules.specs.Graph.{Graph, lin, edge, neighbours, add_constant, add_linear, add_edge, drop_to}
use Rattle.rules.specs.Eliminate.{tee, absorb, eliminate}
use Rattle.rules.specs.Size.{Within}
use Rattle.cost_laws.specs.Growth.{neighbours_apart}
use Rattle.graph.specs.Near.{three, near_at}
use Rattle.graph.specs.NearLaws.{near_count, near_list}
use Rattle.graph.specs.declared.Near.{Near}
use Rattle.accepted_laws.specs.Small.{Small}
use Rattle.size_laws.specs.Sizes.{delta_size, table_size, gain_fits}
use Rattle.low_degree.specs.Table.{deltas_of}
use Rattle.low_degree.specs.AbsorbLaws.{pair_whole, absorb_same}
use Rattle.graph.specs.Small.{small_three}

-- ---- the table
module _ (a : ℤ) (ws : List ℤ) where
  abbrev x : ℤ
  x = get_or ws 0 (pos 0)

  abbrev y : ℤ
  y = get_or ws 1 (pos 0)

  abbrev z : ℤ
  z = get_or ws 2 (pos 0)

  abbrev delta : ℕ → ℤ
  delta m = a +ℤ chosen (three ws (pos 0)) m

  -- the sums that the code makes
  record Sums : Type 0 where
    e0 : a ≡ delta 0
    e1 : a +ℤ x ≡ delta 1
    e2 : a +ℤ y ≡ delta 2
    e3 : a +ℤ x +ℤ y ≡ delta 3
    e4 : a +ℤ z ≡ delta 4
    e5 : a +ℤ x +ℤ z ≡ delta 5
    e6 : a +ℤ y +ℤ z ≡ delta 6
    e7 : a +ℤ x +ℤ y +ℤ z ≡ delta 7

  sums : Sums
  unfolding chosen
  sums = record {
    e0 = simp ints (omega arith);
    e1 = simp ints (omega arith);
    e2 = simp ints (omega arith);
    e3 = simp ints (omega arith);
    e4 = simp ints (omega arith);
    e5 = simp ints (omega arith);
    e6 = simp ints (omega arith);
    e7 = simp ints (omega arith);
  }

  pub deltas_are : a ∷ (a +ℤ x) ∷ (a +ℤ y) ∷ (a +ℤ x +ℤ y) ∷ (a +ℤ z) ∷ (a +ℤ x +ℤ z) ∷ (a +ℤ y +ℤ z) ∷ (a +ℤ x +ℤ y +ℤ z) ∷ [] ≡ deltas_of a ws
  unfolding deltas_of tab
  deltas_are = let r = sums in cons_same r.e0 (cons_same r.e1 (cons_same r.e2 (cons_same r.e3 (cons_same r.e4 (cons_same r.e5 (cons_same r.e6 (cons_same r.e7 refl)))))))

  -- each of them fits
  pub record Fits : Type 0 where
    pub a0 : SFits w64 a
    pub x0 : SFits w64 x
    pub y0 : SFits w64 y
    pub z0 : SFits w64 z
    pub s1 : SFits w64 (a +ℤ x)
    pub s2 : SFits w64 (a +ℤ y)
    pub s3 : SFits w64 (a +ℤ x +ℤ y)
    pub s4 : SFits w64 (a +ℤ z)
    pub s5 : SFits w64 (a +ℤ x +ℤ z)
    pub s6 : SFits w64 (a +ℤ y +ℤ z)
    pub s7 : SFits w64 (a +ℤ x +ℤ y +ℤ z)

  module _ (h : ∣ a ∣ ≤ 1099511627776) (s : Small 2199023255552 ws) where
    sum_at : (m : ℕ) {v : ℤ} → v ≡ delta m → SFits w64 v
    sum_at m e = rw e (fit (delta m) (omega (arith, delta_size a (three ws (pos 0)) h (small_three s) m)))

    pub sums_fit : Fits
    sums_fit = record {
      a0 = sum_at 0 sums.e0;
      x0 = fit x (omega (arith, s.each 0));
      y0 = fit y (omega (arith, s.each 1));
      z0 = fit z (omega (arith, s.each 2));
      s1 = sum_at 1 sums.e1;
      s2 = sum_at 2 sums.e2;
      s3 = sum_at 3 sums.e3;
      s4 = sum_at 4 sums.e4;
      s5 = sum_at 5 sums.e5;
      s6 = sum_at 6 sums.e6;
      s7 = sum_at 7 sums.e7;
    }

-- ---- the choices
-- bit m, of a list of deltas
abbrev pub chosen_at : List ℤ → ℕ → Bool
chosen_at ds m = lt_z (get_or ds m (pos 0)) (pos 0)

module _ (f : ℕ → Bool) (m n : ℕ) (h : m < n) where
  pub bits_more : f m ≡ true → bits_from f m (n - m) ≡ 2 ^ m + bits_from f (m + 1) (n - (m + 1))
  unfolding bits_from
  bits_more e = rw (one_left n m h, add-one, e) (omega arith)

  pub bits_same : f m ≡ false → bits_from f m (n - m) ≡ bits_from f (m + 1) (n - (m + 1))
  unfolding bits_from
  bits_same e = rw (one_left n m h, add-one, e) (omega arith)

pub bits_end : (f : ℕ → Bool) (m n : ℕ) → n ≤ m → bits_from f m (n - m) ≡ 0
unfolding bits_from
bits_end f m n h = rw (sub-eq-zero_of_le h)

-- ---- the update
-- what a table's first four entries give, each difference of which fits
pub record Gains (t : List ℤ) : Type 0 where
  pub r0 : to_z w64 (of_z w64 (get_or t 0 (pos 0))) ≡ get_or t 0 (pos 0)
  pub r1 : to_z w64 (of_z w64 (get_or t 1 (pos 0))) ≡ get_or t 1 (pos 0)
  pub r2 : to_z w64 (of_z w64 (get_or t 2 (pos 0))) ≡ get_or t 2 (pos 0)
  pub r3 : to_z w64 (of_z w64 (get_or t 3 (pos 0))) ≡ get_or t 3 (pos 0)
  pub b0 : ∣ get_or t 0 (pos 0) ∣ ≤ 2 ^ 50
  pub b1 : ∣ get_or t 1 (pos 0) -ℤ get_or t 0 (pos 0) ∣ ≤ 2 ^ 52
  pub b2 : ∣ get_or t 2 (pos 0) -ℤ get_or t 0 (pos 0) ∣ ≤ 2 ^ 52
  pub b3 : ∣ get_or t 3 (pos 0) -ℤ get_or t 1 (pos 0) -ℤ get_or t 2 (pos 0) +ℤ get_or t 0 (pos 0) ∣ ≤ 2 ^ 52
  pub d1 : SFits w64 (get_or t 1 (pos 0) -ℤ get_or t 0 (pos 0))
  pub d2 : SFits w64 (get_or t 2 (pos 0) -ℤ get_or t 0 (pos 0))
  pub e1 : SFits w64 (get_or t 3 (pos 0) -ℤ get_or t 1 (pos 0))
  pub e2 : SFits w64 (get_or t 3 (pos 0) -ℤ get_or t 1 (pos 0) -ℤ get_or t 2 (pos 0))
  pub e3 : SFits w64 (get_or t 3 (pos 0) -ℤ get_or t 1 (pos 0) -ℤ get_or t 2 (pos 0) +ℤ get_or t 0 (pos 0))

pub gains : (t : List ℤ) → Small (2 ^ 50) t → Gains t
gains t s =
    let t' : ℕ → ℤ = λ m. get_or t m (pos 0) in
    let sums = table_size t' s.each in
    record {
      r0 = read (t' 0) (omega (arith, s.each 0));
      r1 = read (t' 1) (omega (arith, s.each 1));
      r2 = read (t' 2) (omega (arith, s.each 2));
      r3 = read (t' 3) (omega (arith, s.each 3));
      b0 = s.each 0;
      b1 = omega (arith, sums.near 1 0);
      b2 = omega (arith, sums.near 2 0);
      b3 = omega (arith, sums.pair);
      d1 = fit (t' 1 -ℤ t' 0) (omega (arith, sums.near 1 0));
      d2 = fit (t' 2 -ℤ t' 0) (omega (arith, sums.near 2 0));
      e1 = fit (t' 3 -ℤ t' 1) (omega (arith, sums.near 3 1));
      e2 = fit (t' 3 -ℤ t' 1 -ℤ t' 2) (omega (arith, sums.part));
      e3 = fit (t' 3 -ℤ t' 1 -ℤ t' 2 +ℤ t' 0) (omega (arith, sums.pair));
    }

-- the ends that are there, and what the rules' update makes of them
pub second_other : {n : ℕ} (ns : List ℕ) → Apart n ns → 2 ≤ length ns → get_or ns 1 0 ≢ get_or ns 0 0
second_other [] a l e = absurd (omega arith)
second_other (j ∷ []) a l e = absurd (omega arith)
second_other (j ∷ k ∷ ns) a l e = (out_cons j k ns (apart_new a)).0 (sym e)

module _ (t : ℕ → ℤ) (g : Graph) where
  pub absorb_none : (ns : List ℕ) → length ns < 1 → absorb t ns g ≡ add_constant (t 0) g
  unfolding absorb
  absorb_none [] h = refl
  absorb_none (j ∷ ns) h = absurd (omega arith)

  pub absorb_one : (ns : List ℕ) → 1 ≤ length ns → length ns < 2 → absorb t ns g ≡ add_linear (get_or ns 0 0) (t 1 -ℤ t 0) (add_constant (t 0) g)
  unfolding absorb
  absorb_one [] l h = absurd (omega arith)
  absorb_one (j ∷ []) l h = refl
  absorb_one (j ∷ k ∷ ns) l h = absurd (omega arith)

  pub absorb_two : (ns : List ℕ) → 2 ≤ length ns
      → absorb t ns g ≡ add_edge (get_or ns 0 0) (get_or ns 1 0) (t 3 -ℤ t 1 -ℤ t 2 +ℤ t 0) (add_linear (get_or ns 1 0) (t 2 -ℤ t 0) (add_linear (get_or ns 0 0) (t 1 -ℤ t 0) (add_constant (t 0) g)))
  unfolding absorb
  absorb_two [] l = absurd (omega arith)
  absorb_two (j ∷ []) l = absurd (omega arith)
  absorb_two (j ∷ k ∷ ns) l = refl

-- what each of its updates asks: the end is a decision, and its sum fits
module _ (t : List ℤ) (s : Small (2 ^ 50) t) (g : Graph) (w : Within g) (ns : List ℕ) (apart : Apart 64 ns) where
  abbrev e : ℕ → ℤ
  e m = get_or t m (pos 0)

  abbrev j : ℕ
  j = get_or ns 0 0

  abbrev k : ℕ
  k = get_or ns 1 0

  pub first_asks : 1 ≤ length ns → (j < 64) × SFits w64 (lin (add_constant (e 0) g) j +ℤ (e 1 -ℤ e 0))
  unfolding add_constant
  first_asks h = (apart_at 64 ns 0 apart (omega arith), gain_fits g.linear g.linear j (e 1 -ℤ e 0) (w.linear j) refl (gains t s).b1 (omega arith))

  pub second_asks : 2 ≤ length ns → (k < 64) × SFits w64 (lin (add_linear j (e 1 -ℤ e 0) (add_constant (e 0) g)) k +ℤ (e 2 -ℤ e 0))
  unfolding add_constant add_linear
  second_asks h = (
    apart_at 64 ns 1 apart (omega arith),
    gain_fits g.linear _ k (e 2 -ℤ e 0) (w.linear k) (get_or-set_other g.linear j k _ (pos 0) (second_other ns apart h)) (gains t s).b2 (omega arith),
  )

  pub pair_asks : 2 ≤ length ns → Apart g.n ns
      → let r : Graph = add_linear k (e 2 -ℤ e 0) (add_linear j (e 1 -ℤ e 0) (add_constant (e 0) g)) in
      (j < r.n) × (k < r.n) × SFits w64 (edge r j k +ℤ (e 3 -ℤ e 1 -ℤ e 2 +ℤ e 0))
  unfolding add_constant add_linear
  pair_asks h inside = (
    apart_at g.n ns 0 inside (omega arith),
    apart_at g.n ns 1 inside (omega arith),
    gain_fits g.edges g.edges (64 * j + k) (e 3 -ℤ e 1 -ℤ e 2 +ℤ e 0) (w.edges (64 * j + k)) refl (gains t s).b3 (omega arith),
  )

module _ (g : Graph) (i : ℕ) (near : Near) (is : near ≡ near_at g i) (few : near.count ≤ 2) where
  short : length (neighbours g i) ≤ 2
  short = omega (arith, near_count g i near is)

  -- the first two places hold all neighbours
  pair_is : take near.count (get_or near.list 0 0 ∷ get_or near.list 1 0 ∷ []) ≡ neighbours g i
  pair_is = rw (near_count g i near is, near_list g i near is 0 (omega arith), near_list g i near is 1 (omega arith)) (pair_whole (neighbours g i) short)

  pub pair_apart : (n : ℕ) → n ≡ g.n → Apart n (take near.count (get_or near.list 0 0 ∷ get_or near.list 1 0 ∷ []))
  pair_apart n h = rw h (subst (Apart g.n) (sym pair_is) (neighbours_apart g i))

  pub pair_short : length (take near.count (get_or near.list 0 0 ∷ get_or near.list 1 0 ∷ [])) ≤ 2
  pair_short = rw pair_is short

  pub eliminated : (d r : Graph) (t : List ℤ) → t ≡ tab (tee g i) 8 → d ≡ drop_to 3 i g
      → r ≡ absorb (λ m. get_or t m (pos 0)) (take near.count (get_or near.list 0 0 ∷ get_or near.list 1 0 ∷ [])) d → r ≡ eliminate i g
  unfolding eliminate
  eliminated d r t e p q =
      q
      ∙ ap₂ (absorb (λ m. get_or t m (pos 0))) pair_is p
      ∙ absorb_same (λ m. get_or t m (pos 0)) (tee g i) (neighbours g i) (drop_to 3 i g) short
      (λ m l. ap (λ (x : List ℤ). get_or x m (pos 0)) e ∙ tab_at (tee g i) 8 m (pos 0) (omega (arith, l, pow_mono {j = 2} short)))
