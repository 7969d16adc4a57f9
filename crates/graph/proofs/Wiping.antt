-- A decision's edges cleared one by one, as its mask shows them.
use mathlib.Core.Path.{◌≡◌, refl, sym, ap, ap₂, ◌∙◌, subst}
use mathlib.Core.Bool.{Bool, true, false, cond, ◌||◌}
use mathlib.Core.List.{List, [], ◌∷◌}
use mathlib.Core.Logic.{◌≢◌}
use Prim.Native.Nat.{ℕ, zero, suc, ◌+◌, ◌*◌, ◌-◌, ◌^◌, ◌<◌, ◌≤◌}
use native.Mathlib.Omega.{arith}
use native.Mathlib.Nat.{not-suc-le-zero}
use native.Mathlib.Decide.{ℕ_discrete, dec_lt}
use lib.Dec.{eqb}
use lib.Bits.{bit_and}
use lib.Count.{count_trailing_zeros}
use lib.ListN.{length, get_or, set, drop, length-set}
use lib.Seq.{get_or-set_same, get_or-set_other, set-get_or, set-set, set_comm}
use lib.IntN.{ℤ, pos}
use borrow.Author.Tests.{eqb-true}
use Rattle.whole.specs.Words.{bit, mem, is_zero_z}
use Rattle.whole.specs.Tests.{cases, clash, on_not}
use Rattle.whole.specs.Members.{apart_new}
use Rattle.whole.specs.Pigeon.{Apart}
use Rattle.whole.specs.Masks.{these, these_apart, these_end, mem_these, first_in, bit_none, turn}
use Rattle.graph.specs.MaskLaws.{these_empty}
use Rattle.whole.specs.Cmp.{zero_of}
use Rattle.rules.specs.Graph.{clear}
use Rattle.graph.specs.Shows.{Shows}
use Rattle.graph.specs.ShowsLaws.{edge_cell, is_edge, Marked, joined}

-- ---- clearing, whatever of it is done already
none_swap : (e : List ℤ) (a b : ℕ) → set (set e a (pos 0)) b (pos 0) ≡ set (set e b (pos 0)) a (pos 0)
none_swap e a b = go (ℕ_discrete a b)
  where
    go : Dec (a ≡ b) → set (set e a (pos 0)) b (pos 0) ≡ set (set e b (pos 0)) a (pos 0)
    go (yes t) = rw t
    go (no d) = set_comm e a b (pos 0) (pos 0) d

clear_set : (i c : ℕ) (e : List ℤ) (a : ℕ) → clear i c (set e a (pos 0)) ≡ set (clear i c e) a (pos 0)
unfolding clear
clear_set i zero e a = refl
clear_set i (suc c) e a =
    rw (clear_set i c e a) (ap (λ (l : List ℤ). set l (64 * c + i) (pos 0)) (none_swap (clear i c e) a (64 * i + c)) ∙ none_swap (set (clear i c e) (64 * i + c) (pos 0)) a (64 * c + i))

clear_done : (i j : ℕ) (e : List ℤ) (c : ℕ) → j < c → clear i c (set (set e (64 * i + j) (pos 0)) (64 * j + i) (pos 0)) ≡ clear i c e
unfolding clear
clear_done i j e zero h = absurd (not-suc-le-zero h)
clear_done i j e (suc c) h = go (ℕ_discrete j c) (λ l. clear_done i j e c l)
  where
    go : Dec (j ≡ c) → (j < c → clear i c (set (set e (64 * i + j) (pos 0)) (64 * j + i) (pos 0)) ≡ clear i c e)
        → clear i (suc c) (set (set e (64 * i + j) (pos 0)) (64 * j + i) (pos 0)) ≡ clear i (suc c) e
    go (no d) r = ap (λ (l : List ℤ). set (set l (64 * i + c) (pos 0)) (64 * c + i) (pos 0)) (r (omega arith))
    go (yes t) r =
        let l = clear i c e in
        rw t (
        ap (λ (l : List ℤ). set (set l (64 * i + c) (pos 0)) (64 * c + i) (pos 0)) (clear_set i c (set e (64 * i + c) (pos 0)) (64 * c + i) ∙ ap (λ (l : List ℤ). set l (64 * c + i) (pos 0)) (clear_set i c e (64 * i + c)))
        ∙ ap (λ (l : List ℤ). set l (64 * c + i) (pos 0)) (none_swap (set l (64 * i + c) (pos 0)) (64 * c + i) (64 * i + c) ∙ ap (λ (l : List ℤ). set l (64 * c + i) (pos 0)) (set-set l (64 * i + c) (pos 0) (pos 0)))
        ∙ set-set (set l (64 * i + c) (pos 0)) (64 * c + i) (pos 0) (pos 0))

clear_none : (i : ℕ) (e : List ℤ) (c : ℕ) → ((q : ℕ) → q < c → (edge_cell e i q ≡ pos 0) × (edge_cell e q i ≡ pos 0)) → clear i c e ≡ e
unfolding clear
clear_none i e zero h = refl
clear_none i e (suc c) h =
    let z = h c (omega arith) in
    rw (clear_none i e c (λ q l. h q (omega arith)))
    (ap (λ (l : List ℤ). set l (64 * c + i) (pos 0)) (ap (set e (64 * i + c)) (sym z.0) ∙ set-get_or e (64 * i + c) (pos 0))
    ∙ ap (set e (64 * c + i)) (sym z.1) ∙ set-get_or e (64 * c + i) (pos 0))

no_edge : (z : ℤ) → is_edge z ≡ false → z ≡ pos 0
no_edge z h = zero_of z (on_not (is_zero_z z) h)

-- ---- the lowest of a mask's decisions is taken off it
module _ (rest : ℕ) (d : rest ≢ 0) (low : rest < 2 ^ 64) where
  abbrev first : ℕ
  first = count_trailing_zeros 64 rest

  abbrev others : ℕ
  others = bit_and rest (rest - 1)

  below : first < 64
  below = (turn rest d low).below

  off_first : bit others first ≡ false
  off_first = sym (mem_these others first below) ∙ apart_new (subst (Apart 64) (turn rest d low).parts (these_apart rest))

  others_marked : Marked rest first (pos 0) others
  unfolding mem
  others_marked t h = cases (eqb t first)
      (λ y. ap (bit others) (eqb-true t first y) ∙ off_first ∙ sym (ap (λ (c : Bool). cond c false (bit rest t)) y))
      (λ y. sym (mem_these others t h) ∙ ap (λ (c : Bool). c || mem t (these others)) (sym y) ∙ ap (mem t) (sym (turn rest d low).parts) ∙ mem_these rest t h ∙ sym (ap (λ (c : Bool). cond c false (bit rest t)) y))

  -- and its edge is none, both ways round
  module _ (n : ℕ) (e : List ℤ) (m : List ℕ) (i r : ℕ) (s : Shows n e (set m i rest)) (hi : i < 64) (fr : r < 2 ^ 64) (w : Marked (get_or m first 0) i (pos 0) r) where
    long : length m ≡ 64
    long = sym (length-set m i rest) ∙ s.long

    own : get_or (set m i rest) i 0 ≡ rest
    own = get_or-set_same m i rest 0 (omega (arith, long))

    edge_on : is_edge (edge_cell e i first) ≡ true
    edge_on = sym (s.bits i first hi below) ∙ ap (λ (z : ℕ). bit z first) own ∙ sym (mem_these rest first below) ∙ first_in rest d low

    inside : first < n
    inside = go (dec_lt first n)
      where
        go : Dec (first < n) → first < n
        go (yes l) = l
        go (no l) = clash edge_on (ap is_edge (s.none i first hi below (omega arith)))

    own_inside : i < n
    own_inside = go (dec_lt i n)
      where
        go : Dec (i < n) → i < n
        go (yes l) = l
        go (no l) = clash edge_on (ap is_edge (s.both i first hi below ∙ s.none first i below hi (omega arith)))

    abbrev less : List ℤ
    less = set (set e (64 * i + first) (pos 0)) (64 * first + i) (pos 0)

    joins : (t : ℕ) → t < 2 ^ 64 → Marked (get_or (set (set m i rest) i others) first 0) i (pos 0) t → Shows n less (set (set (set m i rest) i others) first t)
    joins t ft wt =
        joined n e (set m i rest) s i first own_inside inside hi below (pos 0) others t (turn rest d low).smaller ft
        (λ k h. others_marked k h ∙ ap (λ (z : ℕ). cond (eqb k first) false (bit z k)) (sym own)) wt

    twice : set (set m i rest) i others ≡ set m i others
    twice = set-set m i rest others

    wipe_turn : Shows n less (set (set m first r) i others) × (clear i n less ≡ clear i n e)
    wipe_turn = (go (ℕ_discrete i first), clear_done i first e n inside)
      where
        go : Dec (i ≡ first) → Shows n less (set (set m first r) i others)
        go (no a) =
            subst (Shows n less) (ap (λ (l : List ℕ). set l first r) twice ∙ set_comm m i first others r a)
            (joins r fr (λ k h. w k h ∙ ap (λ (z : ℕ). cond (eqb k i) false (bit z k)) (sym (ap (λ (l : List ℕ). get_or l first 0) twice ∙ get_or-set_other m i first others 0 (λ t. a (sym t))))))
        go (yes a) =
            let same : get_or (set (set m i rest) i others) first 0 ≡ others = ap₂ (λ (l : List ℕ) (k : ℕ). get_or l k 0) twice (sym a) ∙ get_or-set_same m i others 0 (omega (arith, long)) in
            subst (Shows n less)
            (ap₂ (λ (l : List ℕ) (k : ℕ). set l k others) twice (sym a) ∙ set-set m i others others ∙ sym (ap (λ (k : ℕ). set (set m k r) i others) (sym a) ∙ set-set m i r others))
            (joins others (turn rest d low).smaller (λ k h. cases (eqb k i)
            (λ y. ap (bit others) (eqb-true k i y ∙ a) ∙ off_first ∙ sym (ap (λ (c : Bool). cond c false (bit (get_or (set (set m i rest) i others) first 0) k)) y))
            (λ y. ap (λ (z : ℕ). bit z k) (sym same) ∙ sym (ap (λ (c : Bool). cond c false (bit (get_or (set (set m i rest) i others) first 0) k)) y))))

wipe_end : (n : ℕ) (e : List ℤ) (m : List ℕ) (i rest : ℕ) → Shows n e (set m i rest) → i < 64 → n ≤ 64 → rest ≡ 0 → (e ≡ clear i n e) × Shows n e (set m i 0)
wipe_end n e m i rest s hi hn z =
    let long : length m ≡ 64 = sym (length-set m i rest) ∙ s.long in
    let own : get_or (set m i rest) i 0 ≡ 0 = get_or-set_same m i rest 0 (omega arith) ∙ z in
    let bare : (q : ℕ) → q < n → edge_cell e i q ≡ pos 0 = λ q h. no_edge (edge_cell e i q) (sym (s.bits i q hi (omega arith)) ∙ ap (λ (x : ℕ). bit x q) own ∙ bit_none q) in
    (sym (clear_none i e n (λ q h. (bare q h, s.both q i (omega arith) hi ∙ bare q h))), subst (λ (x : ℕ). Shows n e (set m i x)) z s)

-- ---- the loop: js are to be wiped yet, and i's own mask is as if it had them alone
pub record Wiping (i : ℕ) (e₀ : List ℤ) (m₀ : List ℕ) (e : List ℤ) (m js : List ℕ) : Type 0 where
  pub rest : ℕ
  pub fits : rest < 2 ^ 64
  pub left : these rest ≡ js
  pub shows : (n : ℕ) → n ≤ 64 → Shows n e₀ m₀ → Shows n e (set m i rest) × (clear i n e ≡ clear i n e₀)

pub wiping_begin : (i : ℕ) (e : List ℤ) (m : List ℕ) → get_or m i 0 < 2 ^ 64 → Wiping i e m e m (these (get_or m i 0))
wiping_begin i e m f = record { rest = get_or m i 0; fits = f; left = refl; shows = λ n h s. (subst (Shows n e) (sym (set-get_or m i 0)) s, refl) }

module _ (i : ℕ) (e₀ e : List ℤ) (m₀ m : List ℕ) (hi : i < 64) where
  pub wiping_turn : (j : ℕ) (js : List ℕ) (r : ℕ) → Wiping i e₀ m₀ e m (j ∷ js) → r < 2 ^ 64 → Marked (get_or m j 0) i (pos 0) r
      → Wiping i e₀ m₀ (set (set e (64 * i + j) (pos 0)) (64 * j + i) (pos 0)) (set m j r) js
  wiping_turn j js r w f k =
      let some : w.rest ≢ 0 = λ z. absurd (omega (arith, ap length (sym w.left ∙ these_end w.rest z))) in
      let t = turn w.rest some w.fits in
      let first : count_trailing_zeros 64 w.rest ≡ j = ap (λ (l : List ℕ). get_or l 0 0) (sym t.parts ∙ w.left) in
      subst (λ (j : ℕ). Marked (get_or m j 0) i (pos 0) r → Wiping i e₀ m₀ (set (set e (64 * i + j) (pos 0)) (64 * j + i) (pos 0)) (set m j r) js) first
      (λ k. record {
        rest = bit_and w.rest (w.rest - 1);
        fits = t.smaller;
        left = ap (drop 1) (sym t.parts ∙ w.left);
        shows = λ n h s.
            let g = w.shows n h s in
            let u = wipe_turn w.rest some w.fits n e m i r g.0 hi f k in
            (u.0, u.1 ∙ g.1);
      }) k

  pub wiping_end : Wiping i e₀ m₀ e m [] → (n : ℕ) → n ≤ 64 → Shows n e₀ m₀ → (e ≡ clear i n e₀) × Shows n e (set m i 0)
  wiping_end w n h s =
      let g = w.shows n h s in
      let u = wipe_end n e m i w.rest g.0 hi h (these_empty w.rest w.fits w.left) in
      (u.0 ∙ g.1, u.1)
