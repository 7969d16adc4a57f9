-- Which of some decisions are reached from u, stopping as soon as all are: what holds at each turn.
-- Assumes nothing.
use Rattle.std.specs.Prelude.{◌≡◌, refl, Bool, true, false, not, ◌&&◌, ◌||◌, List, [], ◌∷◌, ◌++◌, ◌≢◌, ℕ, ◌+◌, ◌-◌, ◌^◌, ◌<◌, eqb, get_or, length}
use Rattle.std.proofs.Common.{sym, ap, ap₂, ◌∙◌, subst, arith, eqb-true, eq-eqb}
use Rattle.std.proofs.Math.Decide.{ℕ_discrete}
use Rattle.std.specs.Int.Bits.{bit_and, bit_or, and_lt}
use Rattle.std.proofs.lemmas.Nat.{or_disjoint, or_lt}
use Rattle.std.specs.Int.Count.{count_trailing_zeros}
use Rattle.whole.specs.Words.{bit, mem, some}
use Rattle.rules.specs.SmallBlock.{component}
use Rattle.whole.specs.Tests.{cases, clash, refuse, or_true, or-false, or_left, or_right, and-true, and_both, not_off, not_on, on_not, off_not}
use Rattle.whole.specs.Members.{in_single, in_head, in_tail, in_cons, in_append, in_left, in_right, some_true, some_none, apart_below}
use Rattle.cost_laws.specs.Growth.{Network, Grown, component_grown}
use Rattle.whole.specs.Masks.{these, without, bit_or_lem, bit_and_lem, bit_less, bit_single, bit_none, mem_these, these_below, first_in, turn}
use Rattle.whole.specs.Walks.{item_below, these_few, these_or}
use Rattle.small_block.specs.ByMasks.{near_by}

pub record Reaching (near : ℕ → List ℕ) (aside : List ℕ) (u around seen todo left : ℕ) : Type 0 where
  pub inside : (k : ℕ) → k < 64 → bit seen k ≡ true → mem k (aside ++ component near aside u) ≡ true
  pub old : (k : ℕ) → k < 64 → mem k aside ≡ true → bit seen k ≡ true
  pub start : bit seen u ≡ true
  pub queued : (k : ℕ) → k < 64 → bit todo k ≡ true → (bit seen k ≡ true) × (mem k aside ≡ false)
  pub through : (i j : ℕ) → i < 64 → bit seen i ≡ true → mem i aside ≡ false → bit todo i ≡ false → mem j (near i) ≡ true → bit seen j ≡ true
  pub rest : (k : ℕ) → k < 64 → bit left k ≡ (bit around k && not (bit seen k))

-- what is there at the beginning
pub reach_begins : (near : ℕ → List ℕ) (net : Network 64 near) (aside : List ℕ) (u around mask one left : ℕ) → u < 64 → mem u aside ≡ false
    → ((k : ℕ) → k < 64 → bit mask k ≡ mem k aside) → one ≡ 2 ^ u → left ≡ without around (bit_or mask one)
    → Reaching near aside u around (bit_or mask one) one left
reach_begins near net aside u around mask one left lu mu h e d = record {
  inside = λ k b t. or_true (mem k aside) (eqb k u) (sym (seen k b) ∙ t)
      (λ q. in_left k aside (component near aside u) q)
      (λ q. in_right k aside (component near aside u) (subst (λ (m : ℕ). mem m (component near aside u) ≡ true) (sym (eqb-true k u q)) ((component_grown 64 near net aside u lu mu).starts u (in_head u []))));
  old = λ k b m. seen k b ∙ or_left (eqb k u) m;
  start = seen u lu ∙ or_right (mem u aside) (eq-eqb u u refl);
  queued = λ k b t.
      let q : k ≡ u = eqb-true k u (sym (single k) ∙ t) in
      (seen k b ∙ or_right (mem k aside) (eq-eqb k u q), ap (λ (m : ℕ). mem m aside) q ∙ mu);
  through = λ i j b t m z n. or_true (mem i aside) (eqb i u) (sym (seen i b) ∙ t) (λ q. clash q m) (λ q. clash (single i ∙ q) z);
  rest = λ k b. ap (λ (m : ℕ). bit m k) d ∙ bit_less around (bit_or mask one) k;
}
  where
    single : (k : ℕ) → bit one k ≡ eqb k u
    single k = ap (λ (m : ℕ). bit m k) e ∙ bit_single u k

    seen : (k : ℕ) → k < 64 → bit (bit_or mask one) k ≡ (mem k aside || eqb k u)
    seen k b = bit_or_lem mask one k ∙ ap₂ (λ (p q : Bool). p || q) (h k b) (single k)

module _ (masks : List ℕ) (net : Network 64 (near_by masks)) {aside : List ℕ} {u around seen todo left : ℕ} (lu : u < 64) (mu : mem u aside ≡ false)
    (out : (k : ℕ) → mem k (these around) ≡ true → mem k aside ≡ false) (w : Reaching (near_by masks) aside u around seen todo left) where
  grown_u : Grown 64 (near_by masks) aside (u ∷ []) (component (near_by masks) aside u)
  grown_u = component_grown 64 (near_by masks) net aside u lu mu

  -- seen and not set aside: in the component
  reached : (k : ℕ) → k < 64 → bit seen k ≡ true → mem k aside ≡ false → mem k (component (near_by masks) aside u) ≡ true
  reached k b t m = in_append k aside (component (near_by masks) aside u) (w.inside k b t) (λ q. clash q m) (λ q. q)

  -- all of them are reached
  pub reach_all : left ≡ 0 → false ≡ some (λ v. not (mem v (component (near_by masks) aside u))) (these around)
  reach_all e = sym (some_none (λ v. not (mem v (component (near_by masks) aside u))) (these around) (λ v m. not_on (reached v (these_below around v m) (found v m) (out v m))))
    where
      found : (v : ℕ) → mem v (these around) ≡ true → bit seen v ≡ true
      found v m =
          let b = these_below around v m in
          on_not (bit seen v) (refuse (not (bit seen v)) (λ t. clash (w.rest v b ∙ and_both (sym (mem_these around v b) ∙ m) t) (ap (λ (z : ℕ). bit z v) e ∙ bit_none v)))

  -- nothing is left to go through, and some of them is not reached
  pub reach_stop : these todo ≡ [] → left ≢ 0 → left < 2 ^ 64 → true ≡ some (λ v. not (mem v (component (near_by masks) aside u))) (these around)
  unfolding mem
  reach_stop e d l =
      let v = count_trailing_zeros 64 left in
      let m : mem v (these left) ≡ true = first_in left d l in
      let b = (turn left d l).below in
      let p = and-true (bit around v) (not (bit seen v)) (sym (w.rest v b) ∙ sym (mem_these left v b) ∙ m) in
      sym (some_true (λ v. not (mem v (component (near_by masks) aside u))) v (these around) (mem_these around v b ∙ p.0)
      (not_off (refuse (mem v (component (near_by masks) aside u)) (λ t. clash (holds v t) (off_not (bit seen v) p.1)))))
    where
      holds : (k : ℕ) → mem k (component (near_by masks) aside u) ≡ true → bit seen k ≡ true
      holds k t = (and-true (bit seen k) (not (mem k aside))
          (grown_u.least (λ k. bit seen k && not (mem k aside))
          (λ i j h li n mj.
          let p = and-true (bit seen i) (not (mem i aside)) h in
          and_both (w.through i j li p.0 (off_not (mem i aside) p.1) (sym (mem_these todo i li) ∙ ap (mem i) e) n) (not_off mj))
          (λ k q. subst (λ (m : ℕ). (bit seen m && not (mem m aside)) ≡ true) (sym (in_single k u q)) (and_both w.start (not_off mu))) k t)).0

  -- j is the next, and `later` those after it
  module _ (j later : ℕ) (parts : these todo ≡ j ∷ these later) where
    abbrev mask : ℕ
    mask = get_or masks j 0

    pub next_low : j < 64
    next_low = item_below todo j (these later) parts

    now_queued : (bit seen j ≡ true) × (mem j aside ≡ false)
    now_queued = w.queued j next_low (sym (mem_these todo j next_low) ∙ ap (mem j) parts ∙ in_head j (these later))

    -- what is later was to do; what was to do is now or later
    later_todo : (k : ℕ) → k < 64 → bit later k ≡ true → bit todo k ≡ true
    later_todo k b t = sym (mem_these todo k b) ∙ ap (mem k) parts ∙ in_tail k j (these later) (mem_these later k b ∙ t)

    todo_later : (k : ℕ) → k < 64 → bit todo k ≡ true → bit later k ≡ false → k ≡ j
    todo_later k b t z = in_cons k j (these later) (sym (ap (mem k) parts) ∙ mem_these todo k b ∙ t) (λ q. q) (λ q. clash (sym (mem_these later k b) ∙ q) z)

    -- new is what the mask has and is not seen
    module _ (new : ℕ) (is : new ≡ without (get_or masks j 0) seen) where
      bit_new : (k : ℕ) → bit new k ≡ (bit (get_or masks j 0) k && not (bit seen k))
      bit_new k = ap (λ (z : ℕ). bit z k) is ∙ bit_less mask seen k

      new_is : (k : ℕ) → k < 64 → bit new k ≡ true → (mem k (near_by masks j) ≡ true) × (bit seen k ≡ false)
      new_is k b t =
          let p = and-true (bit mask k) (not (bit seen k)) (sym (bit_new k) ∙ t) in
          (mem_these mask k b ∙ p.0, off_not (bit seen k) p.1)

      new_free : (k : ℕ) → k < 64 → bit new k ≡ true → mem k aside ≡ false
      new_free k b t = refuse (mem k aside) (λ q. clash (w.old k b q) (new_is k b t).1)

      pub reach_turn : (left' : ℕ) → left' ≡ without left new → Reaching (near_by masks) aside u around (bit_or seen new) (bit_or (later) new) left'
      reach_turn left' el = record {
        inside = λ k b t. or_true (bit seen k) (bit new k) (sym (bit_or_lem seen new k) ∙ t)
            (λ q. w.inside k b q)
            (λ q. in_right k aside (component (near_by masks) aside u)
            (grown_u.closed j k (reached j next_low now_queued.0 now_queued.1) next_low (new_is k b q).0 (new_free k b q)));
        old = λ k b m. bit_or_lem seen new k ∙ or_left (bit new k) (w.old k b m);
        start = bit_or_lem seen new u ∙ or_left (bit new u) w.start;
        queued = λ k b t. or_true (bit later k) (bit new k) (sym (bit_or_lem later new k) ∙ t)
            (λ q. let p = w.queued k b (later_todo k b q) in (bit_or_lem seen new k ∙ or_left (bit new k) p.0, p.1))
            (λ q. (bit_or_lem seen new k ∙ or_right (bit seen k) q, new_free k b q));
        through = λ i k b t m z n.
            let off = or-false (bit later i) (bit new i) (sym (bit_or_lem later new i) ∙ z) in
            let was : bit seen i ≡ true = or_true (bit seen i) (bit new i) (sym (bit_or_lem seen new i) ∙ t) (λ q. q) (λ q. clash q off.1) in
            bit_or_lem seen new k ∙ cases (bit todo i)
            (λ q.
            let here : i ≡ j = todo_later i b q off.0 in
            let lk : k < 64 = apart_below k (net.apart i) n in
            cases (bit seen k) (λ y. or_left (bit new k) y)
            (λ y. or_right (bit seen k) (bit_new k ∙ and_both (sym (mem_these mask k lk) ∙ subst (λ (h : ℕ). mem k (near_by masks h) ≡ true) here n) (not_off y))))
            (λ q. or_left (bit new k) (w.through i k b was m q n));
        rest = λ k b. ap (λ (z : ℕ). bit z k) el ∙ bit_less left new k ∙ ap (λ (c : Bool). c && not (bit new k)) (w.rest k b) ∙ tidy (bit around k) (bit seen k) (bit new k) ∙ ap (λ (c : Bool). bit around k && not c) (sym (bit_or_lem seen new k));
      }
        where
          tidy : (x y z : Bool) → ((x && not y) && not z) ≡ (x && not (y || z))
          tidy true true z = refl
          tidy true false z = refl
          tidy false y z = refl

      -- seen gains what is new, and it was not there
      module _ (ls : seen < 2 ^ 64) (new-low : new < 2 ^ 64) where
        apart_new : bit_and seen new ≡ 0
        apart_new = go (ℕ_discrete (bit_and seen new) 0)
          where
            go : Dec (bit_and seen new ≡ 0) → bit_and seen new ≡ 0
            go (yes e) = e
            go (no n) =
                let m = first_in (bit_and seen new) n (and_lt 64 seen new ls new-low) in
                let b = these_below (bit_and seen new) (count_trailing_zeros 64 (bit_and seen new)) m in
                let p = and-true (bit seen (count_trailing_zeros 64 (bit_and seen new))) (bit new (count_trailing_zeros 64 (bit_and seen new)))
                (sym (bit_and_lem seen new (count_trailing_zeros 64 (bit_and seen new))) ∙ sym (mem_these (bit_and seen new) (count_trailing_zeros 64 (bit_and seen new)) b) ∙ m) in
                clash p.0 (new_is (count_trailing_zeros 64 (bit_and seen new)) b p.1).1

        pub seen_low : bit_or seen new < 2 ^ 64
        seen_low = or_lt 64 seen new ls new-low

        -- what is not seen as a number, and how many are to do
        pub reach_less : 2 ^ 64 - bit_or seen new + length (these (bit_or later new)) < 2 ^ 64 - seen + length (these todo)
        reach_less = omega (arith, or_disjoint seen new apart_new, these_or later new, these_few new new-low, ap length parts, seen_low)
