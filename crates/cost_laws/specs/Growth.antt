-- Growing a component: with c and the removed one set aside, `component` gives the smallest set that holds its seed and every neighbour, not set aside,
-- of what it holds. So its outside neighbours are among those set aside, and what two components share they share whole.
-- Assumes nothing.
use Rattle.std.specs.Prelude.{◌≡◌, Bool, true, false, ◌&&◌, length}
use Rattle.std.proofs.Math.Path.{refl, ap, subst}
use Rattle.std.proofs.Common.{sym, ◌∙◌, arith, ne_eqb}
use Rattle.std.proofs.Math.Bool.{not}
use mathlib.Core.List.{List, [], ◌∷◌, ◌++◌, append_assoc, append-nil}
use Prim.Native.Nat.{ℕ, zero, suc, ◌+◌, ◌<◌, ◌≤◌}
use Rattle.std.proofs.Math.ListN.{length-append}
use Rattle.whole.specs.Words.{is_zero_z, upto, mem, some}
use Rattle.rules.specs.Graph.{Graph, edge, neighbours}
use Rattle.cost_laws.specs.CostLaws.{Shaped}
use Rattle.rules.specs.SmallBlock.{fresh, grow, component, besides, is_cut}
use Rattle.whole.specs.Pigeon.{Apart, none, one, pigeon}
use Rattle.whole.specs.Tests.{or_none, or_left, cases, clash, refuse, not_off, not_on, on_not, off_not, same_test}
use Rattle.whole.specs.Members.{nobody, in_single, in_head, in_append, in_left, in_right, out_append, out_both, in_those, to_those, in_upto, upto_in, some_false, some_none, apart_join, apart_those, apart_upto, apart_below}

-- n decisions and their neighbours: different decisions below n, none its own, each the other's
pub record Network (n : ℕ) (near : ℕ → List ℕ) : Type 0 where
  pub few : n ≤ 64
  pub apart : (i : ℕ) → Apart n (near i)
  pub self : (i : ℕ) → i < n → mem i (near i) ≡ false
  pub both : (i j : ℕ) → i < n → mem j (near i) ≡ true → mem i (near j) ≡ true

module _ (n : ℕ) (near : ℕ → List ℕ) where
  -- S holds every neighbour, not set aside, of what it holds
  abbrev pub Closed : List ℕ → (ℕ → Bool) → Type 0
  Closed aside S = (i j : ℕ) → S i ≡ true → i < n → mem j (near i) ≡ true → mem j aside ≡ false → S j ≡ true

  -- r is grown from `start`
  pub record Grown (aside start r : List ℕ) : Type 0 where
    pub apart : Apart n r
    pub starts : (k : ℕ) → mem k start ≡ true → mem k r ≡ true
    pub avoids : (k : ℕ) → mem k aside ≡ true → mem k r ≡ false
    pub closed : Closed aside (λ k. mem k r)
    pub least : (S : ℕ → Bool) → Closed aside S → ((k : ℕ) → mem k start ≡ true → S k ≡ true) → (k : ℕ) → mem k r ≡ true → S k ≡ true

  -- on the way: `old` has been gone through, `new` has not
  pub record Growing (aside old new : List ℕ) : Type 0 where
    pub apart : Apart n (old ++ new)
    pub avoids : (k : ℕ) → mem k aside ≡ true → mem k (old ++ new) ≡ false
    pub through : (i j : ℕ) → mem i old ≡ true → i < n → mem j (near i) ≡ true → mem j aside ≡ false → mem j (old ++ new) ≡ true

module _ (n : ℕ) (near : ℕ → List ℕ) (net : Network n near) (aside : List ℕ) where
  in_fresh : (l : List ℕ) (i k : ℕ) → mem k (fresh near aside l i) ≡ true → (mem k (near i) ≡ true) × (mem k aside ≡ false) × (mem k l ≡ false)
  in_fresh l i k h =
      let p = in_those (λ w. not (mem w (aside ++ l))) k (near i) h in
      let q = out_append k aside l (off_not (mem k (aside ++ l)) p.1) in
      (p.0, q.0, q.1)

  pub regroup : (old new more : List ℕ) (i : ℕ) → (old ++ i ∷ []) ++ (new ++ more) ≡ (old ++ i ∷ new) ++ more
  regroup old new more i = simp append_assoc

  pub grow_turn : (old new : List ℕ) (i : ℕ) → Growing n near aside old (i ∷ new) → Growing n near aside (old ++ i ∷ []) (new ++ fresh near aside (old ++ i ∷ new) i)
  unfolding mem
  grow_turn old new i w = record {
    apart = rw (regroup old new (fresh near aside l i) i) (apart_join w.apart (apart_those (λ w. not (mem w (aside ++ l))) (net.apart i))
        (λ k m. refuse (mem k (fresh near aside l i)) (λ t. clash m (in_fresh l i k t).2)));
    avoids = λ k m. rw (regroup old new (fresh near aside l i) i) (out_both k l (fresh near aside l i) (w.avoids k m)
        (refuse (mem k (fresh near aside l i)) (λ t. clash m (in_fresh l i k t).1)));
    through = λ k j mk lk e m. rw (regroup old new (fresh near aside l i) i) (in_append k old (i ∷ []) mk
        (λ t. in_left j l (fresh near aside l i) (w.through k j t lk e m))
        (λ t. found j (subst (λ (h : ℕ). mem j (near h) ≡ true) (in_single k i t) e) m));
  }
    where
      l : List ℕ
      l = old ++ i ∷ new

      found : (j : ℕ) → mem j (near i) ≡ true → mem j aside ≡ false → mem j (l ++ fresh near aside l i) ≡ true
      found j e m = cases (mem j l)
          (λ t. in_left j l (fresh near aside l i) t)
          (λ t. in_right j l (fresh near aside l i) (to_those (λ w. not (mem w (aside ++ l))) j (near i) e (not_off (out_both j aside l m t))))

  finished : (old : List ℕ) → Growing n near aside old [] → Grown n near aside (old ++ []) old
  finished old w = record {
    apart = rw append-nil at w.apart;
    starts = λ k h. rw append-nil at h;
    avoids = λ k m. rw append-nil at (w.avoids k m);
    closed = λ i j h li e m. rw append-nil at (w.through i j h li e m);
    least = λ S c h k m. h k (rw append-nil m);
  }

  -- no fuel is left and something is new: more than n different decisions
  full : (old new : List ℕ) (i : ℕ) → Growing n near aside old (i ∷ new) → n ≤ length old + 0 → ⊥
  full old new i w h = omega (arith, pigeon n w.apart, length-append old (i ∷ new))

  -- one more turn: what it finds belongs
  widen : (old new : List ℕ) (i : ℕ) (r : List ℕ) → Growing n near aside old (i ∷ new)
      → Grown n near aside ((old ++ i ∷ []) ++ (new ++ fresh near aside (old ++ i ∷ new) i)) r → Grown n near aside (old ++ i ∷ new) r
  widen old new i r w t = record {
    apart = t.apart;
    starts = λ k m. t.starts k (rw (regroup old new (fresh near aside (old ++ i ∷ new) i) i) (in_left k (old ++ i ∷ new) (fresh near aside (old ++ i ∷ new) i) m));
    avoids = t.avoids;
    closed = t.closed;
    least = λ S c h k m. t.least S c
        (λ j q. in_append j (old ++ i ∷ new) (fresh near aside (old ++ i ∷ new) i) (rw (regroup old new (fresh near aside (old ++ i ∷ new) i) i) at q)
        (λ z. h j z)
        (λ z. let p = in_fresh (old ++ i ∷ new) i j z in c i j (h i here) (apart_below i w.apart here) p.0 p.1))
        k m;
  }
    where
      here : mem i (old ++ i ∷ new) ≡ true
      here = in_right i old (i ∷ new) (in_head i new)

  -- each turn goes through one decision, and none twice: with n turns the frontier is exhausted
  grown : (f : ℕ) (old new : List ℕ) → Growing n near aside old new → n ≤ length old + f → Grown n near aside (old ++ new) (grow near f aside old new)
  unfolding grow
  grown zero old [] w h = subst (λ (r : List ℕ). Grown n near aside (old ++ []) r) (sym (append-nil old)) (finished old w)
  grown zero old (i ∷ new) w h = absurd (full old new i w h)
  grown (suc f) old [] w h = finished old w
  grown (suc f) old (i ∷ new) w h =
      widen old new i (grow near f aside (old ++ i ∷ []) (new ++ fresh near aside (old ++ i ∷ new) i)) w
      (grown f (old ++ i ∷ []) (new ++ fresh near aside (old ++ i ∷ new) i) (grow_turn old new i w) (omega (arith, length-append old (i ∷ []))))

  pub grow_begins : (s : ℕ) → s < n → mem s aside ≡ false → Growing n near aside [] (s ∷ [])
  unfolding mem
  grow_begins s l m = record {
    apart = one l refl none;
    avoids = λ k h. refuse (mem k (s ∷ [])) (λ t. clash h (ap (λ (j : ℕ). mem j aside) (in_single k s t) ∙ m));
    through = λ i j h li e q. nobody i h;
  }

  pub component_grown : (s : ℕ) → s < n → mem s aside ≡ false → Grown n near aside (s ∷ []) (component near aside s)
  component_grown s l m = grown 64 [] (s ∷ []) (grow_begins s l m) (omega (arith, net.few))

  -- what is neither set aside nor in a component: no edge leads into it
  outside_closed : (v : ℕ) → v < n → mem v aside ≡ false → Closed n near aside (λ k. not (mem k (aside ++ component near aside v)))
  outside_closed v lv mv i j ni li e mj =
      let cv : Grown n near aside (v ∷ []) (component near aside v) = component_grown v lv mv in
      let p = out_append i aside (component near aside v) (off_not (mem i (aside ++ component near aside v)) ni) in
      not_off (out_both j aside (component near aside v) mj
      (refuse (mem j (component near aside v)) (λ z. clash (cv.closed j i z (apart_below j (net.apart i) e) (net.both i j li e) p.0) p.1)))

  only : (u : ℕ) (S : ℕ → Bool) → S u ≡ true → (k : ℕ) → mem k (u ∷ []) ≡ true → S k ≡ true
  only u S h k m = ap S (in_single k u m) ∙ h

  -- v is reached from u: so is u from v
  pub component_back : (u v : ℕ) → u < n → v < n → mem u aside ≡ false → mem v aside ≡ false
      → mem v (component near aside u) ≡ true → mem u (component near aside v) ≡ true
  component_back u v lu lv mu mv h =
      let cu : Grown n near aside (u ∷ []) (component near aside u) = component_grown u lu mu in
      let cv : Grown n near aside (v ∷ []) (component near aside v) = component_grown v lv mv in
      on_not (mem u (component near aside v)) (refuse (not (mem u (component near aside v)))
      (λ q. clash (in_right v aside (component near aside v) (cv.starts v (in_head v [])))
      (off_not (mem v (aside ++ component near aside v)) (cu.least (λ k. not (mem k (aside ++ component near aside v))) (outside_closed v lv mv)
      (only u (λ k. not (mem k (aside ++ component near aside v))) (not_off (out_both u aside (component near aside v) mu (off_not (mem u (component near aside v)) q)))) v h))))

  pub component_same : (u v k : ℕ) → u < n → v < n → mem u aside ≡ false → mem v aside ≡ false
      → mem v (component near aside u) ≡ true → mem k (component near aside u) ≡ true → mem k (component near aside v) ≡ true
  component_same u v k lu lv mu mv h t =
      (component_grown u lu mu).least (λ k. mem k (component near aside v)) (component_grown v lv mv).closed
      (only u (λ k. mem k (component near aside v)) (component_back u v lu lv mu mv h)) k t

-- ---- the cut test from the first neighbour alone
-- some of them is not reached from the first
abbrev pub parted : (ℕ → List ℕ) → List ℕ → List ℕ → Bool
parted near aside [] = false
parted near aside (u ∷ us) = some (λ v. not (mem v (component near aside u))) (u ∷ us)

module _ (n : ℕ) (near : ℕ → List ℕ) (net : Network n near) (removed : List ℕ) (c : ℕ) (lc : c < n) where
  pub free : (u : ℕ) → mem u (besides near removed c) ≡ true → (u < n) × (mem u (c ∷ removed) ≡ false)
  unfolding mem
  free u h =
      let p = in_those (λ u. not (mem u removed)) u (near c) h in
      (apart_below u (net.apart c) p.0, or_none (ne_eqb u c (λ e. clash p.0 (ap (λ (k : ℕ). mem k (near c)) e ∙ net.self c lc))) (off_not (mem u removed) p.1))

  abbrev apart_from : ℕ → ℕ → Bool
  apart_from u v = not (mem v (component near (c ∷ removed) u))

  first_is_enough : (ns : List ℕ) → ((u : ℕ) → mem u ns ≡ true → (u < n) × (mem u (c ∷ removed) ≡ false))
      → some (λ u. some (apart_from u) ns) ns ≡ parted near (c ∷ removed) ns
  unfolding some
  first_is_enough [] h = refl
  first_is_enough (u₀ ∷ us) h = same_test (some (λ u. some (apart_from u) (u₀ ∷ us)) (u₀ ∷ us)) (some (apart_from u₀) (u₀ ∷ us))
      (λ t. on_not (some (apart_from u₀) (u₀ ∷ us)) (refuse (not (some (apart_from u₀) (u₀ ∷ us))) (λ q. clash t (none_apart (off_not (some (apart_from u₀) (u₀ ∷ us)) q)))))
      (λ t. or_left (some (λ u. some (apart_from u) (u₀ ∷ us)) us) t)
    where
      h₀ : (u₀ < n) × (mem u₀ (c ∷ removed) ≡ false)
      h₀ = h u₀ (in_head u₀ us)

      all_in : some (apart_from u₀) (u₀ ∷ us) ≡ false → (v : ℕ) → mem v (u₀ ∷ us) ≡ true → mem v (component near (c ∷ removed) u₀) ≡ true
      all_in q v m = on_not (mem v (component near (c ∷ removed) u₀)) (some_false (apart_from u₀) v (u₀ ∷ us) q m)

      none_apart : some (apart_from u₀) (u₀ ∷ us) ≡ false → some (λ u. some (apart_from u) (u₀ ∷ us)) (u₀ ∷ us) ≡ false
      none_apart q = some_none (λ u. some (apart_from u) (u₀ ∷ us)) (u₀ ∷ us)
          (λ u mu. some_none (apart_from u) (u₀ ∷ us)
          (λ v mv. not_on (component_same n near net (c ∷ removed) u₀ u v h₀.0 (h u mu).0 h₀.1 (h u mu).1 (all_in q u mu) (all_in q v mv))))

  pub cut_from_first : is_cut near removed c ≡ (not (mem c removed) && parted near (c ∷ removed) (besides near removed c))
  unfolding is_cut
  cut_from_first = ap (λ (b : Bool). not (mem c removed) && b) (first_is_enough (besides near removed c) free)

-- ---- a graph's neighbours
pub in_nbrs : (g : Graph) (i j : ℕ) → mem j (neighbours g i) ≡ true → (j < g.n) × (is_zero_z (edge g i j) ≡ false)
unfolding neighbours
in_nbrs g i j h = let p = in_those (λ j. not (is_zero_z (edge g i j))) j (upto g.n) h in (upto_in j g.n p.0, off_not (is_zero_z (edge g i j)) p.1)

pub to_nbrs : (g : Graph) (i j : ℕ) → j < g.n → is_zero_z (edge g i j) ≡ false → mem j (neighbours g i) ≡ true
unfolding neighbours
to_nbrs g i j l h = to_those (λ j. not (is_zero_z (edge g i j))) j (upto g.n) (in_upto j g.n l) (not_off h)

pub neighbours_apart : (g : Graph) (i : ℕ) → Apart g.n (neighbours g i)
unfolding neighbours
neighbours_apart g i = apart_those (λ j. not (is_zero_z (edge g i j))) (apart_upto g.n)

pub network : (g : Graph) → Shaped g → Network g.n (neighbours g)
unfolding neighbours
network g s = record {
  few = s.few;
  apart = neighbours_apart g;
  self = λ i l. refuse (mem i (neighbours g i)) (λ t. clash (ap is_zero_z (s.self i l)) (in_nbrs g i i t).1);
  both = λ i j l m. let p = in_nbrs g i j m in to_nbrs g j i l (ap is_zero_z (s.both j i p.0 l) ∙ p.1);
}
