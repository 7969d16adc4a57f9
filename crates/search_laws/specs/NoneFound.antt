-- Where the search returns none it has looked everywhere: a decision that it passed over is in a component that it had seen, which is as large as its own.
-- Assumes nothing.
use Rattle.std.specs.Prelude.{◌≡◌, Bool, ◌&&◌, ℕ, ◌<◌, ◌≤◌, length}
use Rattle.std.proofs.Math.Path.{refl, ap}
use Rattle.std.proofs.Common.{sym, ◌∙◌, arith}
use Rattle.std.proofs.Math.Bool.{true, false, cond}
use mathlib.Core.List.{List, [], ◌∷◌, ◌++◌}
use Rattle.std.proofs.Math.Dec.{leb}
use Rattle.whole.specs.Words.{mem}
use Rattle.whole.specs.Tests.{clash, refuse}
use Rattle.whole.specs.Members.{nobody, in_cons, in_head, in_tail, in_append, in_left, few, apart_below}
use Rattle.rules.specs.SmallBlock.{component, is_cut, Block, none, members, or_else, small, among, over_cuts, over_removed, search}
use Rattle.cost_laws.specs.Found.{none_members}
use Rattle.cost_laws.specs.Growth.{Network, Grown, component_grown, component_back, component_same}

neither : (x y : Block) → or_else x y ≡ none → (x ≡ none) × (y ≡ none)
neither none y e = (refl, e)
neither (members b) y e = absurd (none_members (sym e))

module _ (n : ℕ) (near : ℕ → List ℕ) (net : Network n near) where
  module _ (aside : List ℕ) where
    -- a component is as large as that of each of its members
    same_size : (u v : ℕ) → u < n → v < n → mem u aside ≡ false → mem v aside ≡ false → mem v (component near aside u) ≡ true
        → length (component near aside u) ≡ length (component near aside v)
    same_size u v lu lv mu mv h =
        let cu : Grown n near aside (u ∷ []) (component near aside u) = component_grown n near net aside u lu mu in
        let cv : Grown n near aside (v ∷ []) (component near aside v) = component_grown n near net aside v lv mv in
        let there : length (component near aside u) ≤ length (component near aside v) = few (component near aside v) cu.apart (λ k m. component_same n near net aside u v k lu lv mu mv h m) in
        let back : length (component near aside v) ≤ length (component near aside u) =
        few (component near aside u) cv.apart (λ k m. component_same n near net aside v u k lv lu mv mu (component_back n near net aside u v lu lv mu mv h) m) in
        omega arith

    -- none of these that is not set aside is in a small component
    abbrev pub NoneSmall : List ℕ → Type 0
    NoneSmall seen = (k : ℕ) → mem k seen ≡ true → mem k aside ≡ false → small (component near aside k) ≡ false

    among_none : (seen ss : List ℕ) → NoneSmall seen → ((k : ℕ) → mem k aside ≡ true → mem k seen ≡ true) → ((k : ℕ) → mem k ss ≡ true → k < n)
        → among near aside seen ss ≡ none → NoneSmall ss
    unfolding among
    among_none seen [] h held low e = λ k m out. nobody k m
    among_none seen (s ∷ ss) h held low e = first (mem s seen) refl e
        (λ t. among_none seen ss h held (λ k m. low k (in_tail k s ss m)) t)
        (λ g t. among_none (seen ++ component near aside s) ss g (λ k m. in_left k seen (component near aside s) (held k m)) (λ k m. low k (in_tail k s ss m)) t)
      where
        wider : mem s aside ≡ false → small (component near aside s) ≡ false → NoneSmall (seen ++ component near aside s)
        wider out big k m free = in_append k seen (component near aside s) m (λ t. h k t free)
            (λ t.
            let cs : Grown n near aside (s ∷ []) (component near aside s) = component_grown n near net aside s (low s (in_head s ss)) out in
            ap (λ (z : ℕ). leb 2 z && leb z 8) (sym (same_size s k (low s (in_head s ss)) (apart_below k cs.apart t) out free t)) ∙ big)

        second : (c : Bool) → small (component near aside s) ≡ c → mem s seen ≡ false
            → cond c (members (component near aside s)) (among near aside (seen ++ component near aside s) ss) ≡ none
            → (NoneSmall (seen ++ component near aside s) → among near aside (seen ++ component near aside s) ss ≡ none → NoneSmall ss)
            → NoneSmall (s ∷ ss)
        second true t new e f k m out = absurd (never e)
          where
            never : members (component near aside s) ≡ none → ⊥
            never e = let z : ◌≡◌ {A = ℕ} 0 1 = cc in omega arith
        second false t new e f k m out = in_cons k s ss m
            (λ q. ap (λ (j : ℕ). small (component near aside j)) q ∙ t)
            (λ q. f (wider (refuse (mem s aside) (λ y. clash (held s y) new)) t) e k q out)

        first : (c : Bool) → mem s seen ≡ c
            → cond c (among near aside seen ss) (cond (small (component near aside s)) (members (component near aside s)) (among near aside (seen ++ component near aside s) ss)) ≡ none
            → (among near aside seen ss ≡ none → NoneSmall ss)
            → (NoneSmall (seen ++ component near aside s) → among near aside (seen ++ component near aside s) ss ≡ none → NoneSmall ss)
            → NoneSmall (s ∷ ss)
        first true old e p q k m out = in_cons k s ss m (λ y. h k (ap (λ (j : ℕ). mem j seen) y ∙ old) out) (λ y. p e k y out)
        first false new e p q k m out = second (small (component near aside s)) refl new e q k m out

  cuts_none : (live removed cs : List ℕ) → over_cuts near live removed cs ≡ none → (c : ℕ) → mem c cs ≡ true → is_cut near removed c ≡ true
      → among near (c ∷ removed) (c ∷ removed) live ≡ none
  unfolding over_cuts
  cuts_none live removed [] e c m t = nobody c m
  cuts_none live removed (d ∷ cs) e c m t = in_cons c d cs m
      (λ q. here (is_cut near removed d) (ap (is_cut near removed) (sym q) ∙ t) e q)
      (λ q. cuts_none live removed cs (later (is_cut near removed d) e) c q t)
    where
      here : (b : Bool) → b ≡ true → cond b (or_else (among near (d ∷ removed) (d ∷ removed) live) (over_cuts near live removed cs)) (over_cuts near live removed cs) ≡ none
          → c ≡ d → among near (c ∷ removed) (c ∷ removed) live ≡ none
      here true y e q = ap (λ (j : ℕ). among near (j ∷ removed) (j ∷ removed) live) q ∙ (neither (among near (d ∷ removed) (d ∷ removed) live) (over_cuts near live removed cs) e).0
      here false y e q = clash y refl

      later : (b : Bool) → cond b (or_else (among near (d ∷ removed) (d ∷ removed) live) (over_cuts near live removed cs)) (over_cuts near live removed cs) ≡ none → over_cuts near live removed cs ≡ none
      later true e = (neither (among near (d ∷ removed) (d ∷ removed) live) (over_cuts near live removed cs) e).1
      later false e = e

  removed_none : (live rs : List ℕ) → over_removed near live rs ≡ none → (r : ℕ) → mem r rs ≡ true → over_cuts near live (r ∷ []) live ≡ none
  unfolding over_removed
  removed_none live [] e r m = nobody r m
  removed_none live (q ∷ rs) e r m =
      let p = neither (over_cuts near live (q ∷ []) live) (over_removed near live rs) e in
      in_cons r q rs m (λ y. ap (λ (j : ℕ). over_cuts near live (j ∷ []) live) y ∙ p.0) (λ y. removed_none live rs p.1 r y)

  module _ (live : List ℕ) (low : (k : ℕ) → mem k live ≡ true → k < n) where
    none_small : (removed : List ℕ) → over_cuts near live removed live ≡ none → (c : ℕ) → mem c live ≡ true → is_cut near removed c ≡ true → NoneSmall (c ∷ removed) live
    none_small removed e c m t = among_none (c ∷ removed) (c ∷ removed) live (λ k p q. clash p q) (λ k p. p) low (cuts_none live removed live e c m t)

    pub none_unremoved : search near live ≡ none → (c : ℕ) → mem c live ≡ true → is_cut near [] c ≡ true → NoneSmall (c ∷ []) live
    unfolding search
    none_unremoved e = none_small [] (neither (over_cuts near live [] live) (over_removed near live live) e).0

    pub none_removed : search near live ≡ none → (r : ℕ) → mem r live ≡ true → (c : ℕ) → mem c live ≡ true → is_cut near (r ∷ []) c ≡ true → NoneSmall (c ∷ r ∷ []) live
    unfolding search
    none_removed e r m = none_small (r ∷ []) (removed_none live live (neither (over_cuts near live [] live) (over_removed near live live) e).1 r m)
