-- What the search for a block returns: different active decisions, 2 to 8 of them, with at most two outside neighbours. So the laws of BlockCost hold of it.
-- Assumes nothing.
use Rattle.std.specs.Prelude.{◌≡◌, refl, Bool, true, false, cond, not, List, [], ◌∷◌, ◌++◌, ℕ, ◌<◌, ◌≤◌, leb, length, ◌≤ℤ◌}
use Rattle.std.proofs.Common.{sym, ap, ◌∙◌, subst, arith, leb-true}
use Rattle.whole.specs.Words.{is_zero_z, upto, mem, some}
use Rattle.rules.specs.Graph.{Graph, edge, active, actives, neighbours}
use Rattle.cost_laws.specs.CostLaws.{cost, Shaped}
use Rattle.rules.specs.SmallBlock.{component, is_cut, Block, none, members, small, among, or_else, over_cuts, over_removed, search, find_block, boundary, eliminate_block}
use Rattle.whole.specs.Pigeon.{Apart}
use Rattle.whole.specs.Tests.{clash, refuse, on_not, off_not, and-true, or_true}
use Rattle.whole.specs.Members.{in_single, in_head, in_tail, in_left, in_those, upto_in, few, apart_below}
use Rattle.cost_laws.specs.Growth.{Grown, component_grown, to_nbrs, network}
use Rattle.cost_laws.specs.BlockCost.{boundary_apart, in_boundary, block_least}

-- an edge leads to an active decision only
abbrev pub Tidy : Graph → Type 0
Tidy g = (i j : ℕ) → i < g.n → mem j (neighbours g i) ≡ true → active g j ≡ true

-- b is the component of a seed, with `aside` set aside
pub record SeedComponent (g : Graph) (aside b : List ℕ) : Type 0 where
  pub seed : ℕ
  pub is : b ≡ component (neighbours g) aside seed
  pub live : mem seed (actives g) ≡ true
  pub free : mem seed aside ≡ false
  pub size : small b ≡ true

pub in_actives : (g : Graph) (k : ℕ) → mem k (actives g) ≡ true → (k < g.n) × (active g k ≡ true)
unfolding actives
in_actives g k h = let p = in_those (λ i. active g i) k (upto g.n) h in (upto_in k g.n p.0, p.1)

-- what is returned is none or members, not both
pub none_members : {b : List ℕ} → none ≡ members b → ⊥
none_members e = let z : ◌≡◌ {A = ℕ} 0 1 = cc in omega arith

among_taken : (g : Graph) (aside seen ss b : List ℕ) → ((k : ℕ) → mem k aside ≡ true → mem k seen ≡ true) → ((k : ℕ) → mem k ss ≡ true → mem k (actives g) ≡ true)
    → among (neighbours g) aside seen ss ≡ members b → SeedComponent g aside b
unfolding among
among_taken g aside seen [] b h live e = absurd (none_members e)
among_taken g aside seen (s ∷ ss) b h live e = first (mem s seen) refl e
    (λ t. among_taken g aside seen ss b h (λ k m. live k (in_tail k s ss m)) t)
    (λ t. among_taken g aside (seen ++ component (neighbours g) aside s) ss b (λ k m. in_left k seen (component (neighbours g) aside s) (h k m)) (λ k m. live k (in_tail k s ss m)) t)
  where
    second : (c : Bool) → small (component (neighbours g) aside s) ≡ c → mem s seen ≡ false
        → cond c (members (component (neighbours g) aside s)) (among (neighbours g) aside (seen ++ component (neighbours g) aside s) ss) ≡ members b
        → (among (neighbours g) aside (seen ++ component (neighbours g) aside s) ss ≡ members b → SeedComponent g aside b) → SeedComponent g aside b
    second true t n e f =
        let same : component (neighbours g) aside s ≡ b = cc in
        record {
          seed = s;
          is = sym same;
          live = live s (in_head s ss);
          free = refuse (mem s aside) (λ q. clash (h s q) n);
          size = ap small (sym same) ∙ t;
        }
    second false t n e f = f e

    first : (c : Bool) → mem s seen ≡ c
        → cond c (among (neighbours g) aside seen ss) (cond (small (component (neighbours g) aside s)) (members (component (neighbours g) aside s)) (among (neighbours g) aside (seen ++ component (neighbours g) aside s) ss)) ≡ members b
        → (among (neighbours g) aside seen ss ≡ members b → SeedComponent g aside b) → (among (neighbours g) aside (seen ++ component (neighbours g) aside s) ss ≡ members b → SeedComponent g aside b) → SeedComponent g aside b
    first true n e p q = p e
    first false n e p q = second (small (component (neighbours g) aside s)) refl n e q

either : (x y : Block) (b : List ℕ) {P : Type 0} → or_else x y ≡ members b → (x ≡ members b → P) → (y ≡ members b → P) → P
either none y b e p q = q e
either (members m) y b e p q = p e

-- set aside: a cut, and at most one removed
pub record Cut (g : Graph) (removed b : List ℕ) : Type 0 where
  pub cut : ℕ
  pub is : is_cut (neighbours g) removed cut ≡ true
  pub live : mem cut (actives g) ≡ true
  pub taken : SeedComponent g (cut ∷ removed) b

over_cuts_lem : (g : Graph) (removed cs b : List ℕ) → ((k : ℕ) → mem k cs ≡ true → mem k (actives g) ≡ true)
    → over_cuts (neighbours g) (actives g) removed cs ≡ members b → Cut g removed b
unfolding over_cuts
over_cuts_lem g removed [] b h e = absurd (none_members e)
over_cuts_lem g removed (c ∷ cs) b h e = test (is_cut (neighbours g) removed c) refl e (λ t. over_cuts_lem g removed cs b (λ k m. h k (in_tail k c cs m)) t)
  where
    test : (t : Bool) → is_cut (neighbours g) removed c ≡ t
        → cond t (or_else (among (neighbours g) (c ∷ removed) (c ∷ removed) (actives g)) (over_cuts (neighbours g) (actives g) removed cs)) (over_cuts (neighbours g) (actives g) removed cs) ≡ members b
        → (over_cuts (neighbours g) (actives g) removed cs ≡ members b → Cut g removed b) → Cut g removed b
    test false q e f = f e
    test true q e f = either (among (neighbours g) (c ∷ removed) (c ∷ removed) (actives g)) (over_cuts (neighbours g) (actives g) removed cs) b e
        (λ t. record { cut = c; is = q; live = h c (in_head c cs); taken = among_taken g (c ∷ removed) (c ∷ removed) (actives g) b (λ k m. m) (λ k m. m) t })
        f

-- removed is none, or one active decision
pub data Removed (g : Graph) : List ℕ → Type 0 where
  nothing : Removed g []
  single : {r : ℕ} → mem r (actives g) ≡ true → Removed g (r ∷ [])

pub removed_few : {g : Graph} {removed : List ℕ} → Removed g removed → length removed ≤ 1
removed_few nothing = omega arith
removed_few (single m) = omega arith

-- what a search returns
pub record FoundBy (g : Graph) (b : List ℕ) : Type 0 where
  pub removed : List ℕ
  pub lone : Removed g removed
  pub by : Cut g removed b

over_removed_lem : (g : Graph) (rs b : List ℕ) → ((k : ℕ) → mem k rs ≡ true → mem k (actives g) ≡ true) → over_removed (neighbours g) (actives g) rs ≡ members b → FoundBy g b
unfolding over_removed
over_removed_lem g [] b h e = absurd (none_members e)
over_removed_lem g (r ∷ rs) b h e = either (over_cuts (neighbours g) (actives g) (r ∷ []) (actives g)) (over_removed (neighbours g) (actives g) rs) b e
    (λ t. record { removed = r ∷ []; lone = single (h r (in_head r rs)); by = over_cuts_lem g (r ∷ []) (actives g) b (λ k m. m) t })
    (λ t. over_removed_lem g rs b (λ k m. h k (in_tail k r rs m)) t)

pub found_by : (g : Graph) (b : List ℕ) → find_block g ≡ members b → FoundBy g b
unfolding find_block search
found_by g b e = either (over_cuts (neighbours g) (actives g) [] (actives g)) (over_removed (neighbours g) (actives g) (actives g)) b e
    (λ t. record { removed = []; lone = nothing; by = over_cuts_lem g [] (actives g) b (λ k m. m) t })
    (λ t. over_removed_lem g (actives g) b (λ k m. m) t)

-- ---- so
pub some_witness : (p : ℕ → Bool) (xs : List ℕ) {P : Type 0} → some p xs ≡ true → ((k : ℕ) → mem k xs ≡ true → p k ≡ true → P) → P
unfolding some
some_witness p [] h f = clash h refl
some_witness p (x ∷ xs) h f = or_true (p x) (some p xs) h (λ t. f x (in_head x xs) t) (λ t. some_witness p xs t (λ k m q. f k (in_tail k x xs m) q))

-- an outside neighbour of a component is set aside
pub boundary_aside : (g : Graph) (aside b : List ℕ) (start : List ℕ) → Grown g.n (neighbours g) aside start b → (k : ℕ) → mem k (boundary g b) ≡ true → mem k aside ≡ true
boundary_aside g aside b start w k h =
    let p = in_boundary g b k h in
    some_witness (λ i. not (is_zero_z (edge g i k))) b p.2
    (λ i mi e. on_not (mem k aside) (refuse (not (mem k aside))
    (λ t. clash (w.closed i k mi (apart_below i w.apart mi) (to_nbrs g i k p.0 (off_not (is_zero_z (edge g i k)) e)) (off_not (mem k aside) t)) p.1)))

pub record SmallBlock (g : Graph) (b : List ℕ) : Type 0 where
  pub apart : Apart g.n b
  pub two : 2 ≤ length b
  pub eight : length b ≤ 8
  pub narrow : length (boundary g b) ≤ 2

module _ (g : Graph) (b : List ℕ) (s : Shaped g) (e : find_block g ≡ members b) where
  abbrev by : FoundBy g b
  by = found_by g b e

  -- what was set aside: the cut, and the removed one
  abbrev pub around : List ℕ
  around = (found_by g b e).by.cut ∷ (found_by g b e).removed

  abbrev seed : ℕ
  seed = (found_by g b e).by.taken.seed

  found_grown : Grown g.n (neighbours g) ((found_by g b e).by.cut ∷ (found_by g b e).removed) ((found_by g b e).by.taken.seed ∷ []) b
  found_grown =
      subst (λ (r : List ℕ). Grown g.n (neighbours g) around (seed ∷ []) r) (sym by.by.taken.is)
      (component_grown g.n (neighbours g) (network g s) around seed (in_actives g seed by.by.taken.live).0 by.by.taken.free)

  -- every outside neighbour is the cut or the removed one
  pub found_around : (k : ℕ) → mem k (boundary g b) ≡ true → mem k ((found_by g b e).by.cut ∷ (found_by g b e).removed) ≡ true
  found_around = boundary_aside g around b (seed ∷ []) found_grown

  pub found_block : SmallBlock g b
  found_block =
      let sizes = and-true (leb 2 (length b)) (leb (length b) 8) by.by.taken.size in
      record {
        apart = found_grown.apart;
        two = leb-true 2 (length b) sizes.0;
        eight = leb-true (length b) 8 sizes.1;
        narrow = omega (arith, few around (boundary_apart g b) found_around, removed_few by.lone);
      }

  -- its members are active, where an edge leads to an active decision only
  pub found_live : Tidy g → (k : ℕ) → mem k b ≡ true → active g k ≡ true
  found_live tidy = found_grown.least (active g) (λ i j a li e m. tidy i j li e)
      (λ k m. ap (active g) (in_single k seed m) ∙ (in_actives g seed by.by.taken.live).1)

  -- demand 3 of a block step, its second half: no plan costs less than its reduced cost
  pub found_least : (x : ℕ → Bool) → cost (eliminate_block b g) x ≤ℤ cost g x
  found_least = block_least g b s found_block.apart found_block.narrow
