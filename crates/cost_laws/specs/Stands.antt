-- What every graph of a run is (`Fine`), and that each reduction keeps it; with it, what each reduction leaves of the states.
-- Assumes nothing.
use Rattle.std.specs.Prelude.{◌≡◌, refl, Bool, true, false, not, ◌≢◌, ℤ, pos, ◌+ℤ◌, ◌-ℤ◌, neg_ℤ}
use Rattle.std.proofs.Common.{sym, ◌∙◌, arith, eqb-true}
use Rattle.std.proofs.Math.Path.{ap, subst}
use Rattle.std.proofs.Math.Bool.{cond}
use mathlib.Core.List.{List, [], ◌∷◌}
use Prim.Native.Nat.{ℕ, zero, suc, ◌<◌}
use Rattle.std.proofs.Math.Dec.{eqb}
use Rattle.std.proofs.Math.ListN.{get_or, set}
use Rattle.std.proofs.Math.Seq.{get_or-set_other}
use Rattle.std.proofs.lemmas.Bool.{eqb-false}
use Rattle.whole.specs.Words.{is_zero_z, mem}
use Rattle.whole.specs.Pigeon.{Apart, none, one}
use Rattle.whole.specs.Tests.{cases, clash, refuse, on_not, off_not}
use Rattle.whole.specs.Members.{in_head, in_tail, out_cons}
use Rattle.rules.specs.Graph.{Graph, lin, edge, active, neighbours, add_constant, add_linear, add_edge, drop_to}
use Rattle.rules.specs.Fixing.{spread, fix}
use Rattle.rules.specs.Eliminate.{absorb, tee, eliminate}
use Rattle.rules.specs.DegreeThree.{add_pairs, absorb3, moebius, eliminate3}
use Rattle.rules.specs.DominantEdge.{positive, turn, move, contract}
use Rattle.rules.specs.SmallBlock.{drop_all, boundary, block_table, eliminate_block, find_block, members}
use Rattle.cost_laws.specs.CostLaws.{Shaped, in64, drop_own, drop_lin}
use Rattle.cost_laws.specs.AbsorbLaws.{shaped_base, shaped_lin, shaped_edge}
use Rattle.whole.specs.Cmp.{zero_of}
use Rattle.cost_laws.specs.EliminateLaws.{shaped_drop, AtMostTwo, empty, single, double}
use Rattle.cost_laws.specs.DegreeThreeLaws.{Triple, triple}
use Rattle.cost_laws.specs.Growth.{in_nbrs}
use Rattle.cost_laws.specs.BlockCost.{Gone, boundary_apart, boundary_outside, pair_of}
use Rattle.cost_laws.specs.Found.{SmallBlock, found_block}
use Rattle.cost_laws.specs.Neat.{Live, Neat, neat_base, neat_lin, neat_edge, neat_drop, boundary_live}

pub record Fine (g : Graph) : Type 0 where
  pub shaped : Shaped g
  -- an edge joins active decisions only
  pub neat : Neat g
  -- a decision that is not active has no weight
  pub light : (i : ℕ) → active g i ≡ false → lin g i ≡ pos 0
  -- an active decision is one of the n
  pub inside : (i : ℕ) → active g i ≡ true → i < g.n

-- i is active, in the states ss of n decisions
abbrev pub Alive : ℕ → List ℕ → ℕ → Type 0
Alive n ss i = (i < n) × (eqb (get_or ss i 0) 2 ≡ true)

-- a fine graph of n decisions in the states ss
pub record Stands (n : ℕ) (ss : List ℕ) (g : Graph) : Type 0 where
  pub size : g.n ≡ n
  pub states : g.states ≡ ss
  pub fine : Fine g

pub stands_here : (g : Graph) → Fine g → Stands g.n g.states g
stands_here g f = record { size = refl; states = refl; fine = f }

-- what is not active has no weight and no edge
pub gone_of : (g : Graph) (i : ℕ) → Fine g → i < g.n → active g i ≡ false → Gone g i
gone_of g i f li h = record {
  weight = f.light i h;
  across = λ j lj. zero_of (edge g i j) (on_not (is_zero_z (edge g i j)) (refuse (not (is_zero_z (edge g i j))) (λ t. clash (f.neat.ends i j (in64 f.shaped i li) (in64 f.shaped j lj) (off_not (is_zero_z (edge g i j)) t)).0.1 h)));
  down = λ j lj. zero_of (edge g j i) (on_not (is_zero_z (edge g j i)) (refuse (not (is_zero_z (edge g j i))) (λ t. clash (f.neat.ends j i (in64 f.shaped j lj) (in64 f.shaped i li) (off_not (is_zero_z (edge g j i)) t)).1.1 h)));
}

-- ---- the atomic updates
module _ {n : ℕ} {ss : List ℕ} where
  live_of : {g : Graph} (k : ℕ) → Stands n ss g → Alive n ss k → Live g k
  live_of {g} k s a = (subst (λ (m : ℕ). k < m) (sym s.size) a.0, ap (λ (l : List ℕ). eqb (get_or l k 0) 2) s.states ∙ a.1)

  pub stands_base : (v : ℤ) {g : Graph} → Stands n ss g → Stands n ss (add_constant v g)
  unfolding add_constant
  stands_base v {g} s = record {
    size = s.size;
    states = s.states;
    fine = record { shaped = shaped_base v g s.fine.shaped; neat = neat_base v g s.fine.neat; light = s.fine.light; inside = s.fine.inside };
  }

  pub stands_lin : (k : ℕ) (v : ℤ) {g : Graph} → Stands n ss g → Alive n ss k → Stands n ss (add_linear k v g)
  unfolding add_linear
  stands_lin k v {g} s a = record {
    size = s.size;
    states = s.states;
    fine = record {
      shaped = shaped_lin k v g s.fine.shaped;
      neat = neat_lin k v g s.fine.neat;
      light = λ i h. get_or-set_other g.linear k i (lin g k +ℤ v) (pos 0) (λ e. clash (live_of k s a).1 (ap (active g) (sym e) ∙ h)) ∙ s.fine.light i h;
      inside = s.fine.inside;
    };
  }

  pub stands_edge : (k l : ℕ) (v : ℤ) {g : Graph} → Stands n ss g → Alive n ss k → Alive n ss l → k ≢ l → Stands n ss (add_edge k l v g)
  unfolding add_edge
  stands_edge k l v {g} s a b d =
      let p = live_of k s a in
      let q = live_of l s b in
      record {
        size = s.size;
        states = s.states;
        fine = record { shaped = shaped_edge g k l v s.fine.shaped p.0 q.0 d; neat = neat_edge k l v g s.fine.shaped s.fine.neat p q; light = s.fine.light; inside = s.fine.inside };
      }

  pub stands_drop : (t i : ℕ) {g : Graph} → Stands n ss g → i < n → Stands n (set ss i t) (drop_to t i g)
  unfolding drop_to
  stands_drop t i {g} s li =
      let l : i < g.n = subst (λ (m : ℕ). i < m) (sym s.size) li in
      record {
        size = s.size;
        states = ap (λ (l : List ℕ). set l i t) s.states;
        fine = record {
          shaped = shaped_drop t i g s.fine.shaped l;
          neat = neat_drop t i g s.fine.shaped s.fine.neat l;
          light = λ k h. cases (eqb k i)
              (λ e. ap (λ (m : ℕ). get_or (set g.linear i (pos 0)) m (pos 0)) (eqb-true k i e) ∙ drop_own g s.fine.shaped t i l)
              (λ e. drop_lin g s.fine.shaped t i l k (eqb-false k i e)
              ∙ s.fine.light k (ap (λ (z : ℕ). eqb z 2) (sym (get_or-set_other g.states i k t 0 (eqb-false k i e))) ∙ h));
          inside = λ k h. cases (eqb k i)
              (λ e. subst (λ (m : ℕ). m < g.n) (sym (eqb-true k i e)) l)
              (λ e. s.fine.inside k (ap (λ (z : ℕ). eqb z 2) (sym (get_or-set_other g.states i k t 0 (eqb-false k i e))) ∙ h));
        };
      }

  -- ---- what the reductions add
  -- a walk over active decisions that updates the graph at each
  walk_stands : (walk : List ℕ → Graph → Graph) (update : ℕ → Graph → Graph) → ((g : Graph) → walk [] g ≡ g) → ((k : ℕ) (ks : List ℕ) (g : Graph) → walk (k ∷ ks) g ≡ walk ks (update k g))
      → ((k : ℕ) (g : Graph) → Stands n ss g → Alive n ss k → Stands n ss (update k g))
      → (ks : List ℕ) (g : Graph) → Stands n ss g → ((k : ℕ) → mem k ks ≡ true → Alive n ss k) → Stands n ss (walk ks g)
  walk_stands walk update ends goes keeps [] g s h = subst (Stands n ss) (sym (ends g)) s
  walk_stands walk update ends goes keeps (k ∷ ks) g s h =
      subst (Stands n ss) (sym (goes k ks g)) (walk_stands walk update ends goes keeps ks (update k g) (keeps k g s (h k (in_head k ks))) (λ j m. h j (in_tail j k ks m)))

  -- one that leaves j out
  but_stands : (j : ℕ) (update : ℕ → Graph → Graph) → ((k : ℕ) (g : Graph) → Stands n ss g → Alive n ss k → j ≢ k → Stands n ss (update k g))
      → (k : ℕ) (g : Graph) → Stands n ss g → Alive n ss k → Stands n ss (cond (eqb k j) g (update k g))
  but_stands j update keeps k g s b = go (eqb k j) refl
    where
      go : (c : Bool) → eqb k j ≡ c → Stands n ss (cond c g (update k g))
      go true e = s
      go false e = keeps k g s b (λ t. eqb-false k j e (sym t))

  pub spread_stands : (old : Graph) (i : ℕ) (ks : List ℕ) {g : Graph} → Stands n ss g → ((k : ℕ) → mem k ks ≡ true → Alive n ss k) → Stands n ss (spread old i ks g)
  unfolding spread
  spread_stands old i ks {g} s h = walk_stands (spread old i) (λ k. add_linear k (edge old i k)) (λ u. refl) (λ k ks u. refl) (λ k u t b. stands_lin k (edge old i k) t b) ks g s h

  pub move_stands : (old : Graph) (i j : ℕ) (ks : List ℕ) {g : Graph} → Stands n ss g → Alive n ss j → ((k : ℕ) → mem k ks ≡ true → Alive n ss k) → Stands n ss (move old i j ks g)
  unfolding move
  move_stands old i j ks {g} s a h =
      walk_stands (move old i j) (λ k u. cond (eqb k j) u (add_edge j k (edge old i k) u)) (λ u. refl) (λ k ks u. refl)
      (but_stands j (λ k. add_edge j k (edge old i k)) (λ k u t b d. stands_edge j k (edge old i k) t a b d)) ks g s h

  pub turn_stands : (old : Graph) (i j : ℕ) (ks : List ℕ) {g : Graph} → Stands n ss g → Alive n ss j → ((k : ℕ) → mem k ks ≡ true → Alive n ss k) → Stands n ss (turn old i j ks g)
  unfolding turn
  turn_stands old i j ks {g} s a h =
      walk_stands (turn old i j) (λ k u. cond (eqb k j) u (add_edge j k (neg_ℤ (edge old i k)) (add_linear k (edge old i k) u))) (λ u. refl) (λ k ks u. refl)
      (but_stands j (λ k u. add_edge j k (neg_ℤ (edge old i k)) (add_linear k (edge old i k) u)) (λ k u t b d. stands_edge j k (neg_ℤ (edge old i k)) (stands_lin k (edge old i k) t b) a b d)) ks g s h

  pub absorb_stands : (t : ℕ → ℤ) {js : List ℕ} {g : Graph} → Stands n ss g → AtMostTwo n js → ((k : ℕ) → mem k js ≡ true → Alive n ss k) → Stands n ss (absorb t js g)
  unfolding absorb
  absorb_stands t s empty h = stands_base (t 0) s
  absorb_stands t s (single {j} lj) h = stands_lin j (t 1 -ℤ t 0) (stands_base (t 0) s) (h j (in_head j []))
  absorb_stands t s (double {j} {k} lj lk d) h =
      let a = h j (in_head j (k ∷ [])) in
      let b = h k (in_tail k j (k ∷ []) (in_head k [])) in
      stands_edge j k (t 3 -ℤ t 1 -ℤ t 2 +ℤ t 0) (stands_lin k (t 2 -ℤ t 0) (stands_lin j (t 1 -ℤ t 0) (stands_base (t 0) s) a) b) a b d

  pub absorb3_stands : (e : ℕ → ℤ) {js : List ℕ} {g : Graph} → Stands n ss g → Triple n js → ((k : ℕ) → mem k js ≡ true → Alive n ss k) → Stands n ss (absorb3 e js g)
  unfolding absorb3 add_pairs
  absorb3_stands e s (triple {j} {k} {l} lj lk ll jk jl kl) h =
      let a = h j (in_head j (k ∷ l ∷ [])) in
      let b = h k (in_tail k j (k ∷ l ∷ []) (in_head k (l ∷ []))) in
      let c = h l (in_tail l j (k ∷ l ∷ []) (in_tail l k (l ∷ []) (in_head l []))) in
      stands_edge k l (e 6) (stands_edge j l (e 5) (stands_edge j k (e 3)
      (stands_lin l (e 4) (stands_lin k (e 2) (stands_lin j (e 1) (stands_base (e 0) s) a) b) c) a b jk) a c jl) b c kl

-- the states once each decision of a list is eliminated
unfoldable pub marked : List ℕ → List ℕ → List ℕ
marked [] ss = ss
marked (i ∷ is) ss = marked is (set ss i 3)

pub drop_all_stands : {n : ℕ} {ss b : List ℕ} {g : Graph} → Stands n ss g → Apart n b → Stands n (marked b ss) (drop_all b g)
unfolding marked drop_all
drop_all_stands {n = n} {ss = ss} {g = g} s none = s
drop_all_stands {n = n} {ss = ss} {g = g} s (one {x = i} {xs = xs} l m a) =
    drop_all_stands {n = n} {ss = set ss i 3} {b = xs} {g = drop_to 3 i g} (stands_drop 3 i s l) a

-- those that have not left keep theirs
pub marked_other : (b ss : List ℕ) (i : ℕ) → mem i b ≡ false → get_or (marked b ss) i 0 ≡ get_or ss i 0
unfolding marked
marked_other [] ss i h = refl
marked_other (j ∷ b) ss i h = let p = out_cons i j b h in marked_other b (set ss j 3) i p.1 ∙ get_or-set_other ss j i 3 0 p.0

pub alive_other : {n : ℕ} (ss : List ℕ) (t i k : ℕ) → Alive n ss k → k ≢ i → Alive n (set ss i t) k
alive_other ss t i k a d = (a.0, ap (λ (z : ℕ). eqb z 2) (get_or-set_other ss i k t 0 d) ∙ a.1)

pub alive_marked : {n : ℕ} (b ss : List ℕ) (k : ℕ) → Alive n ss k → mem k b ≡ false → Alive n (marked b ss) k
alive_marked b ss k a m = (a.0, ap (λ (z : ℕ). eqb z 2) (marked_other b ss k m) ∙ a.1)

-- ---- the reductions
module _ (g : Graph) (f : Fine g) where
  -- a neighbour is active, and still is once i has left
  pub neighbours_alive : (t i : ℕ) → i < g.n → (j : ℕ) → mem j (neighbours g i) ≡ true → Alive g.n (set g.states i t) j
  neighbours_alive t i li j m =
      let p = in_nbrs g i j m in
      let q = (f.neat.ends i j (in64 f.shaped i li) (in64 f.shaped j p.0) p.1).1 in
      alive_other g.states t i j q (λ e. clash (ap is_zero_z (ap (edge g i) e ∙ f.shaped.self i li)) p.1)

  module _ (i : ℕ) (li : i < g.n) where
    dropped : (t : ℕ) → Stands g.n (set g.states i t) (drop_to t i g)
    dropped t = stands_drop t i (stands_here g f) li

    pub fix_stands : (v : ℕ) → v < 2 → Stands g.n (set g.states i v) (fix i v g)
    unfolding fix
    fix_stands zero h = dropped 0
    fix_stands (suc zero) h = spread_stands g i (neighbours g i) (stands_base (lin g i) (dropped 1)) (neighbours_alive 1 i li)
    fix_stands (suc (suc v)) h = absurd (omega arith)

    pub eliminate_stands : AtMostTwo g.n (neighbours g i) → Stands g.n (set g.states i 3) (eliminate i g)
    unfolding eliminate
    eliminate_stands p = absorb_stands (tee g i) (dropped 3) p (neighbours_alive 3 i li)

    pub three_stands : Triple g.n (neighbours g i) → Stands g.n (set g.states i 3) (eliminate3 i g)
    unfolding eliminate3
    three_stands p = absorb3_stands (moebius (tee g i)) (dropped 3) p (neighbours_alive 3 i li)

    pub contract_stands : (j : ℕ) → mem j (neighbours g i) ≡ true → Stands g.n (set g.states i 3) (contract i j g)
    unfolding contract
    contract_stands j m = go (positive g i j)
      where
        a : Alive g.n (set g.states i 3) j
        a = neighbours_alive 3 i li j m

        go : (c : Bool) → Stands g.n (set g.states i 3) (cond c
            (turn g i j (neighbours g i) (add_linear j (neg_ℤ (lin g i)) (add_constant (lin g i) (drop_to 3 i g))))
            (move g i j (neighbours g i) (add_linear j (lin g i +ℤ edge g i j) (drop_to 3 i g))))
        go true = turn_stands g i j (neighbours g i) (stands_lin j (neg_ℤ (lin g i)) (stands_base (lin g i) (dropped 3)) a) a (neighbours_alive 3 i li)
        go false = move_stands g i j (neighbours g i) (stands_lin j (lin g i +ℤ edge g i j) (dropped 3) a) a (neighbours_alive 3 i li)

  -- the boundary of a block is active, and still is once the members have left
  pub boundary_alive : (b : List ℕ) → Apart g.n b → (k : ℕ) → mem k (boundary g b) ≡ true → Alive g.n (marked b g.states) k
  boundary_alive b a k m = alive_marked b g.states k (boundary_live g b f.shaped f.neat a k m) (boundary_outside g b k m)

  pub block_stands : (b : List ℕ) → find_block g ≡ members b → Stands g.n (marked b g.states) (eliminate_block b g)
  unfolding eliminate_block
  block_stands b e =
      let w : SmallBlock g b = found_block g b f.shaped e in
      absorb_stands (block_table g b) (drop_all_stands (stands_here g f) w.apart) (pair_of (boundary_apart g b) w.narrow) (boundary_alive b w.apart)
