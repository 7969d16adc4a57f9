-- What each atomic update does to the cost of a plan.
-- Assumes nothing.
use Rattle.std.specs.Prelude.{◌≡◌, refl, Bool, List, ◌≢◌, ℕ, zero, suc, ◌+◌, ◌*◌, ◌<◌, ◌≤◌, get_or, set, ℤ, pos, ◌+ℤ◌}
use Rattle.std.proofs.Common.{sym, ◌∙◌, subst, arith, not-suc-le-zero}
use Rattle.std.proofs.Math.Path.{ap}
use Rattle.std.proofs.Math.Decide.{ℕ_discrete, dec_lt}
use Rattle.std.proofs.Math.ListN.{length, length-set}
use Rattle.std.proofs.Math.Seq.{get_or-set_same, get_or-set_other}
use Rattle.rules.specs.Graph.{Graph, lin, edge, add_constant, add_linear, add_edge, clear, drop_to}
use Rattle.cost_laws.specs.Cost.{when, when_swap, cost_of, delta_of, cost_base, cost_lin, cost_edge, cost_drop}
use Rattle.whole.specs.Cells.{row_of, still_set, cells_other}

-- the cost of x in a graph
abbrev pub cost : Graph → (ℕ → Bool) → ℤ
cost g x = cost_of g.n g.constant (lin g) (edge g) x

-- what every graph of a run is
pub record Shaped (g : Graph) : Type 0 where
  pub few : g.n ≤ 64
  pub linear_long : length g.linear ≡ 64
  pub edges_long : length g.edges ≡ 4096
  pub states_long : length g.states ≡ 64
  pub both : (i j : ℕ) → i < g.n → j < g.n → edge g i j ≡ edge g j i
  pub self : (i : ℕ) → i < g.n → edge g i i ≡ pos 0

-- a decision is below 64
pub in64 : {g : Graph} → Shaped g → (k : ℕ) → k < g.n → k < 64
in64 s k l = omega (arith, s.few)

-- a cell's place says its row and its column
pub base_cost : (g : Graph) (x : ℕ → Bool) (v : ℤ) → cost (add_constant v g) x ≡ cost g x +ℤ v
unfolding add_constant
base_cost g x v = cost_base g.n g.constant x (lin g) (edge g) v

pub lin_cost : (g : Graph) (x : ℕ → Bool) (k : ℕ) (v : ℤ) → Shaped g → k < g.n → cost (add_linear k v g) x ≡ cost g x +ℤ when (x k) v
unfolding add_linear
lin_cost g x k v s l =
    let inside : k < length g.linear = omega (arith, s.few, s.linear_long) in
    cost_lin g.n g.constant x (lin g) (lin (add_linear k v g)) (edge g) k v l
    (λ i d. get_or-set_other g.linear k i (lin g k +ℤ v) (pos 0) d)
    (get_or-set_same g.linear k (lin g k +ℤ v) (pos 0) inside)

module _ (g : Graph) (k l : ℕ) (v : ℤ) (s : Shaped g) (lk : k < g.n) (ll : l < g.n) (kl : k ≢ l) where
  pub added_here : edge (add_edge k l v g) k l ≡ edge g k l +ℤ v
  unfolding add_edge
  added_here =
      let few : g.n ≤ 64 = s.few in
      let inside : 64 * k + l < length g.edges = omega (arith, s.edges_long) in
      get_or-set_other (set g.edges (64 * k + l) (edge g k l +ℤ v)) (64 * l + k) (64 * k + l) (edge g l k +ℤ v) (pos 0)
      (λ e. kl (row_of k l l k (omega arith) (omega arith) e))
      ∙ get_or-set_same g.edges (64 * k + l) (edge g k l +ℤ v) (pos 0) inside

  pub added_there : edge (add_edge k l v g) l k ≡ edge g l k +ℤ v
  unfolding add_edge
  added_there =
      let few : g.n ≤ 64 = s.few in
      let inside : 64 * l + k < length (set g.edges (64 * k + l) (edge g k l +ℤ v)) = omega (arith, s.edges_long, length-set g.edges (64 * k + l) (edge g k l +ℤ v)) in
      get_or-set_same (set g.edges (64 * k + l) (edge g k l +ℤ v)) (64 * l + k) (edge g l k +ℤ v) (pos 0) inside

  -- a cell that is neither
  pub elsewhere : (i j : ℕ) → i < g.n → j < g.n → (i ≡ k → j ≢ l) → (i ≡ l → j ≢ k) → edge (add_edge k l v g) i j ≡ edge g i j
  unfolding add_edge
  elsewhere i j li lj p q =
      let few : g.n ≤ 64 = s.few in
      cells_other g.edges (pos 0) k l i j (edge g k l +ℤ v) (edge g l k +ℤ v) (omega arith) (omega arith) (omega arith) p q

  pub edge_cost : (x : ℕ → Bool) → cost (add_edge k l v g) x ≡ cost g x +ℤ when (x k) (when (x l) v)
  unfolding add_edge
  edge_cost x = go (dec_lt l k)
    where
      go : Dec (l < k) → cost (add_edge k l v g) x ≡ cost g x +ℤ when (x k) (when (x l) v)
      go (yes t) = cost_edge g.n g.constant x (lin g) (edge g) (edge (add_edge k l v g)) k l v t lk
          (λ i j m r d. elsewhere i j m (omega arith) (λ e. absurd (d e)) (λ e f. omega arith))
          (λ j r d. elsewhere k j lk (omega arith) (λ e f. d f) (λ e f. kl e)) added_here
      go (no t) = cost_edge g.n g.constant x (lin g) (edge g) (edge (add_edge k l v g)) l k v (omega arith) ll
          (λ i j m r d. elsewhere i j m (omega arith) (λ e f. omega arith) (λ e. absurd (d e)))
          (λ j r d. elsewhere l j ll (omega arith) (λ e f. kl (sym e)) (λ e f. d f)) added_there
          ∙ ap (λ (z : ℤ). cost g x +ℤ z) (when_swap (x l) (x k) v)

-- clearing: i's edges below c are gone, and every other cell stands
pub clear_length : (i c : ℕ) (e : List ℤ) → length (clear i c e) ≡ length e
unfolding clear
clear_length i zero e = refl
clear_length i (suc j) e =
    length-set (set (clear i j e) (64 * i + j) (pos 0)) (64 * j + i) (pos 0) ∙ length-set (clear i j e) (64 * i + j) (pos 0) ∙ clear_length i j e

pub clear_other : (i : ℕ) (e : List ℤ) (p q : ℕ) → i < 64 → p < 64 → q < 64 → p ≢ i → q ≢ i → (c : ℕ) → c ≤ 64
    → get_or (clear i c e) (64 * p + q) (pos 0) ≡ get_or e (64 * p + q) (pos 0)
unfolding clear
clear_other i e p q li lp lq np nq zero lc = refl
clear_other i e p q li lp lq np nq (suc c) lc =
    cells_other (clear i c e) (pos 0) i c p q (pos 0) (pos 0) li (omega arith) lq (λ t. absurd (np t)) (λ t. nq)
    ∙ clear_other i e p q li lp lq np nq c (omega arith)

pub clear_zero : (i : ℕ) (e : List ℤ) (q : ℕ) → i < 64 → q < 64 → length e ≡ 4096 → (c : ℕ) → c ≤ 64 → q < c
    → (get_or (clear i c e) (64 * i + q) (pos 0) ≡ pos 0) × (get_or (clear i c e) (64 * q + i) (pos 0) ≡ pos 0)
unfolding clear
clear_zero i e q li lq le zero lc h = absurd (not-suc-le-zero h)
clear_zero i e q li lq le (suc c) lc h = go (ℕ_discrete q c) (λ t. clear_zero i e q li lq le c (omega arith) t)
  where
    go : Dec (q ≡ c) → (q < c → (get_or (clear i c e) (64 * i + q) (pos 0) ≡ pos 0) × (get_or (clear i c e) (64 * q + i) (pos 0) ≡ pos 0))
        → (get_or (clear i (suc c) e) (64 * i + q) (pos 0) ≡ pos 0) × (get_or (clear i (suc c) e) (64 * q + i) (pos 0) ≡ pos 0)
    go (no d) r =
        let old = r (omega arith) in (
          still_set (pos 0) (pos 0) (set (clear i c e) (64 * i + c) (pos 0)) (64 * c + i) (64 * i + q) (still_set (pos 0) (pos 0) (clear i c e) (64 * i + c) (64 * i + q) old.0),
          still_set (pos 0) (pos 0) (set (clear i c e) (64 * i + c) (pos 0)) (64 * c + i) (64 * q + i) (still_set (pos 0) (pos 0) (clear i c e) (64 * i + c) (64 * q + i) old.1),
        )
    go (yes t) r =
        subst (λ (m : ℕ). (get_or (clear i (suc c) e) (64 * i + m) (pos 0) ≡ pos 0) × (get_or (clear i (suc c) e) (64 * m + i) (pos 0) ≡ pos 0)) (sym t) (
          still_set (pos 0) (pos 0) (set (clear i c e) (64 * i + c) (pos 0)) (64 * c + i) (64 * i + c)
              (get_or-set_same (clear i c e) (64 * i + c) (pos 0) (pos 0) (omega (arith, clear_length i c e))),
          get_or-set_same (set (clear i c e) (64 * i + c) (pos 0)) (64 * c + i) (pos 0) (pos 0)
              (omega (arith, clear_length i c e, length-set (clear i c e) (64 * i + c) (pos 0))),
        )

-- what dropping i leaves alone, and what it makes 0
module _ (g : Graph) (s : Shaped g) (t i : ℕ) (li : i < g.n) where
  pub drop_lin : (k : ℕ) → k ≢ i → lin (drop_to t i g) k ≡ lin g k
  unfolding drop_to
  drop_lin k d = get_or-set_other g.linear i k (pos 0) (pos 0) d

  pub drop_own : lin (drop_to t i g) i ≡ pos 0
  unfolding drop_to
  drop_own = get_or-set_same g.linear i (pos 0) (pos 0) (omega (arith, s.linear_long, s.few))

  pub drop_edge : (k j : ℕ) → k < g.n → j < g.n → k ≢ i → j ≢ i → edge (drop_to t i g) k j ≡ edge g k j
  unfolding drop_to
  drop_edge k j lk lj dk dj = clear_other i g.edges k j (in64 s i li) (in64 s k lk) (in64 s j lj) dk dj g.n s.few

  pub drop_zero : (q : ℕ) → q < g.n → (edge (drop_to t i g) i q ≡ pos 0) × (edge (drop_to t i g) q i ≡ pos 0)
  unfolding drop_to
  drop_zero q lq = clear_zero i g.edges q (in64 s i li) (in64 s q lq) s.edges_long g.n s.few lq

pub drop_cost : (g : Graph) (x : ℕ → Bool) (t i : ℕ) → Shaped g → i < g.n
    → cost g x ≡ cost (drop_to t i g) x +ℤ when (x i) (delta_of g.n (lin g) (edge g) x i)
unfolding drop_to
drop_cost g x t i s l =
    cost_drop g.n x i (lin g) (lin (drop_to t i g)) (edge g) (edge (drop_to t i g)) l
    (record {
      weight = drop_own g s t i l;
      weights = drop_lin g s t i l;
      across = λ j m. (drop_zero g s t i l j m).0;
      down = λ k m. (drop_zero g s t i l k m).1;
      others = drop_edge g s t i l;
    })
    (λ k m. s.both k i m l) (s.self i l) g.constant
