-- Edges join active decisions only: kept by the updates and by eliminating a block; with it the search for a block is well founded (`neat_network`, `neat_tidy`).
-- Assumes nothing.
use Rattle.std.specs.Prelude.{◌≡◌, refl, true, false, not, List, [], ◌∷◌, ◌≢◌, ℕ, zero, suc, ◌+◌, ◌*◌, ◌<◌, ◌≤◌, eqb, get_or, set, ℤ, pos, ◌+ℤ◌}
use Rattle.std.proofs.Common.{sym, ap, ◌∙◌, subst, ap₂, arith, get_or-set_other}
use Rattle.std.proofs.Math.Decide.{ℕ_discrete}
use Rattle.whole.specs.Words.{is_zero_z, mem}
use Rattle.rules.specs.Graph.{Graph, edge, active, neighbours, add_constant, add_linear, add_edge, clear, drop_to}
use Rattle.rules.specs.SmallBlock.{boundary}
use Rattle.cost_laws.specs.CostLaws.{Shaped, in64, drop_zero}
use Rattle.whole.specs.Pigeon.{Apart}
use Rattle.whole.specs.Tests.{clash, refuse, off_not}
use Rattle.whole.specs.Members.{apart_below, apart_wider}
use Rattle.whole.specs.Cells.{row_of, col_of, cells_other}
use Rattle.cost_laws.specs.Growth.{Network, neighbours_apart, in_nbrs, to_nbrs}
use Rattle.cost_laws.specs.BlockCost.{in_boundary}
use Rattle.cost_laws.specs.Found.{Tidy, some_witness}

abbrev pub Live : Graph → ℕ → Type 0
Live g i = (i < g.n) × (active g i ≡ true)

pub record Neat (g : Graph) : Type 0 where
  pub ends : (i j : ℕ) → i < 64 → j < 64 → is_zero_z (edge g i j) ≡ false → Live g i × Live g j

pub neat_tidy : (g : Graph) → Shaped g → Neat g → Tidy g
neat_tidy g s w i j li m =
    let few : g.n ≤ 64 = s.few in
    let p = in_nbrs g i j m in
    (w.ends i j (omega arith) (omega (arith, p.0)) p.1).1.1

pub neat_network : (g : Graph) → Shaped g → Neat g → Network 64 (neighbours g)
unfolding neighbours
neat_network g s w = record {
  few = omega arith;
  apart = λ i. apart_wider s.few (neighbours_apart g i);
  self = λ i l. refuse (mem i (neighbours g i)) (λ t. let p = in_nbrs g i i t in clash (ap is_zero_z (s.self i p.0)) p.1);
  both = λ i j l m.
      let p = in_nbrs g i j m in
      let e = w.ends i j l (in64 s j p.0) p.1 in
      to_nbrs g j i e.0.0 (ap is_zero_z (s.both j i p.0 e.0.0) ∙ p.1);
}

-- ---- kept by the updates
pub neat_base : (v : ℤ) (g : Graph) → Neat g → Neat (add_constant v g)
unfolding add_constant
neat_base v g w = record { ends = w.ends }

pub neat_lin : (k : ℕ) (v : ℤ) (g : Graph) → Neat g → Neat (add_linear k v g)
unfolding add_linear
neat_lin k v g w = record { ends = w.ends }

pub neat_edge : (k l : ℕ) (v : ℤ) (g : Graph) → Shaped g → Neat g → Live g k → Live g l → Neat (add_edge k l v g)
unfolding add_edge
neat_edge k l v g s w lk ll = record { ends = λ i j li lj e. go i j li lj e (ℕ_discrete (64 * i + j) (64 * l + k)) (ℕ_discrete (64 * i + j) (64 * k + l)) }
  where
    place : (i j p q : ℕ) → j < 64 → q < 64 → 64 * i + j ≡ 64 * p + q → (i ≡ p) × (j ≡ q)
    place i j p q lj lq e = (row_of i j p q lj lq e, col_of i j p q lj lq e)

    at : (i j p q : ℕ) → Live g p → Live g q → (i ≡ p) × (j ≡ q) → Live g i × Live g j
    at i j p q a b e = (subst (Live g) (sym e.0) a, subst (Live g) (sym e.1) b)

    go : (i j : ℕ) → i < 64 → j < 64 → is_zero_z (edge (add_edge k l v g) i j) ≡ false → Dec (64 * i + j ≡ 64 * l + k) → Dec (64 * i + j ≡ 64 * k + l) → Live g i × Live g j
    go i j li lj e (yes p) d = at i j l k ll lk (place i j l k lj (in64 s k lk.0) p)
    go i j li lj e (no p) (yes q) = at i j k l lk ll (place i j k l lj (in64 s l ll.0) q)
    go i j li lj e (no p) (no q) =
        w.ends i j li lj (ap is_zero_z (sym (cells_other g.edges (pos 0) k l i j (edge g k l +ℤ v) (edge g l k +ℤ v) (in64 s k lk.0) (in64 s l ll.0) lj
        (λ a b. q (ap₂ (λ (x y : ℕ). 64 * x + y) a b)) (λ a b. p (ap₂ (λ (x y : ℕ). 64 * x + y) a b)))) ∙ e)

-- clearing only makes zeros
set_keeps : (e : List ℤ) (m p : ℕ) → is_zero_z (get_or (set e m (pos 0)) p (pos 0)) ≡ false → get_or (set e m (pos 0)) p (pos 0) ≡ get_or e p (pos 0)
set_keeps [] m p h = refl
set_keeps (a ∷ e) zero zero h = clash refl h
set_keeps (a ∷ e) zero (suc p) h = refl
set_keeps (a ∷ e) (suc m) zero h = refl
set_keeps (a ∷ e) (suc m) (suc p) h = set_keeps e m p h

clear_keeps : (i c : ℕ) (e : List ℤ) (p : ℕ) → is_zero_z (get_or (clear i c e) p (pos 0)) ≡ false → get_or (clear i c e) p (pos 0) ≡ get_or e p (pos 0)
unfolding clear
clear_keeps i zero e p h = refl
clear_keeps i (suc c) e p h =
    let one = set_keeps (set (clear i c e) (64 * i + c) (pos 0)) (64 * c + i) p h in
    let two = set_keeps (clear i c e) (64 * i + c) p (ap is_zero_z (sym one) ∙ h) in
    one ∙ two ∙ clear_keeps i c e p (ap is_zero_z (sym (one ∙ two)) ∙ h)

live_drop : (t i k : ℕ) (g : Graph) → k ≢ i → Live g k → Live (drop_to t i g) k
unfolding drop_to
live_drop t i k g d l = (l.0, ap (λ (z : ℕ). eqb z 2) (get_or-set_other g.states i k t 0 d) ∙ l.1)

pub neat_drop : (t i : ℕ) (g : Graph) → Shaped g → Neat g → i < g.n → Neat (drop_to t i g)
unfolding drop_to
neat_drop t i g s w li = record {
  ends = λ p q lp lq e.
      let l = w.ends p q lp lq (ap is_zero_z (sym (clear_keeps i g.n g.edges (64 * p + q) e)) ∙ e) in (
        live_drop t i p g (λ z. clash (ap is_zero_z (ap (λ (m : ℕ). get_or (clear i g.n g.edges) (64 * m + q) (pos 0)) z ∙ (zeros q l.1.0).0)) e) l.0,
        live_drop t i q g (λ z. clash (ap is_zero_z (ap (λ (m : ℕ). get_or (clear i g.n g.edges) (64 * p + m) (pos 0)) z ∙ (zeros p l.0.0).1)) e) l.1,
      );
}
  where
    zeros : (q : ℕ) → q < g.n → (get_or (clear i g.n g.edges) (64 * i + q) (pos 0) ≡ pos 0) × (get_or (clear i g.n g.edges) (64 * q + i) (pos 0) ≡ pos 0)
    zeros = drop_zero g s t i li

-- an outside neighbour is active
pub boundary_live : (g : Graph) (b : List ℕ) → Shaped g → Neat g → Apart g.n b → (k : ℕ) → mem k (boundary g b) ≡ true → Live g k
boundary_live g b s w a k h =
    let p = in_boundary g b k h in
    some_witness (λ i. not (is_zero_z (edge g i k))) b p.2
    (λ i mi e. (w.ends i k (in64 s i (apart_below i a mi)) (in64 s k p.0) (off_not (is_zero_z (edge g i k)) e)).1)
