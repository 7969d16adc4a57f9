-- The updates keep a graph shaped, and a table over the masks of at most two decisions, once absorbed, is added to the cost: the mask facts of Eliminate and of a block.
-- Assumes nothing.
use Rattle.std.specs.Prelude.{◌≡◌, Bool, true, false, [], ◌∷◌, ◌≢◌, ℕ, ◌+◌, ◌*◌, ◌<◌, set, ℤ, pos, ◌+ℤ◌, ◌-ℤ◌}
use Rattle.std.proofs.Common.{sym, ap, ap₂, ◌∙◌, length-set}
use Rattle.std.proofs.Math.Decide.{ℕ_discrete}
use Rattle.whole.specs.Words.{one_if}
use Rattle.whole.specs.Ints.{ints, zarith}
use Rattle.rules.specs.Graph.{Graph, lin, edge, add_constant, add_linear, add_edge}
use Rattle.rules.specs.Eliminate.{absorb}
use Rattle.rules.specs.DegreeThree.{moebius}
use Rattle.cost_laws.specs.Cost.{when}
use Rattle.cost_laws.specs.CostLaws.{cost, Shaped, base_cost, lin_cost, edge_cost, added_here, added_there, elsewhere}

pub shaped_base : (v : ℤ) (g : Graph) → Shaped g → Shaped (add_constant v g)
unfolding add_constant
shaped_base v g s = record { few = s.few; linear_long = s.linear_long; edges_long = s.edges_long; states_long = s.states_long; both = s.both; self = s.self }

pub shaped_lin : (k : ℕ) (v : ℤ) (g : Graph) → Shaped g → Shaped (add_linear k v g)
unfolding add_linear
shaped_lin k v g s = record {
  few = s.few;
  linear_long = length-set g.linear k (lin g k +ℤ v) ∙ s.linear_long;
  edges_long = s.edges_long;
  states_long = s.states_long;
  both = s.both;
  self = s.self;
}

both? : {A B : Type 0} → Dec A → Dec B → Dec (A × B)
both? (yes a) (yes b) = yes (a, b)
both? (yes a) (no f) = no (λ p. f p.1)
both? (no f) d = no (λ p. f p.0)

pub shaped_edge : (g : Graph) (k l : ℕ) (v : ℤ) → Shaped g → k < g.n → l < g.n → k ≢ l → Shaped (add_edge k l v g)
unfolding add_edge
shaped_edge g k l v s lk ll kl = record {
  few = s.few;
  linear_long = s.linear_long;
  edges_long =
      length-set (set g.edges (64 * k + l) (edge g k l +ℤ v)) (64 * l + k) (edge g l k +ℤ v)
      ∙ length-set g.edges (64 * k + l) (edge g k l +ℤ v) ∙ s.edges_long;
  states_long = s.states_long;
  both = λ i j li lj. go i j li lj (both? (ℕ_discrete i k) (ℕ_discrete j l)) (both? (ℕ_discrete i l) (ℕ_discrete j k));
  self = λ i li. elsewhere g k l v s lk ll kl i i li li (λ p q. kl (sym p ∙ q)) (λ p q. kl (sym q ∙ p)) ∙ s.self i li;
}
  where
    crossed : edge (add_edge k l v g) k l ≡ edge (add_edge k l v g) l k
    crossed = added_here g k l v s lk ll kl ∙ ap (λ (z : ℤ). z +ℤ v) (s.both k l lk ll) ∙ sym (added_there g k l v s lk ll kl)

    go : (i j : ℕ) → i < g.n → j < g.n → Dec ((i ≡ k) × (j ≡ l)) → Dec ((i ≡ l) × (j ≡ k)) → edge (add_edge k l v g) i j ≡ edge (add_edge k l v g) j i
    go i j li lj (yes p) d = ap₂ (edge (add_edge k l v g)) p.0 p.1 ∙ crossed ∙ ap₂ (edge (add_edge k l v g)) (sym p.1) (sym p.0)
    go i j li lj (no f) (yes p) = ap₂ (edge (add_edge k l v g)) p.0 p.1 ∙ sym crossed ∙ ap₂ (edge (add_edge k l v g)) (sym p.1) (sym p.0)
    go i j li lj (no f) (no h) =
        elsewhere g k l v s lk ll kl i j li lj (λ p q. f (p, q)) (λ p q. h (p, q)) ∙ s.both i j li lj
        ∙ sym (elsewhere g k l v s lk ll kl j i lj li (λ p q. h (q, p)) (λ p q. f (q, p)))

-- ---- the mask facts
pub none_of : (g : Graph) (x : ℕ → Bool) (t : ℕ → ℤ) → cost (absorb t [] g) x ≡ cost g x +ℤ t 0
unfolding absorb
none_of g x t = base_cost g x (t 0)

pub one_of : (g : Graph) (x : ℕ → Bool) (t : ℕ → ℤ) (j : ℕ) → Shaped g → j < g.n → cost (absorb t (j ∷ []) g) x ≡ cost g x +ℤ t (one_if (x j))
unfolding absorb add_constant
one_of g x t j s lj =
    lin_cost (add_constant (t 0) g) x j (t 1 -ℤ t 0) (shaped_base (t 0) g s) lj ∙ ap (λ (z : ℤ). z +ℤ when (x j) (t 1 -ℤ t 0)) (base_cost g x (t 0))
    ∙ sums (x j)
  where
    sums : (b : Bool) → cost g x +ℤ t 0 +ℤ when b (t 1 -ℤ t 0) ≡ cost g x +ℤ t (one_if b)
    sums true = simp ints (omega zarith)
    sums false = simp ints (omega zarith)

pub two_of : (g : Graph) (x : ℕ → Bool) (t : ℕ → ℤ) (j k : ℕ) → Shaped g → j < g.n → k < g.n → j ≢ k
    → cost (absorb t (j ∷ k ∷ []) g) x ≡ cost g x +ℤ t (one_if (x j) + 2 * one_if (x k))
unfolding absorb add_constant add_linear
two_of g x t j k s lj lk jk =
    let s₁ : Shaped (add_constant (t 0) g) = shaped_base (t 0) g s in
    let s₂ : Shaped (add_linear j (t 1 -ℤ t 0) (add_constant (t 0) g)) = shaped_lin j (t 1 -ℤ t 0) (add_constant (t 0) g) s₁ in
    let s₃ : Shaped (add_linear k (t 2 -ℤ t 0) (add_linear j (t 1 -ℤ t 0) (add_constant (t 0) g))) = shaped_lin k (t 2 -ℤ t 0) (add_linear j (t 1 -ℤ t 0) (add_constant (t 0) g)) s₂ in
    edge_cost (add_linear k (t 2 -ℤ t 0) (add_linear j (t 1 -ℤ t 0) (add_constant (t 0) g))) j k (t 3 -ℤ t 1 -ℤ t 2 +ℤ t 0) s₃ lj lk jk x
    ∙ ap (λ (z : ℤ). z +ℤ when (x j) (when (x k) (t 3 -ℤ t 1 -ℤ t 2 +ℤ t 0)))
    (lin_cost (add_linear j (t 1 -ℤ t 0) (add_constant (t 0) g)) x k (t 2 -ℤ t 0) s₂ lk
    ∙ ap (λ (z : ℤ). z +ℤ when (x k) (t 2 -ℤ t 0))
    (lin_cost (add_constant (t 0) g) x j (t 1 -ℤ t 0) s₁ lj ∙ ap (λ (z : ℤ). z +ℤ when (x j) (t 1 -ℤ t 0)) (base_cost g x (t 0))))
    ∙ sums (x j) (x k)
  where
    sums : (b c : Bool)
        → cost g x +ℤ t 0 +ℤ when b (t 1 -ℤ t 0) +ℤ when c (t 2 -ℤ t 0) +ℤ when b (when c (t 3 -ℤ t 1 -ℤ t 2 +ℤ t 0)) ≡ cost g x +ℤ t (one_if b + 2 * one_if c)
    sums true true = simp ints (omega zarith)
    sums true false = simp ints (omega zarith)
    sums false true = simp ints (omega zarith)
    sums false false = simp ints (omega zarith)

-- the eight sums of degree three, entry 7 being 0
pub three_sum : (t : ℕ → ℤ) → moebius t 7 ≡ pos 0 → (a b c : Bool)
    → moebius t 0 +ℤ when a (moebius t 1) +ℤ when b (moebius t 2) +ℤ when c (moebius t 4)
    +ℤ when a (when b (moebius t 3)) +ℤ when a (when c (moebius t 5)) +ℤ when b (when c (moebius t 6))
    ≡ t (one_if a + 2 * one_if b + 4 * one_if c)
unfolding moebius
three_sum t h true true true = simp ints (omega (zarith, simp ints at h))
three_sum t h true true false = simp ints (omega zarith)
three_sum t h true false true = simp ints (omega zarith)
three_sum t h true false false = simp ints (omega zarith)
three_sum t h false true true = simp ints (omega zarith)
three_sum t h false true false = simp ints (omega zarith)
three_sum t h false false true = simp ints (omega zarith)
three_sum t h false false false = simp ints (omega zarith)
