-- Degree three, not refused: entry 7 is 0, so the eight T values are absorbed as Eliminate absorbs its four.
-- Assumes nothing.
use Rattle.std.specs.Prelude.{◌≡◌, Bool, List, [], ◌∷◌, ◌≢◌, ℕ, suc, ◌<◌, ℤ, ◌+ℤ◌, length}
use Rattle.std.proofs.Common.{ap, ◌∙◌, arith}
use Rattle.rules.specs.Graph.{Graph, add_constant, add_linear, add_edge}
use Rattle.rules.specs.DegreeThree.{add_pairs, absorb3}
use Rattle.cost_laws.specs.Cost.{when}
use Rattle.cost_laws.specs.CostLaws.{cost, Shaped, base_cost, lin_cost, edge_cost}
use Rattle.cost_laws.specs.AbsorbLaws.{shaped_base, shaped_lin, shaped_edge}
use Rattle.whole.specs.Pigeon.{Apart, none, one}
use Rattle.whole.specs.Members.{out_cons}

-- three decisions, each below n and different
pub data Triple (n : ℕ) : List ℕ → Type 0 where
  triple : {j k l : ℕ} → j < n → k < n → l < n → j ≢ k → j ≢ l → k ≢ l → Triple n (j ∷ k ∷ l ∷ [])

pub triple_of : {n : ℕ} {js : List ℕ} → Apart n js → length js ≡ 3 → Triple n js
triple_of (one {x = j} lj mj (one {x = k} lk mk (one {x = l} ll ml none))) h =
    let p = out_cons j k (l ∷ []) mj in triple lj lk ll p.0 (out_cons j l [] p.1).0 (out_cons k l [] mk).0
triple_of none h = absurd (bad h)
  where
    bad : ◌≡◌ {A = ℕ} 0 3 → ⊥
    bad p = omega arith
triple_of (one lj mj none) h = absurd (bad h)
  where
    bad : ◌≡◌ {A = ℕ} 1 3 → ⊥
    bad p = omega arith
triple_of (one lj mj (one lk mk none)) h = absurd (bad h)
  where
    bad : ◌≡◌ {A = ℕ} 2 3 → ⊥
    bad p = omega arith
triple_of (one lj mj (one lk mk (one ll ml (one {xs = xs} lm mm a)))) h = absurd (bad (length xs) h)
  where
    bad : (m : ℕ) → suc (suc (suc (suc m))) ≡ 3 → ⊥
    bad m p = omega arith

pub absorb3_cost : (g : Graph) (x : ℕ → Bool) (e : ℕ → ℤ) (j k l : ℕ) → Shaped g → j < g.n → k < g.n → l < g.n → j ≢ k → j ≢ l → k ≢ l
    → cost (absorb3 e (j ∷ k ∷ l ∷ []) g) x
    ≡ cost g x +ℤ e 0 +ℤ when (x j) (e 1) +ℤ when (x k) (e 2) +ℤ when (x l) (e 4)
    +ℤ when (x j) (when (x k) (e 3)) +ℤ when (x j) (when (x l) (e 5)) +ℤ when (x k) (when (x l) (e 6))
unfolding absorb3 add_pairs add_constant add_linear add_edge
absorb3_cost g x e j k l s lj lk ll jk jl kl =
    let g₁ : Graph = add_constant (e 0) g in
    let g₂ : Graph = add_linear j (e 1) g₁ in
    let g₃ : Graph = add_linear k (e 2) g₂ in
    let g₄ : Graph = add_linear l (e 4) g₃ in
    let g₅ : Graph = add_edge j k (e 3) g₄ in
    let g₆ : Graph = add_edge j l (e 5) g₅ in
    let s₁ : Shaped g₁ = shaped_base (e 0) g s in
    let s₂ : Shaped g₂ = shaped_lin j (e 1) g₁ s₁ in
    let s₃ : Shaped g₃ = shaped_lin k (e 2) g₂ s₂ in
    let s₄ : Shaped g₄ = shaped_lin l (e 4) g₃ s₃ in
    let s₅ : Shaped g₅ = shaped_edge g₄ j k (e 3) s₄ lj lk jk in
    let s₆ : Shaped g₆ = shaped_edge g₅ j l (e 5) s₅ lj ll jl in
    edge_cost g₆ k l (e 6) s₆ lk ll kl x
    ∙ ap (λ (z : ℤ). z +ℤ when (x k) (when (x l) (e 6))) (edge_cost g₅ j l (e 5) s₅ lj ll jl x
    ∙ ap (λ (z : ℤ). z +ℤ when (x j) (when (x l) (e 5))) (edge_cost g₄ j k (e 3) s₄ lj lk jk x
    ∙ ap (λ (z : ℤ). z +ℤ when (x j) (when (x k) (e 3))) (lin_cost g₃ x l (e 4) s₃ ll
    ∙ ap (λ (z : ℤ). z +ℤ when (x l) (e 4)) (lin_cost g₂ x k (e 2) s₂ lk
    ∙ ap (λ (z : ℤ). z +ℤ when (x k) (e 2)) (lin_cost g₁ x j (e 1) s₁ lj
    ∙ ap (λ (z : ℤ). z +ℤ when (x j) (e 1)) (base_cost g x (e 0)))))))
