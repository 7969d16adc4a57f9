-- One law for each reduction of a single decision i: the reduced cost and what i costs at x, against the old cost and what i would cost by its choice.
-- With it no plan costs less than its reduced cost, where the choice is a best one. Of Eliminate and of fixing here, of contracting in ContractLaws.
-- Assumes nothing.
use Rattle.std.specs.Prelude.{◌≡◌, refl, Bool, true, false, not, ℕ, ◌<◌, T, ℤ, pos, negsuc, ◌+ℤ◌, ◌≤ℤ◌}
use Rattle.std.proofs.Math.Path.{sym, ap}
use Rattle.std.proofs.Common.{ap₂, ◌∙◌, subst, arith, ltb→lt, not-suc-le-zero}
use mathlib.Core.List.{List, [], ◌∷◌}
use Rattle.std.proofs.Math.IntN.{+ℤ_assoc, +ℤ_idr}
use Rattle.std.specs.Int.Signed.{lt_z, ≤ℤ_refl, lt_z_no, le_z_yes}
use Rattle.whole.specs.Words.{mem}
use Rattle.rules.specs.Graph.{Graph, lin, edge, neighbours, add_constant, add_linear, drop_to}
use Rattle.rules.specs.Fixing.{spread, fix}
use Rattle.rules.specs.Eliminate.{chooses, tee, eliminate}
use Rattle.whole.specs.Sum.{Σ<}
use Rattle.cost_laws.specs.Cost.{shift-≤, regroup, last_second, when, when_zero, delta_of}
use Rattle.cost_laws.specs.CostLaws.{cost, Shaped, base_cost, lin_cost, drop_cost}
use Rattle.cost_laws.specs.AbsorbLaws.{shaped_base, shaped_lin}
use Rattle.cost_laws.specs.EliminateLaws.{mask_at, AtMostTwo, delta_at, shaped_drop, absorb_cost, sum_over, over_nbrs}
use Rattle.whole.specs.Members.{in_head, in_tail}
use Rattle.cost_laws.specs.Growth.{in_nbrs}

-- the law: i is reduced, by the choice c
pub record ReducedBy (i : ℕ) (c : (ℕ → Bool) → Bool) (g g' : Graph) : Type 0 where
  pub costs : (x : ℕ → Bool) → cost g' x +ℤ when (x i) (delta_of g.n (lin g) (edge g) x i) ≡ cost g x +ℤ when (c x) (delta_of g.n (lin g) (edge g) x i)

-- ---- Eliminate, of any degree: once its table T is absorbed, i is reduced by the choice that is 1 where delta is below 0
abbrev pub choice_at : Graph → ℕ → (ℕ → Bool) → Bool
choice_at g i x = chooses g i (mask_at x (neighbours g i))

abbrev pub Absorbed : ℕ → Graph → Graph → Type 0
Absorbed i g g' = (x : ℕ → Bool) → cost g' x ≡ cost (drop_to 3 i g) x +ℤ tee g i (mask_at x (neighbours g i))

pub absorbed_reduces : (g g' : Graph) (i : ℕ) → Shaped g → i < g.n → Absorbed i g g' → ReducedBy i (choice_at g i) g g'
absorbed_reduces g g' i s li h = record { costs = λ x. all x }
  where
    all : (x : ℕ → Bool)
        → cost g' x +ℤ when (x i) (delta_of g.n (lin g) (edge g) x i) ≡ cost g x +ℤ when (choice_at g i x) (delta_of g.n (lin g) (edge g) x i)
    all x =
        let own : ℤ = when (x i) (delta_of g.n (lin g) (edge g) x i) in
        let t : ℤ = tee g i (mask_at x (neighbours g i)) in
        ap (λ (z : ℤ). z +ℤ own) (h x) ∙ regroup (cost (drop_to 3 i g) x) t own
        ∙ ap₂ (λ (u v : ℤ). u +ℤ when (choice_at g i x) v) (sym (drop_cost g x 3 i s li)) (delta_at g x i)

pub eliminate_absorbed : (g : Graph) (i : ℕ) → Shaped g → i < g.n → AtMostTwo g.n (neighbours g i) → Absorbed i g (eliminate i g)
unfolding eliminate drop_to
eliminate_absorbed g i s li p x = absorb_cost (drop_to 3 i g) x (tee g i) (neighbours g i) (shaped_drop 3 i g s li) p

-- ---- no plan costs less than its reduced cost, where the choice is a best one
pub never_more : {i : ℕ} {c : (ℕ → Bool) → Bool} {g g' : Graph} → ReducedBy i c g g'
    → (x : ℕ → Bool) → when (c x) (delta_of g.n (lin g) (edge g) x i) ≤ℤ when (x i) (delta_of g.n (lin g) (edge g) x i) → cost g' x ≤ℤ cost g x
never_more {i} {c} {g} {g'} r x h =
    shift-≤ (cost g' x) (cost g x) (when (x i) (delta_of g.n (lin g) (edge g) x i)) (when (c x) (delta_of g.n (lin g) (edge g) x i)) (r.costs x) h

-- the choice of Eliminate is a best one
best : (z : ℤ) (b : Bool) → when (lt_z z (pos 0)) z ≤ℤ when b z
best z true = go (lt_z z (pos 0)) refl
  where
    go : (c : Bool) → lt_z z (pos 0) ≡ c → when c z ≤ℤ z
    go true e = ≤ℤ_refl z
    go false e = lt_z_no (subst (λ (c : Bool). T (not c)) (sym e) tt)
best z false = go (lt_z z (pos 0)) refl
  where
    go : (c : Bool) → lt_z z (pos 0) ≡ c → when c z ≤ℤ pos 0
    go true e = low z (subst T (sym e) tt)
      where
        low : (z : ℤ) → T (lt_z z (pos 0)) → z ≤ℤ pos 0
        low (pos n) t = absurd (not-suc-le-zero (ltb→lt n 0 t))
        low (negsuc n) t = le_z_yes tt
    go false e = ≤ℤ_refl (pos 0)

pub absorbed_never_more : (g g' : Graph) (i : ℕ) → Shaped g → i < g.n → Absorbed i g g' → (x : ℕ → Bool) → cost g' x ≤ℤ cost g x
absorbed_never_more g g' i s li h x =
    never_more (absorbed_reduces g g' i s li h) x
    (subst (λ (z : ℤ). when (lt_z z (pos 0)) (delta_of g.n (lin g) (edge g) x i) ≤ℤ when (x i) (delta_of g.n (lin g) (edge g) x i)) (sym (delta_at g x i))
    (best (delta_of g.n (lin g) (edge g) x i) (x i)))

-- ---- a walk over decisions that updates the graph at each: what each update adds to the cost, they add together
pub record Adds (n : ℕ) (x : ℕ → Bool) (v : ℤ) (g g' : Graph) : Type 0 where
  pub shaped : Shaped g'
  pub as_many : g'.n ≡ n
  pub paid : cost g' x ≡ cost g x +ℤ v

module _ (n : ℕ) (x : ℕ → Bool) (walk : List ℕ → Graph → Graph) (update : ℕ → Graph → Graph) (gain : ℕ → ℤ)
    (none : (g : Graph) → walk [] g ≡ g)
    (next : (k : ℕ) (ks : List ℕ) (g : Graph) → walk (k ∷ ks) g ≡ walk ks (update k g))
    (adds : (k : ℕ) (g : Graph) → Shaped g → g.n ≡ n → k < n → Adds n x (gain k) g (update k g)) where
  pub walk_cost : (ks : List ℕ) (g : Graph) → Shaped g → g.n ≡ n → ((k : ℕ) → mem k ks ≡ true → k < n) → cost (walk ks g) x ≡ cost g x +ℤ sum_over gain ks
  unfolding sum_over
  walk_cost [] g s e below = ap (λ (h : Graph). cost h x) (none g) ∙ sym (+ℤ_idr (cost g x))
  walk_cost (k ∷ ks) g s e below =
      let a : Adds n x (gain k) g (update k g) = adds k g s e (below k (in_head k ks)) in
      ap (λ (h : Graph). cost h x) (next k ks g)
      ∙ walk_cost ks (update k g) a.shaped a.as_many (λ j m. below j (in_tail j k ks m))
      ∙ ap (λ (z : ℤ). z +ℤ sum_over gain ks) a.paid
      ∙ +ℤ_assoc (cost g x) (gain k) (sum_over gain ks)

-- ---- fixing is a reduction whose choice is the value
spread_cost : (old : Graph) (i : ℕ) (x : ℕ → Bool) (ks : List ℕ) (g : Graph) → Shaped g → ((k : ℕ) → mem k ks ≡ true → k < g.n)
    → cost (spread old i ks g) x ≡ cost g x +ℤ sum_over (λ k. when (x k) (edge old i k)) ks
unfolding spread add_linear
spread_cost old i x ks g s below =
    walk_cost g.n x (spread old i) (λ k. add_linear k (edge old i k)) (λ k. when (x k) (edge old i k)) (λ h. refl) (λ k ks h. refl)
    (λ k h t e lk. record { shaped = shaped_lin k (edge old i k) h t; as_many = e; paid = lin_cost h x k (edge old i k) t (omega arith) }) ks g s refl below

pub fix_0_reduces : (g : Graph) (i : ℕ) → Shaped g → i < g.n → ReducedBy i (λ x. false) g (fix i 0 g)
unfolding fix
fix_0_reduces g i s li = record { costs = λ x. sym (drop_cost g x 0 i s li) ∙ sym (+ℤ_idr (cost g x)) }

pub fix_1_reduces : (g : Graph) (i : ℕ) → Shaped g → i < g.n → ReducedBy i (λ x. true) g (fix i 1 g)
unfolding fix drop_to add_constant
fix_1_reduces g i s li = record { costs = λ x. all x }
  where
    d : Graph
    d = drop_to 1 i g

    all : (x : ℕ → Bool) → cost (fix i 1 g) x +ℤ when (x i) (delta_of g.n (lin g) (edge g) x i) ≡ cost g x +ℤ delta_of g.n (lin g) (edge g) x i
    all x =
        ap (λ (z : ℤ). z +ℤ when (x i) (delta_of g.n (lin g) (edge g) x i))
        (spread_cost g i x (neighbours g i) (add_constant (lin g i) d) (shaped_base (lin g i) d (shaped_drop 1 i g s li)) (λ k m. (in_nbrs g i k m).0)
        ∙ ap₂ (λ (u v : ℤ). u +ℤ v) (base_cost d x (lin g i))
        (over_nbrs g i (λ k. when (x k) (edge g i k)) (λ k e. ap (when (x k)) e ∙ when_zero (x k))))
        ∙ last_second (cost d x) (lin g i) (Σ< g.n (λ k. when (x k) (edge g i k))) (when (x i) (delta_of g.n (lin g) (edge g) x i))
        ∙ ap (λ (z : ℤ). z +ℤ delta_of g.n (lin g) (edge g) x i) (sym (drop_cost g x 1 i s li))
