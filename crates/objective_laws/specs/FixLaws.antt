-- Fixing: the cost after it is the cost before it of the plan with the fixings put in.
-- Assumes nothing.
use Rattle.std.specs.Prelude.{◌≡◌, Bool, true, false, cond, ◌≢◌, ℕ, zero, suc, ◌+◌, ◌<◌, ◌≤◌, ltb, eqb, length, get_or, ℤ, pos, ◌+ℤ◌}
use Rattle.std.proofs.Math.Path.{refl}
use Rattle.std.proofs.Common.{sym, ap, ap₂, ◌∙◌, arith, add-zero, zero-add, eq-eqb, ne_eqb, ltb-true}
use mathlib.Core.List.{List, [], ◌∷◌}
use Rattle.std.proofs.Math.Decide.{ℕ_discrete}
use Rattle.whole.specs.Words.{mem}
use Rattle.whole.specs.Ints.{ints, zarith}
use Rattle.whole.specs.Members.{out_cons}
use Rattle.whole.specs.Pigeon.{none, one}
use Rattle.rules.specs.Graph.{Graph, lin, edge, neighbours, add_constant, add_linear, drop_to}
use Rattle.rules.specs.SmallBlock.{drop_all}
use Rattle.rules.specs.Fixing.{spread, fix, fix_all}
use Rattle.whole.specs.Sum.{Σ_cong}
use Rattle.whole.specs.Counts.{shift}
use Rattle.cost_laws.specs.Cost.{when, when_zero, delta_of}
use Rattle.cost_laws.specs.CostLaws.{cost, Shaped, drop_cost}
use Rattle.cost_laws.specs.AbsorbLaws.{shaped_base, shaped_lin}
use Rattle.cost_laws.specs.EliminateLaws.{shaped_drop}
use Rattle.cost_laws.specs.BlockCost.{gone_cost, drop_all_gone}
use Rattle.cost_laws.specs.ReduceLaws.{ReducedBy, fix_0_reduces, fix_1_reduces}
use Rattle.objective_laws.specs.ObjectiveCost.{with_fixings}

-- x with b at i
abbrev pub set_at : ℕ → Bool → (ℕ → Bool) → ℕ → Bool
set_at i b x k = cond (eqb k i) b (x k)

module _ (i : ℕ) (b : Bool) (x : ℕ → Bool) where
  pub set_same : set_at i b x i ≡ b
  set_same = ap (λ (t : Bool). cond t b (x i)) (eq-eqb i i refl)

  pub set_other : (k : ℕ) → k ≢ i → set_at i b x k ≡ x k
  set_other k d = ap (λ (t : Bool). cond t b (x k)) (ne_eqb k i d)

-- a reduction of i by a choice: the reduced cost of a plan is the old cost of the plan with i set by that choice
module _ (g : Graph) (i : ℕ) (s : Shaped g) (li : i < g.n) where
  -- what i costs does not hang on i itself
  pub delta_set : (b : Bool) (x : ℕ → Bool) → delta_of g.n (lin g) (edge g) (set_at i b x) i ≡ delta_of g.n (lin g) (edge g) x i
  delta_set b x = ap (λ (z : ℤ). lin g i +ℤ z) (Σ_cong g.n (λ j. when (set_at i b x j) (edge g i j)) (λ j. when (x j) (edge g i j)) (λ j l. each j (ℕ_discrete j i)))
    where
      each : (j : ℕ) → Dec (j ≡ i) → when (set_at i b x j) (edge g i j) ≡ when (x j) (edge g i j)
      each j (yes e) =
          let z : edge g i j ≡ pos 0 = ap (edge g i) e ∙ s.self i li in
          ap (when (set_at i b x j)) z ∙ when_zero (set_at i b x j) ∙ sym (ap (when (x j)) z ∙ when_zero (x j))
      each j (no d) = ap (λ (t : Bool). when t (edge g i j)) (set_other i b x j d)

  pub dropped_set : (b : Bool) (x : ℕ → Bool) → cost (drop_to 3 i g) (set_at i b x) ≡ cost (drop_to 3 i g) x
  unfolding mem drop_all
  dropped_set b x = gone_cost (drop_to 3 i g) (set_at i b x) x (i ∷ []) (λ k m. drop_all_gone (i ∷ []) g k s (one li refl none) m)
      (λ k m. set_other i b x k (out_cons k i [] m).0)

  pub reduced_plan : {c : (ℕ → Bool) → Bool} {g' : Graph} → ReducedBy i c g g' → (x : ℕ → Bool) → cost g' x ≡ cost g (set_at i (c x) x)
  reduced_plan {c} {g'} r x =
      last (cost g' x) (cost g x) (cost (drop_to 3 i g) x) (when (x i) own) (when (c x) own) (r.costs x) (drop_cost g x 3 i s li)
      ∙ sym (drop_cost g (set_at i (c x) x) 3 i s li
      ∙ ap₂ (λ (u v : ℤ). u +ℤ v) (dropped_set (c x) x) (ap₂ (λ (t : Bool) (z : ℤ). when t z) (set_same i (c x) x) (delta_set (c x) x)))
    where
      own : ℤ
      own = delta_of g.n (lin g) (edge g) x i

      last : (a b d u v : ℤ) → a +ℤ u ≡ b +ℤ v → b ≡ d +ℤ u → a ≡ d +ℤ v
      last a b d u v p q = simp ints (omega (zarith, simp ints at p, simp ints at q))

-- ---- one fixing
spread_shaped : (old : Graph) (i : ℕ) (ks : List ℕ) (g : Graph) → Shaped g → Shaped (spread old i ks g)
unfolding spread
spread_shaped old i [] g s = s
spread_shaped old i (k ∷ ks) g s = spread_shaped old i ks (add_linear k (edge old i k) g) (shaped_lin k (edge old i k) g s)

spread_n : (old : Graph) (i : ℕ) (ks : List ℕ) (g : Graph) → (spread old i ks g).n ≡ g.n
unfolding spread add_linear
spread_n old i [] g = refl
spread_n old i (k ∷ ks) g = spread_n old i ks (add_linear k (edge old i k) g)

pub fix_shaped : (i v : ℕ) (g : Graph) → Shaped g → i < g.n → Shaped (fix i v g)
unfolding fix
fix_shaped i zero g s l = shaped_drop 0 i g s l
fix_shaped i (suc v) g s l = spread_shaped g i (neighbours g i) (add_constant (lin g i) (drop_to 1 i g)) (shaped_base (lin g i) (drop_to 1 i g) (shaped_drop 1 i g s l))

pub fix_n : (i v : ℕ) (g : Graph) → (fix i v g).n ≡ g.n
unfolding fix drop_to add_constant
fix_n i zero g = refl
fix_n i (suc v) g = spread_n g i (neighbours g i) (add_constant (lin g i) (drop_to 1 i g))

pub fix_cost : (i v : ℕ) (g : Graph) → Shaped g → i < g.n → v < 2 → (x : ℕ → Bool) → cost (fix i v g) x ≡ cost g (set_at i (eqb v 1) x)
fix_cost i zero g s l h x = reduced_plan g i s l (fix_0_reduces g i s l) x
fix_cost i (suc zero) g s l h x = reduced_plan g i s l (fix_1_reduces g i s l) x
fix_cost i (suc (suc v)) g s l h x = absurd (omega arith)

-- ---- all of them
-- x with the fixings put in, the first of them decision i's
unfoldable pub put_from : ℕ → List ℕ → (ℕ → Bool) → ℕ → Bool
put_from i [] x = x
put_from i (v ∷ vs) x = cond (ltb v 2) (set_at i (eqb v 1) (put_from (suc i) vs x)) (put_from (suc i) vs x)

put_before : (i : ℕ) (vs : List ℕ) (x : ℕ → Bool) (k : ℕ) → k < i → put_from i vs x k ≡ x k
unfolding put_from
put_before i [] x k l = refl
put_before i (v ∷ vs) x k l = go (ltb v 2) (put_before (suc i) vs x k (omega arith))
  where
    go : (t : Bool) → put_from (suc i) vs x k ≡ x k → cond t (set_at i (eqb v 1) (put_from (suc i) vs x)) (put_from (suc i) vs x) k ≡ x k
    go true r = set_other i (eqb v 1) (put_from (suc i) vs x) k (omega arith) ∙ r
    go false r = r

put_at : (i : ℕ) (vs : List ℕ) (x : ℕ → Bool) (k : ℕ) → put_from i vs x (i + k) ≡ cond (ltb (get_or vs k 2) 2) (eqb (get_or vs k 2) 1) (x (i + k))
unfolding put_from
put_at i [] x k = refl
put_at i (v ∷ vs) x zero = go (ltb v 2)
  where
    go : (t : Bool) → cond t (set_at i (eqb v 1) (put_from (suc i) vs x)) (put_from (suc i) vs x) (i + 0) ≡ cond t (eqb v 1) (x (i + 0))
    go true = ap (set_at i (eqb v 1) (put_from (suc i) vs x)) (add-zero i) ∙ set_same i (eqb v 1) (put_from (suc i) vs x)
    go false = put_before (suc i) vs x (i + 0) (omega arith)
put_at i (v ∷ vs) x (suc k) = go (ltb v 2) (rw (shift i k) at (put_at (suc i) vs x k))
  where
    want : Bool
    want = cond (ltb (get_or vs k 2) 2) (eqb (get_or vs k 2) 1) (x (i + suc k))

    go : (t : Bool) → put_from (suc i) vs x (i + suc k) ≡ want → cond t (set_at i (eqb v 1) (put_from (suc i) vs x)) (put_from (suc i) vs x) (i + suc k) ≡ want
    go true r = set_other i (eqb v 1) (put_from (suc i) vs x) (i + suc k) (omega arith) ∙ r
    go false r = r

pub put_with : (fs : List ℕ) (x : ℕ → Bool) (k : ℕ) → put_from 0 fs x k ≡ with_fixings fs x k
put_with fs x k = rw (zero-add k) at (put_at 0 fs x k)

pub record Fixed (i : ℕ) (vs : List ℕ) (g g' : Graph) : Type 0 where
  pub same_n : g'.n ≡ g.n
  pub shaped : Shaped g'
  pub costs : (x : ℕ → Bool) → cost g' x ≡ cost g (put_from i vs x)

pub all_fixed : (i : ℕ) (vs : List ℕ) (g : Graph) → Shaped g → i + length vs ≤ g.n → Fixed i vs g (fix_all i vs g)
unfolding fix_all put_from
all_fixed i [] g s h = record { same_n = refl; shaped = s; costs = λ x. refl }
all_fixed i (v ∷ vs) g s h = go (ltb v 2) refl
    (all_fixed (suc i) vs g s (omega arith))
    (all_fixed (suc i) vs (fix i v g) (fix_shaped i v g s (omega arith)) (rw (fix_n i v g) (omega arith)))
  where
    go : (t : Bool) → ltb v 2 ≡ t → Fixed (suc i) vs g (fix_all (suc i) vs g) → Fixed (suc i) vs (fix i v g) (fix_all (suc i) vs (fix i v g))
        → Fixed i (v ∷ vs) g (fix_all (suc i) vs (cond t (fix i v g) g))
    go true e p q = record {
      same_n = q.same_n ∙ fix_n i v g;
      shaped = q.shaped;
      costs = λ x. q.costs x ∙ fix_cost i v g s (omega arith) (ltb-true v 2 e) (put_from (suc i) vs x) ∙ ap (λ (t : Bool). cost g (cond t (set_at i (eqb v 1) (put_from (suc i) vs x)) (put_from (suc i) vs x))) (sym e);
    }
    go false e p q = record {
      same_n = p.same_n;
      shaped = p.shaped;
      costs = λ x. p.costs x ∙ ap (λ (t : Bool). cost g (cond t (set_at i (eqb v 1) (put_from (suc i) vs x)) (put_from (suc i) vs x))) (sym e);
    }

-- of every plan, and of one that keeps the fixings
module _ (fs : List ℕ) (g : Graph) (s : Shaped g) (long : length fs ≤ g.n) where
  pub fixed_n : (fix_all 0 fs g).n ≡ g.n
  fixed_n = (all_fixed 0 fs g s (omega arith)).same_n

  pub fixed_shaped : Shaped (fix_all 0 fs g)
  fixed_shaped = (all_fixed 0 fs g s (omega arith)).shaped
