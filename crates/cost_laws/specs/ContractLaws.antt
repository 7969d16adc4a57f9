-- Contracting i into j, both ways: it is a reduction of i by the choice x of j, or 1 − x of j.
-- Assumes nothing.
use Rattle.std.specs.Prelude.{◌≡◌, refl, Bool, true, false, cond, not, List, [], ◌∷◌, ◌≢◌, ℕ, ◌<◌, eqb, ℤ, pos, ◌+ℤ◌, neg_ℤ}
use Rattle.std.proofs.Common.{sym, ap, ap₂, ◌∙◌, arith}
use Rattle.std.proofs.lemmas.Bool.{eqb-false}
use Rattle.std.proofs.Math.IntN.{+ℤ_assoc, +ℤ_comm, +ℤ_idr}
use Rattle.std.specs.Int.Signed.{lt_z}
use Rattle.whole.specs.Ints.{ints, zarith}
use Rattle.whole.specs.Words.{mem}
use Rattle.rules.specs.Graph.{Graph, lin, edge, neighbours, add_constant, add_linear, add_edge, drop_to}
use Rattle.rules.specs.DominantEdge.{turn, move, contract}
use Rattle.whole.specs.Sum.{Σ<, Σ_cong, Σ_split}
use Rattle.cost_laws.specs.Cost.{swap_last, last_second, when, when_zero, sum_zero, delta_of}
use Rattle.cost_laws.specs.CostLaws.{cost, Shaped, base_cost, lin_cost, edge_cost, drop_cost}
use Rattle.cost_laws.specs.AbsorbLaws.{shaped_base, shaped_lin, shaped_edge}
use Rattle.cost_laws.specs.EliminateLaws.{shaped_drop, sum_over, over_nbrs}
use Rattle.cost_laws.specs.Growth.{in_nbrs}
use Rattle.cost_laws.specs.ReduceLaws.{ReducedBy, Adds, walk_cost}

-- v for every decision but j
abbrev but : ℕ → ℤ → ℕ → ℤ
but j v k = cond (eqb k j) (pos 0) v

-- a walk that leaves j out
module _ (n j : ℕ) (x : ℕ → Bool) (walk : List ℕ → Graph → Graph) (update : ℕ → Graph → Graph) (gain : ℕ → ℤ)
    (none : (g : Graph) → walk [] g ≡ g)
    (next : (k : ℕ) (ks : List ℕ) (g : Graph) → walk (k ∷ ks) g ≡ walk ks (cond (eqb k j) g (update k g)))
    (adds : (k : ℕ) (g : Graph) → Shaped g → g.n ≡ n → k < n → j ≢ k → Adds n x (gain k) g (update k g)) where
  but_cost : (ks : List ℕ) (g : Graph) → Shaped g → g.n ≡ n → ((k : ℕ) → mem k ks ≡ true → k < n) → cost (walk ks g) x ≡ cost g x +ℤ sum_over (λ k. but j (gain k) k) ks
  but_cost = walk_cost n x walk (λ k g. cond (eqb k j) g (update k g)) (λ k. but j (gain k) k) none next (λ k g s e lk. go k g s e lk (eqb k j) refl)
    where
      go : (k : ℕ) (g : Graph) → Shaped g → g.n ≡ n → k < n → (c : Bool) → eqb k j ≡ c → Adds n x (cond c (pos 0) (gain k)) g (cond c g (update k g))
      go k g s e lk true h = record { shaped = s; as_many = e; paid = sym (+ℤ_idr (cost g x)) }
      go k g s e lk false h = adds k g s e lk (λ p. eqb-false k j h (sym p))

move_cost : (old : Graph) (i j : ℕ) (x : ℕ → Bool) (ks : List ℕ) (g : Graph) → Shaped g → j < g.n → ((k : ℕ) → mem k ks ≡ true → k < g.n)
    → cost (move old i j ks g) x ≡ cost g x +ℤ sum_over (λ k. but j (when (x j) (when (x k) (edge old i k))) k) ks
unfolding move add_edge
move_cost old i j x ks g s lj below =
    but_cost g.n j x (move old i j) (λ k. add_edge j k (edge old i k)) (λ k. when (x j) (when (x k) (edge old i k))) (λ h. refl) (λ k ks h. refl) adds ks g s refl below
  where
    adds : (k : ℕ) (h : Graph) → Shaped h → h.n ≡ g.n → k < g.n → j ≢ k → Adds g.n x (when (x j) (when (x k) (edge old i k))) h (add_edge j k (edge old i k) h)
    adds k h t e lk d = record {
      shaped = shaped_edge h j k (edge old i k) t (omega arith) (omega arith) d;
      as_many = e;
      paid = edge_cost h j k (edge old i k) t (omega arith) (omega arith) d x;
    }

-- all edges of i but the one to j, at x
off_sum : Graph → ℕ → ℕ → (ℕ → Bool) → ℤ
off_sum g i j x = Σ< g.n (λ k. but j (when (x k) (edge g i k)) k)

-- the sum of all is that and j's own
split_off : (g : Graph) (i j : ℕ) (x : ℕ → Bool) → j < g.n → Σ< g.n (λ k. when (x k) (edge g i k)) ≡ off_sum g i j x +ℤ when (x j) (edge g i j)
unfolding off_sum
split_off g i j x lj =
    Σ_split g.n j (λ k. when (x k) (edge g i k)) lj ∙ +ℤ_comm (when (x j) (edge g i j)) (off_sum g i j x)

-- the moved edges: nothing where x of j is 0, all but j's where it is 1
moved_sum : (g : Graph) (i j : ℕ) (x : ℕ → Bool) → sum_over (λ k. but j (when (x j) (when (x k) (edge g i k))) k) (neighbours g i) ≡ when (x j) (off_sum g i j x)
unfolding off_sum
moved_sum g i j x =
    over_nbrs g i (λ k. but j (when (x j) (when (x k) (edge g i k))) k) (λ k e. gone k (eqb k j) e) ∙ pull (x j)
  where
    gone : (k : ℕ) (c : Bool) → edge g i k ≡ pos 0 → cond c (pos 0) (when (x j) (when (x k) (edge g i k))) ≡ pos 0
    gone k true e = refl
    gone k false e = ap (λ (z : ℤ). when (x j) (when (x k) z)) e ∙ ap (when (x j)) (when_zero (x k)) ∙ when_zero (x j)

    pull : (b : Bool) → Σ< g.n (λ k. but j (when b (when (x k) (edge g i k))) k) ≡ when b (Σ< g.n (λ k. but j (when (x k) (edge g i k)) k))
    pull true = refl
    pull false = sum_zero (λ k. but j (pos 0) k) g.n (λ k l. when_zero (eqb k j))

-- w not positive: x of i becomes x of j
pub move_reduces : (g : Graph) (i j : ℕ) → Shaped g → i < g.n → j < g.n → lt_z (pos 0) (edge g i j) ≡ false → ReducedBy i (λ x. x j) g (contract i j g)
unfolding contract drop_to add_linear
move_reduces g i j s li lj h = record { costs = λ x. all x }
  where
    d : Graph
    d = drop_to 3 i g

    sd : Shaped d
    sd = shaped_drop 3 i g s li

    e : Graph
    e = add_linear j (lin g i +ℤ edge g i j) d

    which : contract i j g ≡ move g i j (neighbours g i) e
    which = ap (λ (b : Bool). cond b (turn g i j (neighbours g i) (add_linear j (neg_ℤ (lin g i)) (add_constant (lin g i) d))) (move g i j (neighbours g i) e)) h

    all : (x : ℕ → Bool) → cost (contract i j g) x +ℤ when (x i) (delta_of g.n (lin g) (edge g) x i) ≡ cost g x +ℤ when (x j) (delta_of g.n (lin g) (edge g) x i)
    all x =
        ap (λ (f : Graph). cost f x +ℤ own) which
        ∙ ap (λ (z : ℤ). z +ℤ own)
        (move_cost g i j x (neighbours g i) e (shaped_lin j (lin g i +ℤ edge g i j) d sd) lj (λ k m. (in_nbrs g i k m).0)
        ∙ ap₂ (λ (u v : ℤ). u +ℤ v) (lin_cost d x j (lin g i +ℤ edge g i j) sd lj) (moved_sum g i j x))
        ∙ last_second (cost d x) (when (x j) (lin g i +ℤ edge g i j)) (when (x j) (off_sum g i j x)) own
        ∙ ap₂ (λ (u v : ℤ). u +ℤ v) (sym (drop_cost g x 3 i s li)) (sums (x j) refl)
      where
        own : ℤ
        own = when (x i) (delta_of g.n (lin g) (edge g) x i)

        sums : (b : Bool) → x j ≡ b → when b (lin g i +ℤ edge g i j) +ℤ when b (off_sum g i j x) ≡ when b (delta_of g.n (lin g) (edge g) x i)
        sums false p = refl
        sums true p =
            swap_last (lin g i) (edge g i j) (off_sum g i j x)
            ∙ ap (λ (z : ℤ). lin g i +ℤ z) (ap (λ (b : Bool). off_sum g i j x +ℤ when b (edge g i j)) (sym p) ∙ sym (split_off g i j x lj))

-- w positive: x of i becomes 1 − x of j
abbrev turned : (ℕ → Bool) → Bool → ℤ → ℕ → ℤ
turned x b w k = when (x k) w +ℤ when b (when (x k) (neg_ℤ w))

turn_cost : (old : Graph) (i j : ℕ) (x : ℕ → Bool) (ks : List ℕ) (g : Graph) → Shaped g → j < g.n → ((k : ℕ) → mem k ks ≡ true → k < g.n)
    → cost (turn old i j ks g) x ≡ cost g x +ℤ sum_over (λ k. but j (turned x (x j) (edge old i k) k) k) ks
unfolding turn add_edge add_linear
turn_cost old i j x ks g s lj below =
    but_cost g.n j x (turn old i j) (λ k h. add_edge j k (neg_ℤ (edge old i k)) (add_linear k (edge old i k) h)) (λ k. turned x (x j) (edge old i k) k) (λ h. refl) (λ k ks h. refl) adds ks g s refl
    below
  where
    adds : (k : ℕ) (h : Graph) → Shaped h → h.n ≡ g.n → k < g.n → j ≢ k
        → Adds g.n x (turned x (x j) (edge old i k) k) h (add_edge j k (neg_ℤ (edge old i k)) (add_linear k (edge old i k) h))
    adds k h t e lk d =
        let u : Graph = add_linear k (edge old i k) h in
        let su : Shaped u = shaped_lin k (edge old i k) h t in
        record {
          shaped = shaped_edge u j k (neg_ℤ (edge old i k)) su (omega arith) (omega arith) d;
          as_many = e;
          paid =
              edge_cost u j k (neg_ℤ (edge old i k)) su (omega arith) (omega arith) d x
              ∙ ap (λ (z : ℤ). z +ℤ when (x j) (when (x k) (neg_ℤ (edge old i k)))) (lin_cost h x k (edge old i k) t (omega arith))
              ∙ +ℤ_assoc (cost h x) (when (x k) (edge old i k)) (when (x j) (when (x k) (neg_ℤ (edge old i k))));
        }

turned_sum : (g : Graph) (i j : ℕ) (x : ℕ → Bool) → sum_over (λ k. but j (turned x (x j) (edge g i k) k) k) (neighbours g i) ≡ when (not (x j)) (off_sum g i j x)
unfolding off_sum
turned_sum g i j x = over_nbrs g i (λ k. but j (turned x (x j) (edge g i k) k) k) (λ k e. gone k (eqb k j) (x k) (x j) e) ∙ pull (x j)
  where
    gone : (k : ℕ) (c a b : Bool) → edge g i k ≡ pos 0 → cond c (pos 0) (when a (edge g i k) +ℤ when b (when a (neg_ℤ (edge g i k)))) ≡ pos 0
    gone k true a b e = refl
    gone k false true true e = ap (λ (z : ℤ). z +ℤ neg_ℤ z) e
    gone k false true false e = ap (λ (z : ℤ). z +ℤ pos 0) e
    gone k false false true e = refl
    gone k false false false e = refl

    undone : (c a : Bool) (w : ℤ) → cond c (pos 0) (when a w +ℤ when a (neg_ℤ w)) ≡ pos 0
    undone true a w = refl
    undone false true w = simp ints (omega zarith)
    undone false false w = refl

    plain : (c a : Bool) (w : ℤ) → cond c (pos 0) (when a w +ℤ pos 0) ≡ cond c (pos 0) (when a w)
    plain true a w = refl
    plain false a w = +ℤ_idr (when a w)

    pull : (b : Bool) → Σ< g.n (λ k. but j (turned x b (edge g i k) k) k) ≡ when (not b) (Σ< g.n (λ k. but j (when (x k) (edge g i k)) k))
    pull true = sum_zero (λ k. but j (turned x true (edge g i k) k) k) g.n (λ k l. undone (eqb k j) (x k) (edge g i k))
    pull false = Σ_cong g.n (λ k. but j (turned x false (edge g i k) k) k) (λ k. but j (when (x k) (edge g i k)) k) (λ k l. plain (eqb k j) (x k) (edge g i k))

pub turn_reduces : (g : Graph) (i j : ℕ) → Shaped g → i < g.n → j < g.n → lt_z (pos 0) (edge g i j) ≡ true → ReducedBy i (λ x. not (x j)) g (contract i j g)
unfolding contract drop_to add_linear add_constant
turn_reduces g i j s li lj h = record { costs = λ x. all x }
  where
    d : Graph
    d = drop_to 3 i g

    sd : Shaped d
    sd = shaped_drop 3 i g s li

    b : Graph
    b = add_constant (lin g i) d

    sb : Shaped b
    sb = shaped_base (lin g i) d sd

    e : Graph
    e = add_linear j (neg_ℤ (lin g i)) b

    which : contract i j g ≡ turn g i j (neighbours g i) e
    which = ap (λ (c : Bool). cond c (turn g i j (neighbours g i) e) (move g i j (neighbours g i) (add_linear j (lin g i +ℤ edge g i j) d))) h

    all : (x : ℕ → Bool) → cost (contract i j g) x +ℤ when (x i) (delta_of g.n (lin g) (edge g) x i) ≡ cost g x +ℤ when (not (x j)) (delta_of g.n (lin g) (edge g) x i)
    all x =
        ap (λ (f : Graph). cost f x +ℤ own) which
        ∙ ap (λ (z : ℤ). z +ℤ own)
        (turn_cost g i j x (neighbours g i) e (shaped_lin j (neg_ℤ (lin g i)) b sb) lj (λ k m. (in_nbrs g i k m).0)
        ∙ ap₂ (λ (u v : ℤ). u +ℤ v)
        (lin_cost b x j (neg_ℤ (lin g i)) sb lj ∙ ap (λ (z : ℤ). z +ℤ when (x j) (neg_ℤ (lin g i))) (base_cost d x (lin g i))) (turned_sum g i j x))
        ∙ sort (cost d x) (lin g i) (when (x j) (neg_ℤ (lin g i))) (when (not (x j)) (off_sum g i j x)) own
        ∙ ap₂ (λ (u v : ℤ). u +ℤ v) (sym (drop_cost g x 3 i s li)) (sums (x j) refl)
      where
        own : ℤ
        own = when (x i) (delta_of g.n (lin g) (edge g) x i)

        sort : (a p b c u : ℤ) → a +ℤ p +ℤ b +ℤ c +ℤ u ≡ a +ℤ u +ℤ (p +ℤ b +ℤ c)
        sort a p b c u = simp ints (omega zarith)

        sums : (b : Bool) → x j ≡ b → lin g i +ℤ when b (neg_ℤ (lin g i)) +ℤ when (not b) (off_sum g i j x) ≡ when (not b) (delta_of g.n (lin g) (edge g) x i)
        sums true p = simp ints (omega zarith)
        sums false p =
            swap_last (lin g i) (pos 0) (off_sum g i j x)
            ∙ ap (λ (z : ℤ). lin g i +ℤ z) (ap (λ (b : Bool). off_sum g i j x +ℤ when b (edge g i j)) (sym p) ∙ sym (split_off g i j x lj))
