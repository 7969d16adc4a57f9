-- A term is added, and the loop over the terms.
use Rattle.std.proofs.Common.{◌≡◌, refl, sym, ap, ◌∙◌, arith, Bool, true, false, cond, List, [], ◌∷◌, length, get_or, get_or-set_other, set, ℕ, suc, ◌+◌, ◌*◌, ◌<◌, ◌≤◌, ℤ, pos, nat_abs, ◌+ℤ◌, SFits, eqb}
use Rattle.std.proofs.lemmas.Bool.{eq-eqb, ne_eqb}
use Rattle.std.specs.Int.{w64}
use Rattle.rules.specs.Graph.{Graph, graph, edge, add_linear, add_edge, add_term, add_terms}
use Rattle.rules.specs.Objective.{weight_of}
use Rattle.accepted_laws.specs.Mass.{weight_at, weight_set, weight_gain, abs_add}
use Rattle.graph.specs.HeldLaws.{linear_gain, edge_gain}
use Rattle.graph.specs.Shows.{Shows}
use Rattle.graph.proofs.Laws.{mass_fits}

-- the weights and the edges added up: with the constant, the mass
abbrev sums : Graph → ℕ
sums g = weight_of g.linear + weight_of g.edges

linear_sums : (i : ℕ) (w : ℤ) (g : Graph) → sums (add_linear i w g) ≤ sums g + 2 * nat_abs w
unfolding add_linear
linear_sums i w g = omega (arith, weight_gain g.linear i w)

-- both ways round
edge_sums : (i j : ℕ) (w : ℤ) (g : Graph) → (i ≡ j → ⊥) → sums (add_edge i j w g) ≤ sums g + 2 * nat_abs w
unfolding add_edge
edge_sums i j w g d =
    let p = set g.edges (64 * i + j) (edge g i j +ℤ w) in
    let same : nat_abs (get_or p (64 * j + i) (pos 0)) ≡ nat_abs (edge g j i) = ap nat_abs (get_or-set_other g.edges (64 * i + j) (64 * j + i) (edge g i j +ℤ w) (pos 0) (λ q. d (omega arith))) in
    omega (arith, weight_gain g.edges (64 * i + j) w, weight_set p (64 * j + i) (edge g j i +ℤ w), abs_add (edge g j i) w)

module _ (i j : ℕ) (w : ℤ) (g : Graph) where
  pub term_same : i ≡ j → (x : Graph) → x ≡ add_linear i w g → (x ≡ add_term i j w g) × (sums x ≤ sums g + 2 * nat_abs w)
  unfolding add_term
  term_same d x e = (rw (e, eq-eqb i j d), omega (arith, linear_sums i w g, ap sums e))

  pub term_other : (i ≡ j → ⊥) → (x : Graph) → x ≡ add_edge i j w g → (x ≡ add_term i j w g) × (sums x ≤ sums g + 2 * nat_abs w)
  unfolding add_term
  term_other d x e = (rw (e, ne_eqb i j d), omega (arith, edge_sums i j w g d, ap sums e))

  term_constant : (add_term i j w g).constant ≡ g.constant
  unfolding add_term add_linear add_edge
  term_constant = by (eqb i j)
    where
      by : (b : Bool) → (cond b (add_linear i w g) (add_edge i j w g)).constant ≡ g.constant
      by true = refl
      by false = refl

-- so a graph's mass stays within what its weights and edges do
pub terms_constant : (is js : List ℕ) (ws : List ℤ) (g : Graph) → (add_terms is js ws g).constant ≡ g.constant
unfolding add_terms
terms_constant [] js ws g = refl
terms_constant (i ∷ is) [] ws g = refl
terms_constant (i ∷ is) (j ∷ js) [] g = refl
terms_constant (i ∷ is) (j ∷ js) (w ∷ ws) g = terms_constant is js ws (add_term i j w g) ∙ term_constant i j w g

-- ---- on weights and edges alone: what they are to each graph that has them
module _ (i j : ℕ) (w : ℤ) (l e : List ℤ) where
  pub term_fits : weight_of l + weight_of e + 2 * nat_abs w ≤ 2199023255552 → SFits w64 (get_or l i (pos 0) +ℤ w) × ((a : ℕ) → SFits w64 (get_or e a (pos 0) +ℤ w))
  term_fits h = (mass_fits (get_or l i (pos 0)) w (omega (arith, weight_at l i)), λ a. mass_fits (get_or e a (pos 0)) w (omega (arith, weight_at e a)))

  abbrev pub Termed : List ℤ → List ℤ → Type 0
  Termed l₁ e₁ = ((n : ℕ) (c : ℤ) (ss : List ℕ) → graph n c l₁ e₁ ss ≡ add_term i j w (graph n c l e ss)) × (weight_of l₁ + weight_of e₁ ≤ weight_of l + weight_of e + 2 * nat_abs w)

  pub termed_same : i ≡ j → (l₁ : List ℤ) → l₁ ≡ set l i (get_or l i (pos 0) +ℤ w) → Termed l₁ e
  termed_same d l₁ h =
      let at = λ (n : ℕ) (c : ℤ) (ss : List ℕ). term_same i j w (graph n c l e ss) d (graph n c l₁ e ss) (sym (linear_gain n c l e ss w l₁ i h)) in
      (λ n c ss. (at n c ss).0, (at 0 (pos 0) []).1)

  pub termed_other : (i ≡ j → ⊥) → (e₁ : List ℤ) → e₁ ≡ set (set e (64 * i + j) (get_or e (64 * i + j) (pos 0) +ℤ w)) (64 * j + i) (get_or e (64 * j + i) (pos 0) +ℤ w) → Termed l e₁
  termed_other d e₁ h =
      let at = λ (n : ℕ) (c : ℤ) (ss : List ℕ). term_other i j w (graph n c l e ss) d (graph n c l e₁ ss) (sym (edge_gain n c l e ss w e₁ i j h)) in
      (λ n c ss. (at n c ss).0, (at 0 (pos 0) []).1)

-- ---- the loop: of the lists is₀, js₀ and ws₀ the terms of is, js and ws are to be added yet
abbrev pub AllBelow : ℕ → List ℕ → Type 0
AllBelow n l = (k : ℕ) → k < length l → get_or l k 0 < n

module _ (is₀ js₀ : List ℕ) (ws₀ l₀ e₀ : List ℤ) (m₀ : List ℕ) where
  -- all are added
  abbrev pub Added : List ℤ → List ℤ → List ℕ → Type 0
  Added l e m =
      ((n : ℕ) (c : ℤ) (ss : List ℕ) → graph n c l e ss ≡ add_terms is₀ js₀ ws₀ (graph n c l₀ e₀ ss))
      × (weight_of l + weight_of e ≤ 2199023255552)
      × ((n : ℕ) → AllBelow n is₀ → AllBelow n js₀ → Shows n e₀ m₀ → Shows n e m)

  pub record Adding (l e : List ℤ) (m is js : List ℕ) (ws : List ℤ) : Type 0 where
    pub goes : (n : ℕ) (c : ℤ) (ss : List ℕ) → add_terms is₀ js₀ ws₀ (graph n c l₀ e₀ ss) ≡ add_terms is js ws (graph n c l e ss)
    pub light : weight_of l + weight_of e + 2 * weight_of ws ≤ 2199023255552
    pub firsts : (n : ℕ) → AllBelow n is₀ → AllBelow n is
    pub seconds : (n : ℕ) → AllBelow n js₀ → AllBelow n js
    pub shows : (n : ℕ) → AllBelow n is₀ → AllBelow n js₀ → Shows n e₀ m₀ → Shows n e m

  pub adding_none : weight_of l₀ + weight_of e₀ + 2 * weight_of ws₀ ≤ 2199023255552 → Adding l₀ e₀ m₀ is₀ js₀ ws₀
  adding_none h = record { goes = λ n c ss. refl; light = h; firsts = λ n b. b; seconds = λ n b. b; shows = λ n b d s. s }

  module _ (l e : List ℤ) (m : List ℕ) where
    module _ (i j : ℕ) (is js : List ℕ) (w : ℤ) (ws : List ℤ) (a : Adding l e m (i ∷ is) (j ∷ js) (w ∷ ws)) where
      pub term_asked : AllBelow 64 is₀ → AllBelow 64 js₀ → (i < 64) × (j < 64) × (weight_of l + weight_of e + 2 * nat_abs w ≤ 2199023255552)
      unfolding weight_of
      term_asked p q = (a.firsts 64 p 0 (omega arith), a.seconds 64 q 0 (omega arith), omega (arith, a.light))

      pub adding_turn : (l₁ e₁ : List ℤ) (m₁ : List ℕ) → Termed i j w l e l₁ e₁ → ((n : ℕ) → i < n → j < n → Shows n e m → Shows n e₁ m₁) → Adding l₁ e₁ m₁ is js ws
      unfolding weight_of add_terms
      adding_turn l₁ e₁ m₁ t s = record {
        goes = λ n c ss. a.goes n c ss ∙ ap (add_terms is js ws) (sym (t.0 n c ss));
        light = omega (arith, a.light, t.1);
        firsts = λ n p k h. a.firsts n p (suc k) (omega arith);
        seconds = λ n q k h. a.seconds n q (suc k) (omega arith);
        shows = λ n p q h. s n (a.firsts n p 0 (omega arith)) (a.seconds n q 0 (omega arith)) (a.shows n p q h);
      }

    -- the lists as they are known otherwise
    pub adding_of : {is js is' js' : List ℕ} {ws ws' : List ℤ} → Adding l e m is js ws → is ≡ is' → js ≡ js' → ws ≡ ws' → Adding l e m is' js' ws'
    adding_of a p q r = rw (← p, ← q, ← r) a

    -- one of them has ended
    module _ (is js : List ℕ) (ws : List ℤ) (a : Adding l e m is js ws) where
      ended : ((g : Graph) → add_terms is js ws g ≡ g) → Added l e m
      ended h = (λ n c ss. sym (a.goes n c ss ∙ h (graph n c l e ss)), omega (arith, a.light), a.shows)

      pub no_firsts : length is ≡ 0 → Added l e m
      unfolding add_terms
      no_firsts h = ended (by is h)
        where
          by : (is : List ℕ) → length is ≡ 0 → (g : Graph) → add_terms is js ws g ≡ g
          by [] h g = refl
          by (i ∷ is) h g = absurd (omega arith)

      pub no_seconds : length js ≡ 0 → Added l e m
      unfolding add_terms
      no_seconds h = ended (by is js h)
        where
          by : (is js : List ℕ) → length js ≡ 0 → (g : Graph) → add_terms is js ws g ≡ g
          by [] js h g = refl
          by (i ∷ is) [] h g = refl
          by (i ∷ is) (j ∷ js) h g = absurd (omega arith)

      pub no_weights : length ws ≡ 0 → Added l e m
      unfolding add_terms
      no_weights h = ended (by is js ws h)
        where
          by : (is js : List ℕ) (ws : List ℤ) → length ws ≡ 0 → (g : Graph) → add_terms is js ws g ≡ g
          by [] js ws h g = refl
          by (i ∷ is) [] ws h g = refl
          by (i ∷ is) (j ∷ js) [] h g = refl
          by (i ∷ is) (j ∷ js) (w ∷ ws) h g = absurd (omega arith)
