-- The graph that a run starts from, of an objective that is not refused: it is fine, and its states are the fixings. So the whole run from it is sound.
-- Assumes nothing.
use Rattle.std.specs.Prelude.{◌≡◌, Bool, cond, ℕ, suc, ◌+◌, ◌*◌, ◌-◌, ◌<◌, ◌≤◌, ltb, set, replicate, ℤ}
use Rattle.std.proofs.Math.Path.{refl, ap}
use Rattle.std.proofs.Common.{sym, ◌∙◌, subst, arith, length-append, ltb-true, ltb-false}
use Rattle.std.proofs.Math.Bool.{true, false}
use mathlib.Core.List.{List, [], ◌∷◌, ◌++◌}
use Rattle.std.proofs.Math.Decide.{dec_lt}
use Rattle.std.proofs.Math.Dec.{eqb}
use Rattle.std.proofs.Math.ListN.{length, get_or, length-replicate, get_or-replicate, get_or-append}
use Rattle.std.proofs.lemmas.List.{set_at}
use Rattle.std.proofs.Math.Seq.{append_snoc}
use Rattle.std.proofs.Math.IntN.{pos}
use Rattle.std.proofs.lemmas.Bool.{eqb-false}
use Rattle.whole.specs.Words.{is_zero_z}
use Rattle.whole.specs.Tests.{clash}
use Rattle.whole.specs.Lists.{past}
use Rattle.rules.specs.Objective.{Objective}
use Rattle.rules.specs.Graph.{Graph, lin, active, add_linear, add_edge, add_term, add_terms, no_edges, bare, graph_of}
use Rattle.rules.specs.Fixing.{fix, fix_all, start}
use Rattle.accepted_laws.specs.Accept.{Fit}
use Rattle.cost_laws.specs.Stands.{Alive, Stands, stands_lin, stands_edge, fix_stands}
use Rattle.objective_laws.specs.BuildLaws.{IndicesBelow, shaped_bare}

-- n decisions in the states f, none past them
abbrev pub states_from : ℕ → List ℕ → List ℕ
states_from n f = f ++ replicate (64 - n) 0

-- ---- building
module _ (o : Objective) (fit : Fit o) where
  free_state : (k : ℕ) → k < o.n → get_or (bare o).states k 0 ≡ 2
  unfolding bare
  free_state k l =
      let h : k < length (replicate {A = ℕ} o.n 2) = omega (arith, length-replicate {A = ℕ} o.n 2) in
      get_or-append (replicate o.n 2) (replicate (64 - o.n) 0) 0 k h ∙ get_or-replicate o.n k 2 0 l

  past_state : (k : ℕ) → o.n ≤ k → get_or (bare o).states k 0 ≡ 0
  unfolding bare
  past_state k l = past (replicate o.n 2) 0 (64 - o.n) k (omega (arith, length-replicate {A = ℕ} o.n 2))

  bare_stands : Stands o.n (states_from o.n (replicate o.n 2)) (bare o)
  unfolding bare no_edges
  bare_stands = record {
    size = refl;
    states = refl;
    fine = record {
      shaped = shaped_bare o fit.small fit.weights;
      neat = record { ends = λ i j li lj e. clash (ap is_zero_z (get_or-replicate 4096 (64 * i + j) (pos 0) (pos 0) (omega arith))) e };
      light = λ i h. outside i h (dec_lt i o.n);
      inside = λ i h. within i h (dec_lt i o.n);
    };
  }
    where
      outside : (i : ℕ) → active (bare o) i ≡ false → Dec (i < o.n) → lin (bare o) i ≡ pos 0
      outside i h (yes l) = clash (ap (λ (z : ℕ). eqb z 2) (free_state i l)) h
      outside i h (no l) = past o.weights (pos 0) (64 - o.n) i (omega (arith, fit.weights))

      within : (i : ℕ) → active (bare o) i ≡ true → Dec (i < o.n) → i < o.n
      within i h (yes l) = l
      within i h (no l) = clash h (ap (λ (z : ℕ). eqb z 2) (past_state i (omega arith)))

module _ {n : ℕ} {ss : List ℕ} (free : (k : ℕ) → k < n → Alive n ss k) where
  term_stands : (i j : ℕ) (w : ℤ) {g : Graph} → Stands n ss g → i < n → j < n → Stands n ss (add_term i j w g)
  unfolding add_term
  term_stands i j w {g} s li lj = go (eqb i j) refl
    where
      go : (b : Bool) → eqb i j ≡ b → Stands n ss (cond b (add_linear i w g) (add_edge i j w g))
      go true e = stands_lin i w s (free i li)
      go false e = stands_edge i j w s (free i li) (free j lj) (eqb-false i j e)

  terms_stands : (is js : List ℕ) (ws : List ℤ) {g : Graph} → Stands n ss g → IndicesBelow n is → IndicesBelow n js → Stands n ss (add_terms is js ws g)
  unfolding add_terms
  terms_stands [] js ws s p q = s
  terms_stands (i ∷ is) [] ws s p q = s
  terms_stands (i ∷ is) (j ∷ js) [] s p q = s
  terms_stands (i ∷ is) (j ∷ js) (w ∷ ws) s p q =
      terms_stands is js ws (term_stands i j w s (p 0 (omega arith)) (q 0 (omega arith))) (λ k l. p (suc k) (omega arith)) (λ k l. q (suc k) (omega arith))

-- ---- fixing
-- the decisions before i are settled, and those of vs come next: still free, until their bytes stand in the states
fix_all_stands : (n i : ℕ) (pre vs end : List ℕ) {g : Graph} → length pre ≡ i → i + length vs ≤ n → ((k : ℕ) → k < length vs → get_or vs k 0 ≤ 2)
    → Stands n (pre ++ (replicate (length vs) 2 ++ end)) g → Stands n (pre ++ (vs ++ end)) (fix_all i vs g)
unfolding fix_all
fix_all_stands n i pre [] end e h b s = s
fix_all_stands n i pre (v ∷ vs) end {g} e h b s =
    subst (λ (l : List ℕ). Stands n l (fix_all (suc i) vs (cond (ltb v 2) (fix i v g) g))) (append_snoc pre v (vs ++ end))
    (fix_all_stands n (suc i) (pre ++ (v ∷ [])) vs end (omega (arith, length-append pre (v ∷ []))) (omega arith) (λ k l. b (suc k) (omega arith))
    (subst (λ (l : List ℕ). Stands n l (cond (ltb v 2) (fix i v g) g)) (sym (append_snoc pre v rest)) (go (ltb v 2) refl)))
  where
    rest : List ℕ
    rest = replicate (length vs) 2 ++ end

    go : (t : Bool) → ltb v 2 ≡ t → Stands n (pre ++ (v ∷ rest)) (cond t (fix i v g) g)
    go true l =
        let li : i < g.n = omega (arith, s.size) in
        let w : Stands g.n (set g.states i v) (fix i v g) = fix_stands g s.fine i li v (ltb-true v 2 l) in
        record { size = w.size ∙ s.size; states = w.states ∙ ap (λ (l : List ℕ). set l i v) s.states ∙ set_at pre 2 rest v i e; fine = w.fine }
    go false l =
        let two : 2 ≡ v = omega (arith, b 0 (omega arith), ltb-false v 2 l) in
        subst (λ (m : ℕ). Stands n (pre ++ (m ∷ rest)) g) two s

-- ---- of an objective that is not refused
module _ (o : Objective) (fit : Fit o) where
  graph_stands : Stands o.n (states_from o.n (replicate o.n 2)) (graph_of o)
  unfolding graph_of
  graph_stands = terms_stands (λ k l. (l, ap (λ (z : ℕ). eqb z 2) (free o fit k l))) o.firsts o.seconds o.term_weights (bare_stands o fit) fit.first_below fit.second_below
    where
      free : (o : Objective) → Fit o → (k : ℕ) → k < o.n → get_or (states_from o.n (replicate o.n 2)) k 0 ≡ 2
      free o fit k l = ap (λ (ss : List ℕ). get_or ss k 0) (sym (bare_stands o fit).states) ∙ free_state o fit k l

  -- the run starts with the fixings as states: "0 or 1 fixed, 2 remaining ...; zero past n"
  pub start_stands : Stands o.n (states_from o.n o.fixings) (start o)
  unfolding start
  start_stands = fix_all_stands o.n 0 [] o.fixings (replicate (64 - o.n) 0) refl (omega (arith, fit.fixings)) fit.bytes (rw fit.fixings graph_stands)
