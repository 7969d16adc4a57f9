-- What the answer says of the rules' search.
-- Assumes nothing.
use Rattle.std.specs.Prelude.{◌≡◌, refl, Bool, true, false, cond, List, [], ◌∷◌, Some, None, ℕ, ◌<◌}
use Rattle.std.proofs.Common.{ap, ◌∙◌, subst, arith}
use Rattle.whole.specs.Words.{mem}
use Rattle.whole.specs.Members.{in_head, in_tail}
use Rattle.rules.specs.Graph.{Graph, neighbours}
use Rattle.rules.specs.DominantEdge.{Found, nothing, at, weak, dominates, first, dominant}
use Rattle.graph.specs.NearLaws.{mem_inside}
use Rattle.dominant_edge.specs.Answer.{answer_of}

-- the two answers: none, or a neighbour and its flag
pub answer_none : (g : Graph) (i : ℕ) (x : Found) → None ≡ answer_of g i x → x ≡ nothing
answer_none g i nothing e = refl
answer_none g i (at j) e = absurd (cc)

pub answer_at : (g : Graph) (i : ℕ) (x : Found) (j : ℕ) (w : Bool) → Some (j, w) ≡ answer_of g i x → (x ≡ at j) × (w ≡ weak g i j)
answer_at g i nothing j w e = absurd (cc)
answer_at g i (at k) j w e =
    let both : ◌≡◌ {A = ℕ × Bool} (j, w) (k, weak g i k) = cc in
    let s : j ≡ k = ap (λ (x : ℕ × Bool). x.0) both in
    (rw s, ap (λ (x : ℕ × Bool). x.1) both ∙ rw s)

-- the neighbour that is found is a decision
first_among : (p : ℕ → Bool) (js : List ℕ) (j : ℕ) → first p js ≡ at j → mem j js ≡ true
unfolding first
first_among p [] j e = let z : ◌≡◌ {A = ℕ} 0 1 = cc in absurd (omega arith)
first_among p (x ∷ js) j e = go (p x) e (first_among p js j)
  where
    go : (t : Bool) → cond t (at x) (first p js) ≡ at j → (first p js ≡ at j → mem j js ≡ true) → mem j (x ∷ js) ≡ true
    go true e r = let s : x ≡ j = cc in subst (λ (k : ℕ). mem k (x ∷ js) ≡ true) s (in_head x js)
    go false e r = in_tail j x js (r e)

pub dominant_inside : (g : Graph) (i j : ℕ) → dominant g i ≡ at j → j < g.n
unfolding dominant
dominant_inside g i j e = mem_inside g i j (first_among (dominates g i) (neighbours g i) j e)
