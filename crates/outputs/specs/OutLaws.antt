-- A list that grows as it is written; what the outputs are, in the rules' words.
-- Assumes nothing.
use Rattle.std.specs.Prelude.{◌≡◌, Bool, true, List, ◌++◌, map, ℕ, ◌+◌, ◌-◌, ◌<◌, length, get_or, set, take, replicate}
use Rattle.std.proofs.Common.{sym, ap, ◌∙◌, arith}
use Rattle.whole.specs.Words.{from, upto, those}
use Rattle.whole.specs.Lists.{replicate_at}
use Rattle.whole.specs.Those.{rest_more}
use Rattle.whole.specs.Stores.{store_more}
pub use Rattle.whole.specs.Those.{rest_same as those_same, rest_end as those-end}
use Rattle.rules.specs.Graph.{Graph, actives}
use Rattle.rules.specs.Outcome.{linear_out, cell, edge_out}
use Rattle.outputs.specs.Out.{linear_of, cell_of}

module _ (p : ℕ → Bool) (n i : ℕ) where
  -- a decision joins the list
  pub list_grown : (l : List ℕ) (m : ℕ) (all : List ℕ) → m < length l → i < n → p i ≡ true → take m l ++ those p (from i (n - i)) ≡ all → take (m + 1) (set l m i) ++ those p (from (i + 1) (n - (i + 1))) ≡ all
  list_grown l m all h k e d =
      store_more l m i (those p (from (i + 1) (n - (i + 1)))) h ∙ ap (λ (t : List ℕ). take m l ++ t) (sym (rest_more p n i k e)) ∙ d

pub zero_at : (n k : ℕ) → get_or (replicate n 0) k 0 < 64
zero_at n k = omega (arith, replicate_at {A = ℕ} 0 n k)

-- the rules' outputs of a graph whose remaining decisions are these
module _ (g : Graph) (rs : List ℕ) (h : rs ≡ actives g) where
  pub linear_of_lem : linear_of g.linear rs ≡ linear_out g
  unfolding linear_out
  linear_of_lem = ap (linear_of g.linear) h

  pub edges_of : map (cell_of g.edges rs) (upto 4096) ≡ edge_out g
  unfolding edge_out cell
  edges_of = ap (λ (xs : List ℕ). map (cell_of g.edges xs) (upto 4096)) h
