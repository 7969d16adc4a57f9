-- 01, "The objective we accept".
-- Assumes nothing.
use Rattle.std.specs.Prelude.{List, [], ◌∷◌, ℕ, ◌+◌, ℤ, nat_abs}

pub record Objective : Type 0 where
  -- "n decisions x, each 0 or 1"
  pub n : ℕ
  -- "Linear weights a"
  pub weights : List ℤ
  -- "and pair terms (i, j, w)": the i, the j and the w of each
  pub firsts : List ℕ
  pub seconds : List ℕ
  pub term_weights : List ℤ
  -- "One fixing byte a decision: 0, 1, or 2 for free."
  pub fixings : List ℕ
  pub switches : ℕ
  -- "Budget: any u32."
  pub budget : ℕ

-- "the absolute values of all weights given, linear and pair, before any adding up"
unfoldable pub weight_of : List ℤ → ℕ
weight_of [] = 0
weight_of (w ∷ ws) = nat_abs w + weight_of ws

abbrev pub total : Objective → ℕ
total o = weight_of o.weights + weight_of o.term_weights

-- the call's lists and numbers as one objective
abbrev pub objective : ℕ → List ℤ → List ℕ → List ℕ → List ℤ → List ℕ → ℕ → ℕ → Objective
objective n a is js ws fs sw b = record { n = n; weights = a; firsts = is; seconds = js; term_weights = ws; fixings = fs; switches = sw; budget = b }
