-- 01, "Cost is the sum of a·x and w·x·x": the cost of a plan x in an objective as the caller gave it, with terms in any order, repeated, or with i = j. x i says that decision i is 1, and `when (x i) a` is a·x.
-- Assumes nothing.
use Rattle.std.specs.Prelude.{◌≡◌, Bool, cond, List, [], ◌∷◌, ℕ, suc, ◌<◌, ltb, eqb, get_or, ℤ, pos, ◌+ℤ◌}
use Rattle.rules.specs.Objective.{Objective}
use Rattle.cost_laws.specs.Cost.{when}

-- "the sum of a·x": the first weight is decision i's
unfoldable pub linear_cost : ℕ → List ℤ → (ℕ → Bool) → ℤ
linear_cost i [] x = pos 0
linear_cost i (a ∷ rest) x = when (x i) a +ℤ linear_cost (suc i) rest x

-- "and w·x·x"
unfoldable pub terms_cost : List ℕ → List ℕ → List ℤ → (ℕ → Bool) → ℤ
terms_cost [] js ws x = pos 0
terms_cost (i ∷ is) [] ws x = pos 0
terms_cost (i ∷ is) (j ∷ js) [] x = pos 0
terms_cost (i ∷ is) (j ∷ js) (w ∷ ws) x = when (x i) (when (x j) w) +ℤ terms_cost is js ws x

unfoldable pub cost_of_objective : Objective → (ℕ → Bool) → ℤ
cost_of_objective o x = linear_cost 0 o.weights x +ℤ terms_cost o.firsts o.seconds o.term_weights x

-- "One fixing byte a decision: 0, 1, or 2 for free": x with the fixings put in
abbrev pub with_fixings : List ℕ → (ℕ → Bool) → ℕ → Bool
with_fixings fs x k = cond (ltb (get_or fs k 2) 2) (eqb (get_or fs k 2) 1) (x k)

-- x keeps the fixings
abbrev pub Keeps : List ℕ → (ℕ → Bool) → Type 0
Keeps fs x = (k : ℕ) → get_or fs k 2 < 2 → x k ≡ eqb (get_or fs k 2) 1
