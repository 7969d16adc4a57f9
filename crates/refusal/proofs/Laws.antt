-- The weight of what is behind a list; and two weights that stop one over 2^40.
use Rattle.std.proofs.Common.{◌≡◌, sym, ◌∙◌, List, ℕ, ◌+◌, ◌≤◌, ◌<◌, min, ltb, length, drop, drop_of_length-le, arith, lt-ltb, le-ltb, ℤ}
use Rattle.std.proofs.Math.Decide.{dec_lt}
use Rattle.rules.specs.Objective.{weight_of}

pub weight_end : (l : List ℤ) (k : ℕ) → length l ≤ k → weight_of (drop k l) ≡ 0
unfolding weight_of
weight_end l k h = rw (drop_of_length-le l h)

-- the two sums, stopped one over 2^40, are over it exactly when the whole sum is
pub heavy_test : (m t a b : ℕ) → m ≡ min 1099511627777 (0 + a) → t ≡ min 1099511627777 (m + b) → ltb 1099511627776 t ≡ ltb 1099511627776 (a + b)
heavy_test m t a b e f = by (dec_lt 1099511627776 t)
  where
    by : Dec (1099511627776 < t) → ltb 1099511627776 t ≡ ltb 1099511627776 (a + b)
    by (yes h) = lt-ltb 1099511627776 t h ∙ sym (lt-ltb 1099511627776 (a + b) (omega arith))
    by (no h) = le-ltb 1099511627776 t (omega arith) ∙ sym (le-ltb 1099511627776 (a + b) (omega arith))
