-- The table of a decision's deltas, one entry a mask of at most three neighbours, and what is read from it.
-- Assumes nothing.
use Rattle.std.specs.Prelude.{◌≡◌, List, ℕ, ◌^◌, get_or, ℤ, pos, ◌+ℤ◌}
use Rattle.std.specs.Int.Signed.{lt_z}
use Rattle.whole.specs.Words.{tab, chosen, bits_from, below0}
use Rattle.rules.specs.Graph.{Graph, lin}
use Rattle.rules.specs.Eliminate.{delta, tee}
use Rattle.graph.specs.Near.{three, near_at}
use Rattle.graph.specs.declared.Near.{Near}
use Rattle.low_degree.specs.declared.Table.{Table}
use Rattle.rules.specs.declared.Step.{Step}

-- of the first three weights; a missing one is 0, so that one table serves every degree
unfoldable pub deltas_of : ℤ → List ℤ → List ℤ
deltas_of a ws = tab (λ m. a +ℤ chosen (three ws (pos 0)) m) 8

unfoldable pub tees_of : List ℤ → List ℤ
tees_of ds = tab (λ m. below0 (get_or ds m (pos 0))) 8

-- the choices for the first c masks
unfoldable pub choice_bits : List ℤ → ℕ → ℕ
choice_bits ds c = bits_from (λ m. lt_z (get_or ds m (pos 0)) (pos 0)) 0 c

unfoldable pub step_from : ℕ → Near → List ℤ → Step
step_from i near ds = record {
  decision = i;
  degree = near.count;
  first = get_or near.list 0 0;
  second = get_or near.list 1 0;
  third = get_or near.list 2 0;
  choices = choice_bits ds (2 ^ near.count);
}

-- the rules' own table, in whatever graph the decision stands
abbrev pub Tables : Table → ℤ → Near → Type 0
Tables r a near = (g : Graph) (i : ℕ) → a ≡ lin g i → near ≡ near_at g i → (r.deltas ≡ tab (delta g i) 8) × (r.tees ≡ tab (tee g i) 8)
