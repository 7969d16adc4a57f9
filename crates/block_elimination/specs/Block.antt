-- A block's minima and its steps, as the code holds them.
-- Assumes nothing.
use Rattle.std.specs.Prelude.{◌≡◌, List, ℕ, ◌<◌, ◌≤◌, get_or, ℤ, pos}
use Rattle.whole.specs.Words.{bit, bits_from}
use Rattle.rules.specs.Eliminate.{Step, step}
use Rattle.block_minima.specs.Weights.{Minimum}
use Rattle.block_minima.specs.declared.Best.{Best}

-- past the last filling: the mask of nobody, at no cost
abbrev pub none : Best
none = record { mask = 0; cost = pos 0 }

-- of a list of winners, the winning mask of a filling, and what it costs
abbrev pub mask_at : List Best → ℕ → ℕ
mask_at won f = (get_or won f none).mask

abbrev pub cost_at : List Best → ℕ → ℤ
cost_at won f = (get_or won f none).cost

-- for each of `size` fillings f, of the interior costs (c f): the winning mask and its cost; then zeros
pub record Lowest (c : ℕ → ℕ → ℤ) (count size : ℕ) (won : List Best) : Type 0 where
  pub each : (f : ℕ) → f < size → Minimum (c f) count (mask_at won f) (cost_at won f)
  pub rest : (f : ℕ) → size ≤ f → get_or won f none ≡ none

-- the step of the member i at place k
abbrev pub member_step : List ℕ → List Best → ℕ → ℕ → Step
member_step near won k i = step i near (bits_from (λ f. bit (mask_at won f) k) 0 4)
