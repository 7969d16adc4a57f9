-- What a take of i may rest on, and what it leaves.
-- Assumes nothing.
use Rattle.std.specs.Prelude.{◌≡◌, Some, None, ℕ, ◌<◌}
use Rattle.whole.specs.Masks.{these}
use Rattle.rules.specs.Graph.{Graph, neighbours}
use Rattle.rules.specs.Counts.{plus}
use Rattle.rules.specs.Eliminate as rule
use Rattle.rules.specs.Record.{hold}
use Rattle.rules.specs.Run as run
use Rattle.rules.specs.Size.{Within}
use Rattle.rules.specs.declared.Options.{Options}
use Rattle.rules.specs.declared.Tally.{Tally}
use Rattle.state.specs.Counting.{counts}
use Rattle.take.specs.declared.Made.{Made}
use Rattle.take.specs.declared.Taken.{Taken}

-- a decision of a graph within the size rule
pub record Ready (g : Graph) (i : ℕ) : Type 0 where
  pub below : i < 64
  pub within : Within g

-- the graph and the counts change, and nothing else
abbrev pub recounted : run.State → Graph → Tally → run.State
recounted S g c = run.state g S.queue S.steps (plus S.counted c) S.takes S.blocks

-- i went the way v from the graph g to g', and made the step y, which the record holds, where there is one
abbrev pub Stepped : run.Way → ℕ → Graph → Graph → Tally → Made → Type 0
Stepped v i g g' c made =
    (y : rule.Step) × ((made.step ≡ hold y) × ((these made.near ≡ neighbours g i)
    × ((opt : Options) (S : run.State) → S.graph ≡ g → run.go v opt i S ≡ run.reduced opt S i g' y c)))

-- i went the way v from the graph g to g': with no step, or with one
pub record Leaves (v : run.Way) (i : ℕ) (g : Graph) (r : Taken) (g' : Graph) : Type 0 where
  pub no : r.made ≡ None → (opt : Options) (S : run.State) → S.graph ≡ g → run.go v opt i S ≡ recounted S g' (counts r.did)
  pub yes : (made : Made) → r.made ≡ Some made → Stepped v i g g' (counts r.did) made
