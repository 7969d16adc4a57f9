-- Everyone who waits is active: the statement. That it holds in every run stands in proofs/WaitingLaws.antt.
-- Assumes nothing.
use Rattle.std.specs.Prelude.{◌≡◌, true, ℕ}
use mathlib.Core.List.{List}
use Rattle.whole.specs.Words.{mem}
use Rattle.rules.specs.Graph.{Graph, active}

-- everyone in the queue q is active in g
abbrev pub AllActive : Graph → List ℕ → Type 0
AllActive g q = (k : ℕ) → mem k q ≡ true → active g k ≡ true
