-- 01, "Outputs" and the counts: what a run that was not refused gives.
-- Assumes nothing.
use Rattle.std.specs.Prelude.{Bool, cond, ◌&&◌, List, ◌++◌, map, ℕ, ◌+◌, ◌-◌, ◌/◌, ◌%◌, ltb, length, get_or, replicate, ℤ, pos}
use Rattle.whole.specs.Words.{upto}
use Rattle.rules.specs.Objective.{Objective}
use Rattle.rules.specs.Graph.{Graph, lin, edge, actives}
use Rattle.rules.specs.Eliminate.{Step}
use Rattle.rules.specs.Run.{State, Ended, ended}
use Rattle.rules.specs.declared.Counts.{Counts}

-- "The linear output holds r weights, then zeros."
unfoldable pub linear_out : Graph → List ℤ
linear_out g = map (λ i. lin g i) (actives g) ++ replicate (64 - length (actives g)) (pos 0)

-- "weight (i, j) at 64·i + j, i and j places in the remaining list, both ways round, zeros elsewhere"
unfoldable pub cell : Graph → List ℕ → ℕ → ℤ
cell g rest k =
    cond (ltb (k / 64) (length rest) && ltb (k % 64) (length rest)) (edge g (get_or rest (k / 64) 0) (get_or rest (k % 64) 0)) (pos 0)

unfoldable pub edge_out : Graph → List ℤ
edge_out g = map (cell g (actives g)) (upto 4096)

-- "Counts are those of `RootReductionStatistics` except cut dominance: additional fixed is 0, and passes is 1 plus the blocks."
abbrev pub counts_of : State → Counts
counts_of s = record {
  eliminated = s.counted.eliminated;
  degree_three_eliminated = s.counted.three;
  degree_three_skipped = s.counted.skipped;
  contracted = s.counted.contracted;
  weak_contractions = s.counted.weakly;
  additional_fixed = 0;
  remaining = length (actives s.graph);
  passes = 1 + s.blocks;
  blocks_eliminated = s.blocks;
  block_variables = s.counted.in_blocks;
}

-- "One unit per take and one per block eliminated." "Units used are reported."
abbrev pub units : State → ℕ
units s = s.takes + s.blocks

pub record Outcome : Type 0 where
  pub constant : ℤ
  -- "Remaining decisions ascending, r of them."
  pub remaining : List ℕ
  pub linear : List ℤ
  pub edges : List ℤ
  pub states : List ℕ
  pub steps : List Step
  pub counts : Counts
  pub takes : ℕ
  pub blocks : ℕ
  pub units : ℕ
  pub complete : Bool

unfoldable pub outcome_of : Ended → Outcome
outcome_of e = record {
  constant = e.state.graph.constant;
  remaining = actives e.state.graph;
  linear = linear_out e.state.graph;
  edges = edge_out e.state.graph;
  states = e.state.graph.states;
  steps = e.state.steps;
  counts = counts_of e.state;
  takes = e.state.takes;
  blocks = e.state.blocks;
  units = units e.state;
  complete = e.complete;
}

unfoldable pub outcome : Objective → Outcome
outcome o = outcome_of (ended o)
