-- The way that the code decides on, in the rules' words.
-- Assumes nothing.
use Rattle.std.specs.Prelude.{◌≡◌, cond, ℕ, ◌<◌, ◌≤◌}
use Rattle.rules.specs.Graph.{Graph}
use Rattle.rules.specs.DegreeThree.{cubic}
use Rattle.rules.specs.DominantEdge.{Found, nothing, weak, dominant}
use Rattle.rules.specs.Options.{dominant_edge}
use Rattle.rules.specs.Run as run
use Rattle.rules.specs.declared.Options.{Options}
use Rattle.graph.specs.declared.Near.{Near}
use Rattle.take.specs.declared.way.Way.{Way}
use Rattle.take.specs.declared.way.Way.TheVariants.{Inactive, Low, Into, Three, Idle}

-- "dominant edge on and a dominant neighbour exists"
abbrev pub dominant_if : Options → Graph → ℕ → Found
dominant_if opt g i = cond (dominant_edge opt) (dominant g i) nothing

-- "try degree three": whether its term is cubic shows when it is tried
abbrev pub way_of : Way → Graph → ℕ → run.Way
way_of Inactive g i = run.inactive
way_of Low g i = run.low
way_of (Into j w) g i = run.into j
way_of Three g i = cond (cubic g i) run.failed run.three
way_of Idle g i = run.idle

-- what is known of i where it goes that way
abbrev pub Fitting : Way → Graph → ℕ → Near → Type 0
Fitting Inactive g i near = Unit
Fitting Low g i near = near.count ≤ 2
Fitting (Into j w) g i near = (j < g.n) × (w ≡ weak g i j)
Fitting Three g i near = near.count ≡ 3
Fitting Idle g i near = Unit

pub record Decides (r : Way) (opt : Options) (g : Graph) (i : ℕ) (near : Near) : Type 0 where
  pub is : run.way opt g i ≡ way_of r g i
  pub fitting : Fitting r g i near
