-- Which way a take goes, test by test.
-- Assumes nothing.
use Rattle.std.specs.Prelude.{◌≡◌, Bool, true, false, not, ◌&&◌, ℕ, ◌<◌, eqb, get_or}
use Rattle.std.proofs.Math.Path.{ap}
use Rattle.std.proofs.Common.{◌∙◌, arith, eq-eqb, ne_eqb}
use Rattle.std.proofs.Math.Bool.{cond}
use Rattle.std.proofs.Math.Dec.{leb}
use Rattle.rules.specs.Options.{low_degree, degree_three, dominant_edge}
use Rattle.rules.specs.declared.Options.{Options}
use Rattle.rules.specs.Graph.{Graph, degree}
use Rattle.rules.specs.DegreeThree.{cubic}
use Rattle.rules.specs.DominantEdge.{nothing, at, dominant}
use Rattle.dominant_edge.specs.AnswerLaws.{dominant_inside}
use Rattle.take.specs.Ways.{dominant_if}
use Rattle.rules.specs.Run.{Way, inactive, low, into, three, failed, idle, or_three, way}

module _ (opt : Options) (g : Graph) (i : ℕ) where
  pub way_inactive : (get_or g.states i 0 ≡ 2 → ⊥) → way opt g i ≡ inactive
  unfolding way
  way_inactive h = rw (ne_eqb (get_or g.states i 0) 2 h)

  module _ (on : get_or g.states i 0 ≡ 2) where
    abbrev by_low : Bool → Way
    by_low t = cond t low (or_three opt g i (dominant_if opt g i))

    alive : way opt g i ≡ by_low (low_degree opt && leb (degree g i) 2)
    unfolding way
    alive = ap (λ (t : Bool). cond (not t) inactive (by_low (low_degree opt && leb (degree g i) 2))) (eq-eqb (get_or g.states i 0) 2 on)

    pub way_low : (low_degree opt && leb (degree g i) 2) ≡ true → way opt g i ≡ low
    way_low e = alive ∙ ap by_low e

    module _ (high : (low_degree opt && leb (degree g i) 2) ≡ false) where
      pub way_into : (j : ℕ) → dominant_if opt g i ≡ at j → way opt g i ≡ into j
      unfolding or_three
      way_into j e = alive ∙ ap by_low high ∙ ap (or_three opt g i) e

      -- nobody is dominant, or nobody is asked
      module _ (none : dominant_if opt g i ≡ nothing) where
        abbrev if_three : Bool → Way
        if_three t = cond t (cond (cubic g i) failed three) idle

        other : way opt g i ≡ if_three (low_degree opt && degree_three opt && eqb (degree g i) 3)
        unfolding or_three
        other = alive ∙ ap by_low high ∙ ap (or_three opt g i) none

        pub way_three : (low_degree opt && degree_three opt && eqb (degree g i) 3) ≡ true → way opt g i ≡ cond (cubic g i) failed three
        way_three h = other ∙ ap if_three h

        pub way_idle : (low_degree opt && degree_three opt && eqb (degree g i) 3) ≡ false → way opt g i ≡ idle
        way_idle h = other ∙ ap if_three h

-- the neighbour that is found is a decision
pub found_inside : (opt : Options) (g : Graph) (i j : ℕ) → dominant_if opt g i ≡ at j → j < g.n
found_inside opt g i j e = by (dominant_edge opt) e
  where
    by : (t : Bool) → cond t (dominant g i) nothing ≡ at j → j < g.n
    by true e = dominant_inside g i j e
    by false e = let z : ◌≡◌ {A = ℕ} 0 1 = cc in absurd (omega arith)
