-- 01, "Switch bits": what a run is asked besides its objective.
-- Assumes nothing.
use Rattle.std.specs.Prelude.{Bool, ℕ}
use Rattle.whole.specs.Words.{bit}
use Rattle.rules.specs.Objective.{Objective}
use Rattle.rules.specs.declared.Options.{Options}

-- "Switch bits: 0 low degree, 1 degree three, 2 dominant edge, 3 small block."
abbrev pub options_of : ℕ → Options
options_of switches = record {
  low_degree = bit switches 0;
  degree_three = bit switches 1;
  dominant_edge = bit switches 2;
  small_block = bit switches 3;
}

abbrev pub asked : Objective → Options
asked o = options_of o.switches

abbrev pub low_degree : Options → Bool
low_degree opt = opt.low_degree

abbrev pub degree_three : Options → Bool
degree_three opt = opt.degree_three

abbrev pub dominant_edge : Options → Bool
dominant_edge opt = opt.dominant_edge

abbrev pub small_block : Options → Bool
small_block opt = opt.small_block
