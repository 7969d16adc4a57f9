use Rattle.std.proofs.Common.{take}
use Rattle.small_block.specs.Tables.{Around}
use Rattle.small_block.proofs.boundary_of.Given as goal

abbrev pub invariant-loop-i : goal.invariant-loop-i
invariant-loop-i l = Around l.masks (take l.i-index l.members) l.joined l.own
