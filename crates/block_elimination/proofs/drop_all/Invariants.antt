use Rattle.std.proofs.Common.{◌≡◌, drop}
use Rattle.rules.specs.SmallBlock.{drop_all}
use Rattle.block_elimination.proofs.drop_all.Given as goal

abbrev pub invariant-loop-i : goal.invariant-loop-i
invariant-loop-i l = drop_all (drop l.i-index l.members) l.g ≡ drop_all l.members l.initial.g
