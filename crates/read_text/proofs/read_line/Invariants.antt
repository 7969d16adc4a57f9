use Rattle.std.proofs.Common.{length}
use Rattle.read_text.specs.LineLaws.{ReadSoFar}
use Rattle.read_text.proofs.read_line.Given as goal

abbrev pub invariant-loop-i : goal.invariant-loop-i
invariant-loop-i g l = ReadSoFar g.T.Field.one (length l.initial.out) l.fn.text l.out l.i l.rest
