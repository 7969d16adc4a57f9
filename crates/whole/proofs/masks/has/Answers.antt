use Rattle.std.proofs.Common.{sym, ◌∙◌, arith, le-ltb}
use Rattle.whole.specs.Masks.{bit_high}
use Rattle.whole.proofs.masks.has.Goals as goal

pub returns-else-j-lt64 : goal.returns-else-j-lt64
returns-else-j-lt64 c = le-ltb c.args.j 64 (omega arith) ∙ sym (bit_high c.args.m c.args.j (omega arith) (omega arith))
