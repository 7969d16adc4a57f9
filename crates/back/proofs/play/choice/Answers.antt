use Rattle.std.proofs.Common.{arith}
use Rattle.back.specs.PlayMasks.{bit_number, byte_bits}
use Rattle.back.proofs.play.choice.Goals as goal

pub returns-then-mask-lt8 : goal.returns-then-mask-lt8
returns-then-mask-lt8 c = bit_number c.args.choices c.args.mask

pub returns-else-mask-lt8 : goal.returns-else-mask-lt8
returns-else-mask-lt8 c = byte_bits c.args.choices c.args.mask (omega arith) c.if-mask-lt8.false
