use Rattle.std.proofs.Common.{refl, arith}
use Rattle.whole.specs.Words.{mem}
use Rattle.whole.specs.Masks.{bit_none}
use Rattle.whole.specs.Pigeon.{none}
use Rattle.queue.specs.Items.{ring_from}
use Rattle.queue.proofs.Queue.new.Goals as goal

pub invariant_of-result : goal.invariant_of-result
unfolding ring_from mem
invariant_of-result c = record {
  kept = record { long = refl; head = omega arith; apart = none; shown = λ k l. bit_none k };
  mask = omega arith;
}

pub returns : goal.returns
unfolding ring_from
returns c = refl
