use Rattle.std.proofs.Common.{◌≡◌, ◌∙◌, arith, eqb, get_or}
use Rattle.whole.specs.Words.{from, all}
use Rattle.whole.specs.Chains.{all_places}
use Rattle.rules.specs.Record.{zeros_in}
use Rattle.record.proofs.read.zeros_in.Goals as goal

pub returns-then-block-eq0 : goal.returns-then-block-eq0
unfolding zeros_in all
returns-then-block-eq0 c =
    let b = c.args.block.now in
    let z : c.zero_bytes.result ≡ all (λ k. eqb (get_or b k 0) 0) (from 460 48) = c.zero_bytes.ensures ∙ all_places (λ b. eqb b 0) b 0 48 460 (omega arith) in
    grind arith

pub returns-else-block-eq0 : goal.returns-else-block-eq0
unfolding zeros_in all
returns-else-block-eq0 c = grind arith
