use Rattle.std.proofs.Common.{rules, arith, ◌≡◌}
use Rattle.whole.specs.Words.{one_if, bit, bits_from}
use Rattle.block_elimination.specs.Block.{mask_at}
use Rattle.block_elimination.proofs.choices.Goals as goal

pub returns : goal.returns
unfolding bits_from
returns c =
    let won = c.args.won in
    let k = c.args.k in
    let p : c.bit.result ≡ one_if (bit (mask_at won 0) k) = search rules in
    let q : c.bit-2.result ≡ one_if (bit (mask_at won 1) k) = search rules in
    let r : c.bit-3.result ≡ one_if (bit (mask_at won 2) k) = search rules in
    let s : c.bit-4.result ≡ one_if (bit (mask_at won 3) k) = search rules in
    omega (arith, p, q, r, s)
