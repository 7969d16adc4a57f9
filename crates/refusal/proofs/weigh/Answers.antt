use Rattle.std.proofs.Common.{◌≡◌, nat_abs, get_or, pos, arith}
use Rattle.std.proofs.lemmas.Int.{ints}
use Rattle.accepted_laws.specs.Mass.{weight_rest}
use Rattle.refusal.proofs.Laws.{weight_end}
use Rattle.refusal.proofs.weigh.Goals as goal

pub returns-then-sum-gt1099511627776 : goal.returns-then-sum-gt1099511627776
returns-then-sum-gt1099511627776 c =
    let a : c.unsigned_abs.result ≡ nat_abs (get_or c.args.weights.now c.loop-w.w-index (pos 0)) = search (arith, ints) in
    omega (arith, weight_rest c.args.weights.now c.loop-w.w-index)

pub loop-w-preserved : goal.loop-w-preserved
loop-w-preserved c =
    let a : c.unsigned_abs.result ≡ nat_abs (get_or c.args.weights.now c.loop-w.w-index (pos 0)) = search (arith, ints) in
    (omega arith, omega (arith, weight_rest c.args.weights.now c.loop-w.w-index))

pub returns : goal.returns
returns c = omega (arith, weight_end c.args.weights.now c.loop-w.w-index (omega arith))
