use Rattle.std.proofs.Common.{◌≡◌, sym, arith, rules, length}
use Rattle.std.proofs.Math.Seq.{set_out}
use Rattle.rules.specs.Back.{play}
use Rattle.back.proofs.play.play_step.Goals as goal

pub returns-then-at-lt64 : goal.returns-then-at-lt64
unfolding play
returns-then-at-lt64 c = cc

-- a decision past the plan
pub returns-else-at-lt64 : goal.returns-else-at-lt64
unfolding play
returns-else-at-lt64 c =
    let a = c.args in
    let l : length a.plan ≡ 64 = search rules in
    sym (set_out a.plan a.s.decision _ (omega arith))
