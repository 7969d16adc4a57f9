use Rattle.std.proofs.Common.{◌≡◌, length, take, reverse, fold}
use Rattle.rules.specs.Back.{play}
use Rattle.rules.specs.Record.{played}
use Rattle.back.proofs.play.play_back.Given as goal

-- the steps so far are the first of those turned round
abbrev pub invariant-loop-s : goal.invariant-loop-s
invariant-loop-s l = l.x ≡ fold (λ x s. play (played s) x) l.initial.x (take (length l.yielded) (reverse l.steps))
