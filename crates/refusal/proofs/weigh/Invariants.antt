use Rattle.std.proofs.Common.{◌≡◌, ◌+◌, ◌≤◌, drop}
use Rattle.rules.specs.Objective.{weight_of}
use Rattle.refusal.proofs.weigh.Given as goal

-- the sum so far and the weights that are left are the whole
abbrev pub invariant-loop-w : goal.invariant-loop-w
invariant-loop-w l = (l.sum ≤ 1099511627777) × (l.sum + weight_of (drop l.w-index l.weights) ≡ l.initial.sum + weight_of l.weights)
