use Rattle.rules.specs.Objective.{weight_of}
use Rattle.rules.specs.Refuse.{too_heavy}
use Rattle.refusal.proofs.Laws.{heavy_test}
use Rattle.refusal.proofs.too_heavy.Goals as goal

pub returns : goal.returns
unfolding too_heavy
returns c = heavy_test _ _ (weight_of c.args.o.weights.now) (weight_of c.args.o.term_weights.now) c.weigh.ensures c.weigh-2.ensures
