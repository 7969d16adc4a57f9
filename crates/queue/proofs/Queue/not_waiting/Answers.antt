use Rattle.std.proofs.Common.{ap, ◌∙◌, not}
use Rattle.whole.specs.Words.{bit, mem}
use Rattle.whole.specs.Masks.{these, these_below, these_less, those_ext}
use Rattle.queue.specs.Waiting.{Waiting}
use Rattle.queue.proofs.Queue.not_waiting.Goals as goal

pub returns : goal.returns
returns c =
    let q = c.self.inside in
    ap these c.without.ensures ∙ these_less c.args.of q.waiting
    ∙ those_ext (λ k. not (bit q.waiting k)) (λ k. not (mem k c.args.self.now.who)) (these c.args.of)
    (λ k m. ap not (c.self.invariant.kept.shown k (these_below c.args.of k m) ∙ ap (λ (w : Waiting). mem k w.who) c.self.view_is))
