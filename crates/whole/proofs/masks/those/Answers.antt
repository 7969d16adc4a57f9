use Rattle.std.proofs.Common.{of_calls, true, false, sym, ap, ◌∙◌, ℕ}
use Rattle.whole.specs.Words.{bit}
use Rattle.whole.specs.Masks.{bit_single}
use Rattle.whole.specs.Walks.{item_below}
use Rattle.whole.specs.Sift.{walk_yes, walk_no, sift_all}
use Rattle.whole.proofs.masks.those.Goals as goal

pub passes-requires : goal.passes-requires
passes-requires g c = search (of_calls, c.requires _ (item_below _ _ _ c.in-Some.ensures.steps))

pub single-found-requires : goal.single-found-requires
single-found-requires g c = item_below _ _ _ c.in-Some.ensures.steps

pub loop-j-preserved-then-passes : goal.loop-j-preserved-then-passes
loop-j-preserved-then-passes g c =
    let step = c.in-Some.ensures.steps in
    record {
      can = tt;
      ends = tt;
      sifted = λ p h. walk_yes p c.args.of c.loop-j.j-iterator.0 c.loop-j.found c.in-Some.j c.next.new.self.0 (c.loop-j.invariant.sifted p h) step c.single-found.result
          (λ k. ap (λ (z : ℕ). bit z k) c.single-found.ensures ∙ bit_single c.in-Some.j k) (sym (h c.in-Some.j true (item_below _ _ _ step) c.if-passes.ensures));
    }

pub loop-j-preserved : goal.loop-j-preserved
loop-j-preserved g c =
    let step = c.in-Some.ensures.steps in
    record {
      can = tt;
      ends = tt;
      sifted = λ p h. walk_no p c.args.of c.loop-j.j-iterator.0 c.loop-j.found c.in-Some.j c.next.new.self.0 (c.loop-j.invariant.sifted p h) step
          (sym (h c.in-Some.j false (item_below _ _ _ step) c.if-passes.ensures));
    }

pub returns : goal.returns
returns g c = λ p h. sift_all p c.args.of _ c.loop-j.found (c.loop-j.invariant.sifted p h) c.in-None.ensures.steps.0
