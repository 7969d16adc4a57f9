use Rattle.std.proofs.Common.{◌<◌, ◌≢◌, ℕ, ◌+◌, ◌*◌, sym, ◌∙◌, arith, length, length-set, get_or-set_other, get_or-set_same, below_more}
use Rattle.std.proofs.lemmas.List.{same_lists, get_or_default}
use Rattle.whole.specs.Words.{tab}
use Rattle.whole.specs.Lists.{tab_map, tab_at, length_tab}
use Rattle.rules.specs.declared.Step.{Step}
use Rattle.rules.specs.Record.{no_step, step_in}
use Rattle.record.proofs.read.steps_in.Goals as goal

pub loop-k-preserved : goal.loop-k-preserved
loop-k-preserved c = record {
  long = length-set c.loop-k.step-items c.loop-k.k _ ∙ c.loop-k.invariant.long;
  read =
      below_more _ _
      (λ i h. let ne : i ≢ c.loop-k.k = omega arith in rw get_or-set_other (c.loop-k.invariant.read i h))
      (let lt : c.loop-k.k < length c.loop-k.step-items = omega arith in rw get_or-set_same c.step_in.ensures);
}

pub returns : goal.returns
returns c =
    let b = c.args.block.now in
    let f : ℕ → Step = λ k. step_in b (76 + 6 * k) in
    let l = c.loop-k in
    same_lists l.step-items (tab f 64) (l.invariant.long ∙ sym (length_tab f 64))
    (λ k d h. get_or_default l.step-items k d no_step h ∙ l.invariant.read k (omega arith) ∙ sym (tab_at f 64 k d (omega arith)))
    ∙ sym (tab_map f 64)
