use Rattle.std.proofs.Common.{◌≡◌, sym, ap, ◌∙◌, arith, ◌+◌, ◌-◌, ◌*◌, ℕ, List, drop, length, get_or}
use borrow.Rule.Slice.PartMut.{put_mid}
use Rattle.std.proofs.lemmas.List.Edits.{sets}
use Rattle.rules.specs.Record.{no_step, step_bytes, steps_bytes}
use Rattle.record.proofs.Stores.{mid_sets, steps_next, steps_over}
use Rattle.record.proofs.write.put_steps.Goals as goal

pub loop-k-preserved : goal.loop-k-preserved
loop-k-preserved c =
    let l = c.loop-k in
    let ss = c.args.steps in
    let at = 76 + 6 * l.k in
    let x : c.copy_from_slice.new.self ≡ step_bytes (get_or ss l.k no_step) = c.copy_from_slice.ensures.after ∙ c.step_bytes.ensures in
    let m : put_mid at (at + 6 - at) l.body c.copy_from_slice.new.self ≡ sets l.body at (step_bytes (get_or ss l.k no_step)) =
    mid_sets at (at + 6 - at) l.body c.copy_from_slice.new.self (omega (arith, ap length x)) (omega arith) ∙ ap (sets l.body at) x in
    ap (λ (b : List ℕ). sets b (76 + 6 * (l.k + 1)) (steps_bytes (drop (l.k + 1) ss))) m ∙ sym (steps_next l.body 76 l.k ss (omega arith)) ∙ l.invariant

pub returns : goal.returns
returns c = let l = c.loop-k in sym (steps_over l.body (76 + 6 * l.k) l.k c.args.steps (omega arith)) ∙ l.invariant
