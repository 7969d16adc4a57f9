use Rattle.std.proofs.Common.{◌≡◌, ap, ◌∙◌, rules, w64, SFits, length, of_z}
use Rattle.whole.specs.Ints.{rd}
use Rattle.rules.specs.Record.{little}
use Rattle.record.proofs.Bytes.{eight_bytes, unsigned}
use Rattle.record.proofs.Stores.{body_is}
use Rattle.record.proofs.write.body_of.Goals as goal

pub returns : goal.returns
returns c =
    let r = c.args.«record» in
    let ls : length r.states ≡ 64 = search rules in
    let lt : length r.steps ≡ 64 = search rules in
    let f : SFits w64 r.constant = search rules in
    let x = c.copy_from_slice.ensures.after ∙ c.to_le_bytes.ensures ∙ eight_bytes _ ∙ ap (little 8) (ap (of_z w64) (rd f) ∙ unsigned r.constant) in
    body_is r (record { states = ls; steps = lt }) _ _ _ x c.copy_from_slice-2.ensures.after c.put_steps.ensures
