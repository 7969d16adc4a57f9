use Rattle.std.proofs.Common.{◌≡◌, ap, ◌∙◌, rules, w64, SFits, length, take, drop}
use Rattle.rules.specs.Record.{from_little, from_twos, record_in}
use Rattle.record.proofs.Bytes.{from_eight, signed}
use Rattle.whole.specs.Ints.{rd}
use Rattle.record.proofs.read.record_in.Goals as goal

pub returns : goal.returns
unfolding record_in
returns c =
    let b = c.args.block.now in
    let x : c.copy_from_slice.new.self ≡ take 8 (drop 4 b) = c.copy_from_slice.ensures.after in
    let n : length c.copy_from_slice.new.self ≡ 8 = search rules in
    let f : SFits w64 c.from_le_bytes.result = search rules in
    let v = rd f ∙ c.from_le_bytes.ensures ∙ signed _ ∙ ap from_twos (from_eight c.copy_from_slice.new.self n ∙ ap from_little x) in
    rw (v, c.copy_from_slice-2.ensures.after, c.steps_in.ensures)
