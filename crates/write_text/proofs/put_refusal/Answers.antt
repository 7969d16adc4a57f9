use Rattle.std.proofs.Common.{arith, length, ap, length-append}
use Rattle.rules.specs.WriteText.{written_refusal}
use Rattle.decimal.specs.WriteLaws.{decimal_most}
use Rattle.decimal.specs.Puts.{◌and◌, page_front}
use Rattle.write_text.proofs.put_refusal.Goals as goal

pub put_number-requires : goal.put_number-requires
put_number-requires c = omega (arith, decimal_most 20 c.args.number, ap length c.new-page.ensures.bytes, c.new-page.ensures.start)

pub put-requires : goal.put-requires
put-requires c = omega (arith, decimal_most 20 c.args.number, ap length c.new-page.ensures.bytes, c.new-page.ensures.start, c.put_number.ensures.wrote.place, c.put_number.ensures.wrote.long)

pub returns : goal.returns
unfolding written_refusal
returns c =
    let f = c.put_number.ensures and c.put.ensures in
    page_front f c.new-page.ensures.bytes c.new-page.ensures.start (grind arith) (rw length-append (omega (arith, decimal_most 20 c.args.number)))
