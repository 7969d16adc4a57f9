use Rattle.std.proofs.Common.{◌≡◌, ◌≤◌, ◌*◌, ◌^◌, ◌%◌, [], ◌∷◌, arith, pow_mono, length, length-take-le}
use Rattle.rules.specs.Record.{near_of, played}
use Rattle.rules.specs.declared.Step.{Step}
use Rattle.write_text.specs.WriteLaws.{step_parts, listed_plain}
use Rattle.decimal.specs.Puts.{◌and◌}
use Rattle.write_text.proofs.put_step.Goals as goal

near_length : (s : Step) → s.degree ≤ 3 → length (near_of s) ≡ s.degree
near_length s h = length-take-le s.degree (s.first ∷ s.second ∷ s.third ∷ []) (omega (arith, h))

-- a bit for each mask of the neighbours
masks : (s : Step) → s.degree ≤ 3 → 1 * 2 ^ s.degree % 256 ≡ 2 ^ length (near_of s)
masks s h =
    let few : 2 ^ s.degree ≤ 8 = pow_mono {j = 3} h in
    rw (near_length s h) (omega arith)

pub put_list-requires : goal.put_list-requires
put_list-requires c = rw (listed_plain (near_of c.args.s)) (omega (arith, c.requires.1, c.put_number.ensures.wrote.place, c.put_number.ensures.wrote.long))

pub put_choices-requires : goal.put_choices-requires
put_choices-requires c =
    let s = c.args.s in
    let few : length (near_of s) ≤ 3 = omega (arith, near_length s c.requires.0, c.requires.0) in
    let l = (rw (listed_plain (near_of s)) at c.put_list.ensures).wrote in
    let n = c.put_number.ensures.wrote in
    rw (masks s c.requires.0) (pow_mono {j = 3} few, omega (arith, c.requires.1, n.place, n.long, l.place, l.long))

pub put-requires : goal.put-requires
put-requires c =
    let s = c.args.s in
    let l = (rw (listed_plain (near_of s)) at c.put_list.ensures).wrote in
    let m = (rw (masks s c.requires.0) at c.put_choices.ensures).wrote in
    let n = c.put_number.ensures.wrote in
    omega (arith, c.requires.1, n.place, n.long, l.place, l.long, m.place, m.long)

pub returns : goal.returns
returns c =
    let s = c.args.s in
    rw (step_parts (played s)) (c.put_number.ensures and (rw (listed_plain (near_of s)) at c.put_list.ensures) and (rw (masks s c.requires.0) at c.put_choices.ensures) and c.put.ensures)
