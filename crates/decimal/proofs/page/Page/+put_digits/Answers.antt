use Rattle.std.proofs.Common.{ℕ, ◌/◌, ◌-◌, [], cond, ltb, arith, lt-ltb, le-ltb, length-append}
use Rattle.rules.specs.WriteText.{decimal}
use Rattle.decimal.specs.WriteLaws.{decimal_none, decimal_parts, decimal_more_length}
use Rattle.decimal.specs.Puts.{Put, put_none, ◌and◌}
use Rattle.decimal.proofs.page.Page.+put_digits.Goals.{Joined-v-ge10, then-v-ge10, else-v-ge10}
use Rattle.decimal.proofs.page.Page.+put_digits.Goals as goal

front : (t : ℕ) (c : Joined-v-ge10 t) → Put c.args.self.now (cond (ltb c.args.v 10) [] (decimal (c.args.k - 1) (c.args.v / 10))) c.if-v-ge10.self
front t c = elim c.if-v-ge10.branch [
  | then-v-ge10 w ↦ rw (w.self-is, le-ltb c.args.v 10 w.if-v-ge10.true) w.put_digits.ensures
  | else-v-ge10 w ↦ rw (w.self-is, lt-ltb c.args.v 10 w.if-v-ge10.false) put_none
]

pub returns-then-k-eq0 : goal.returns-then-k-eq0
returns-then-k-eq0 t c = rw (decimal_none c.args.k c.args.v c.if-k-eq0.true) put_none

pub put_digits-requires : goal.put_digits-requires
put_digits-requires t c = (omega arith, omega (arith, decimal_more_length c.args.k c.args.v c.if-k-eq0.false c.if-v-ge10.true))

pub put-requires : goal.put-requires
put-requires t c =
    let f = front t (goal.at.put-requires t c).Joined-v-ge10 in
    omega (arith, f.wrote.place, f.wrote.long, rw (decimal_parts c.args.k c.args.v c.if-k-eq0.false, length-append) at c.requires)

pub returns : goal.returns
returns t c =
    rw (decimal_parts c.args.k c.args.v c.if-k-eq0.false) (front t (goal.at.returns t c).Joined-v-ge10 and c.put.ensures)
