use Rattle.std.proofs.Common.{◌≡◌, sym, ap, ◌∙◌, arith, take, drop, get_or, eq-eqb, ne_eqb}
use Rattle.whole.specs.Words.{from}
use Rattle.rules.specs.Record.{from_little, check_right}
use Rattle.record_laws.specs.Ranges.{stretch}
use Rattle.record.proofs.Bytes.{from_two}
use Rattle.record.proofs.sums.is_right.Goals as goal
use Rattle.record.proofs.sums.is_right.Goals.{After-from_le_bytes, After-from_le_bytes-then-from_le_bytes-sums}

-- the numbers that stand there
first : (c : After-from_le_bytes) → c.from_le_bytes.result ≡ from_little (take 2 (drop 508 c.args.block.now))
unfolding from
first c =
    let b = c.args.block.now in
    c.from_le_bytes.ensures ∙ from_two (get_or b 508 0) (get_or b 509 0) ∙ ap from_little (sym (stretch 2 508 0 b (omega arith)))

second : (c : After-from_le_bytes-then-from_le_bytes-sums) → c.from_le_bytes-then-from_le_bytes-sums.result ≡ from_little (take 2 (drop 510 c.args.block.now))
unfolding from
second c =
    let b = c.args.block.now in
    c.from_le_bytes-then-from_le_bytes-sums.ensures ∙ from_two (get_or b 510 0) (get_or b 511 0) ∙ ap from_little (sym (stretch 2 510 0 b (omega arith)))

pub returns-then-from_le_bytes-sums : goal.returns-then-from_le_bytes-sums
unfolding check_right
returns-then-from_le_bytes-sums c =
    let p = first (goal.at.returns-then-from_le_bytes-sums c).After-from_le_bytes in
    let q = second (goal.at.returns-then-from_le_bytes-sums c).After-from_le_bytes-then-from_le_bytes-sums in
    rw (← p, ← q, ← c.sums_of-sums.ensures.0, ← c.sums_of-sums.ensures.1, eq-eqb _ _ c.if-from_le_bytes-sums.true)

pub returns-else-from_le_bytes-sums : goal.returns-else-from_le_bytes-sums
unfolding check_right
returns-else-from_le_bytes-sums c =
    let p = first (goal.at.returns-else-from_le_bytes-sums c).After-from_le_bytes in
    rw (← p, ← c.sums_of-sums.ensures.0, ne_eqb _ _ c.if-from_le_bytes-sums.false)
