-- What a take counts, and the room that the counts have.
-- Assumes nothing.
use Rattle.std.specs.Prelude.{ℕ, ◌<◌, ◌≤◌}
use Rattle.std.proofs.Common.{arith}
use Rattle.whole.specs.Words.{one_if}
use Rattle.whole.specs.Tests.{at_most_one}
use Rattle.rules.specs.Counts.{tally, nothing_counted, members_gone, one_skipped, one_eliminated, one_three, one_contracted}
use Rattle.rules.specs.declared.Tally.{Tally}
use Rattle.state.specs.declared.Did.{Did}
use Rattle.state.specs.declared.Did.TheVariants.{Nothing, Skipped, Eliminated, Three, Contracted}

abbrev pub counts : Did → Tally
counts Nothing = nothing_counted
counts Skipped = one_skipped
counts Eliminated = one_eliminated
counts Three = one_three
counts (Contracted weakly) = one_contracted weakly

-- each count has room for a unit's
pub record Countable (t : Tally) : Type 0 where
  pub eliminated : t.eliminated ≤ 64
  pub three : t.three ≤ 64
  pub skipped : t.skipped < 4294967295
  pub contracted : t.contracted ≤ 64
  pub weakly : t.weakly ≤ 64
  pub in_blocks : t.in_blocks ≤ 64

-- what one unit counts
pub record OfUnit (t : Tally) : Type 0 where
  pub eliminated : t.eliminated ≤ 8
  pub three : t.three ≤ 8
  pub skipped : t.skipped ≤ 1
  pub contracted : t.contracted ≤ 8
  pub weakly : t.weakly ≤ 8
  pub in_blocks : t.in_blocks ≤ 8

abbrev few : (a b c d e f : ℕ) → a ≤ 8 → b ≤ 8 → c ≤ 1 → d ≤ 8 → e ≤ 8 → f ≤ 8 → OfUnit (tally a b c d e f)
few a b c d e f p q r s t u = record { eliminated = p; three = q; skipped = r; contracted = s; weakly = t; in_blocks = u }

pub counts_few : (d : Did) → OfUnit (counts d)
counts_few Nothing = few 0 0 0 0 0 0 (omega arith) (omega arith) (omega arith) (omega arith) (omega arith) (omega arith)
counts_few Skipped = few 0 0 1 0 0 0 (omega arith) (omega arith) (omega arith) (omega arith) (omega arith) (omega arith)
counts_few Eliminated = few 1 0 0 0 0 0 (omega arith) (omega arith) (omega arith) (omega arith) (omega arith) (omega arith)
counts_few Three = few 1 1 0 0 0 0 (omega arith) (omega arith) (omega arith) (omega arith) (omega arith) (omega arith)
counts_few (Contracted w) = few 0 0 0 1 (one_if w) 0 (omega arith) (omega arith) (omega arith) (omega arith) (omega (arith, at_most_one w)) (omega arith)

pub members_few : (k : ℕ) → k ≤ 8 → OfUnit (members_gone k)
members_few k h = few 0 0 0 0 0 k (omega arith) (omega arith) (omega arith) (omega arith) (omega arith) h
