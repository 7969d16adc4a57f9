-- The counts that a reduction adds to, of `RootReductionStatistics`: what each reduction counts, by name.
-- Assumes nothing.
use Rattle.std.specs.Prelude.{Bool, ℕ, ◌+◌}
use Rattle.whole.specs.Words.{one_if}
use Rattle.rules.specs.declared.Tally.{Tally}

abbrev pub tally : ℕ → ℕ → ℕ → ℕ → ℕ → ℕ → Tally
tally a b c d e f = record { eliminated = a; three = b; skipped = c; contracted = d; weakly = e; in_blocks = f }

abbrev pub nothing_counted : Tally
nothing_counted = tally 0 0 0 0 0 0

abbrev pub one_eliminated : Tally
one_eliminated = tally 1 0 0 0 0 0

-- one of degree three is eliminated too
abbrev pub one_three : Tally
one_three = tally 1 1 0 0 0 0

-- "failure adds one to the skipped count"
abbrev pub one_skipped : Tally
one_skipped = tally 0 0 1 0 0 0

-- "Weak when either bound is 0."
abbrev pub one_contracted : Bool → Tally
one_contracted weakly = tally 0 0 0 1 (one_if weakly) 0

-- a block's members
abbrev pub members_gone : ℕ → Tally
members_gone k = tally 0 0 0 0 0 k

unfoldable pub plus : Tally → Tally → Tally
plus x y =
    tally (x.eliminated + y.eliminated) (x.three + y.three) (x.skipped + y.skipped) (x.contracted + y.contracted)
    (x.weakly + y.weakly) (x.in_blocks + y.in_blocks)
