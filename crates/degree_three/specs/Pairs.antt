-- The rules' table of pairs as the code holds it.
-- Assumes nothing.
use Rattle.std.specs.Prelude.{ℕ, get_or}
use Rattle.rules.specs.DegreeThree as rule
use Rattle.degree_three.specs.declared.Pair.{Pair}

abbrev pub rule_pair : ℕ → rule.Pair
rule_pair p = get_or rule.pairs p (rule.pair_of 0 0 0)

abbrev pub pair_at : ℕ → Pair
pair_at p = record { low = (rule_pair p).low; high = (rule_pair p).high; mask = (rule_pair p).mask }
