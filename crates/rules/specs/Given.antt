-- The objective that a call is given, as its lists have it.
-- Assumes nothing.
use Rattle.rules.specs.Objective as rule
use Rattle.rules.specs.declared.objective.Objective.{Objective}

abbrev pub of_lists : Objective → rule.Objective
of_lists o =
    rule.objective o.n o.weights.now o.firsts.now o.seconds.now o.term_weights.now o.fixings.now o.switches o.budget
