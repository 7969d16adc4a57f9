use Rattle.std.proofs.Common.{ap, ◌∙◌, arith}
use Rattle.std.proofs.Math.Pow.{pow_mono}
use Rattle.low_degree.specs.Table.{step_from, choice_bits}
use Rattle.low_degree.proofs.step_of.Goals as goal

pub choices-requires : goal.choices-requires
choices-requires c = omega (arith, c.masks.ensures, pow_mono {j = 3} c.requires.1)

pub returns : goal.returns
unfolding step_from
returns c = rw (c.choices.ensures ∙ ap (choice_bits c.args.deltas) c.masks.ensures)
