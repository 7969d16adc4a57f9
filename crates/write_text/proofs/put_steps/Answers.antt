use Rattle.std.proofs.Common.{[], ◌≡◌, ℕ, ◌<◌, ◌≤◌, ◌+◌, subst, arith, length, take, drop, get_or, length-take, get_or-take}
use lib.ListN.{length-map, get_or-map}
use Rattle.rules.specs.Eliminate as rule
use Rattle.rules.specs.declared.Record.{Record}
use Rattle.rules.specs.Record.{played, steps_of, no_step}
use Rattle.rules.specs.WriteText.{step_line, step_lines}
use Rattle.write_text.specs.Outcomes.{Short}
use Rattle.write_text.specs.WriteLaws.{steps_left, steps_none, step_length}
use Rattle.decimal.specs.Puts.{Begins, left_after, left_fits, left_none}
use Rattle.write_text.proofs.put_steps.Goals as goal

module _ (r : Record) (j : ℕ) where
  -- the lines from the step j on
  step_at : j < length (take r.count r.steps) → Begins (step_lines (drop j (steps_of r))) (step_line (played (get_or (take r.count r.steps) j no_step))) (step_lines (drop (j + 1) (steps_of r)))
  unfolding steps_of
  step_at h =
      subst (λ (s : rule.Step). Begins (step_lines (drop j (steps_of r))) (step_line s) (step_lines (drop (j + 1) (steps_of r)))) (get_or-map played (take r.count r.steps) j no_step) (steps_left (steps_of r) (played no_step) j (omega (arith, length-map (take r.count r.steps) played)))

  step_none : length (take r.count r.steps) ≤ j → step_lines (drop j (steps_of r)) ≡ []
  unfolding steps_of
  step_none h = steps_none (steps_of r) j (omega (arith, length-map (take r.count r.steps) played))

  -- no step has more than three neighbours
  step_short : Short r → j < length (take r.count r.steps) → (get_or (take r.count r.steps) j no_step).degree ≤ 3
  unfolding Short
  step_short s h = rw (get_or-take r.count r.steps j no_step (omega (arith, length-take r.count r.steps))) (s j)

pub put_step-requires : goal.put_step-requires
put_step-requires c =
    let l = c.loop-s in
    let r = c.args.«record».now in
    (step_short r l.s-index c.requires.1 (omega arith), omega (arith, left_fits l.invariant (step_at r l.s-index (omega arith)), l.invariant.still.long, step_length (played (get_or (take r.count r.steps) l.s-index no_step))))

pub loop-s-preserved : goal.loop-s-preserved
loop-s-preserved c =
    let l = c.loop-s in left_after l.invariant (step_at c.args.«record».now l.s-index (omega arith)) c.put_step.ensures

pub returns : goal.returns
returns c =
    let l = c.loop-s in left_none (rw (step_none c.args.«record».now l.s-index (omega arith)) at l.invariant)
