-- A run's steps in a record, and back.
-- Assumes nothing.
use Rattle.std.specs.Prelude.{◌≡◌, refl, List, [], ◌∷◌, map, ℕ, ◌-◌, ◌≤◌, length, take, replicate, ℤ}
use Rattle.std.proofs.Common.{ap, ◌∙◌, take_at}
use Rattle.std.proofs.lemmas.List.{length-map}
use Rattle.rules.specs.Eliminate as rule
use Rattle.rules.specs.Record.{hold, hold_all, played, record_of, steps_of, no_step}
use Rattle.whole.specs.Lists.{held_whole}
use Rattle.whole.specs.Words.{tab}

-- each step looks at no more than three neighbours
abbrev pub Few : List rule.Step → Type 0
Few [] = Unit
Few (s ∷ ss) = (length s.near ≤ 3) × Few ss

pub played_hold : (s : rule.Step) → length s.near ≤ 3 → played (hold s) ≡ s
unfolding tab
played_hold s h = ap (λ (l : List ℕ). rule.step s.decision l s.choices) (held_whole 0 3 s.near h)

pub played_all : (ss : List rule.Step) → Few ss → map played (map hold ss) ≡ ss
played_all [] f = refl
played_all (s ∷ ss) f = λ i. played_hold s f.0 i ∷ played_all ss f.1 i

pub all_held : (ss : List rule.Step) → Few ss → map played (take (length ss) (hold_all ss)) ≡ ss
unfolding hold_all
all_held ss f = ap (map played) (take_at (map hold ss) (replicate (64 - length ss) no_step) (length ss) (length-map ss hold)) ∙ played_all ss f

-- the record of a step list has that list for its steps, and the states of its n decisions
pub steps_of_record : (n : ℕ) (c : ℤ) (states : List ℕ) (steps : List rule.Step) → Few steps → steps_of (record_of n c states steps) ≡ steps
unfolding steps_of
steps_of_record n c states steps f = all_held steps f
