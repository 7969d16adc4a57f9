-- What is outcome_in of a run's outcome is that outcome again.
-- Assumes nothing.
use Rattle.std.specs.Prelude.{◌≡◌, refl, List, [], ◌∷◌, ◌++◌, map, ℕ, zero, suc, ◌+◌, ◌-◌, ◌≤◌, eqb, length, take, get_or, replicate, ℤ}
use Rattle.std.proofs.Common.{arith, length-append, length-take, length-take-le, get_or-take}
use Rattle.std.proofs.lemmas.List.{length-map, length-replicate}
use Rattle.whole.specs.Words.{upto, those}
use Rattle.whole.specs.Members.{upto_in}
use Rattle.whole.specs.Lists.{length_tab, tab_map}
use Rattle.whole.specs.Masks.{those_ext}
use Rattle.rules.specs.Eliminate as rule
use Rattle.rules.specs.Graph.{Graph, active, actives}
use Rattle.rules.specs.Run.{Ended}
use Rattle.rules.specs.Outcome.{Outcome, outcome_of, linear_out, cell, edge_out}
use Rattle.rules.specs.Back.{remaining_of}
use Rattle.rules.specs.Record.{no_step, hold, hold_all, played, states_of, steps_of}
use Rattle.rules.specs.Call.{reported}
use Rattle.rules.specs.WriteText.{edge_lines, step_lines, written}
use Rattle.rules.specs.declared.Step.{Step}
use Rattle.rules.specs.declared.Reduction.{Reduction}
use Rattle.whole.specs.Those.{those_most}
use Rattle.record_laws.specs.Steps.{Few, all_held}
use Rattle.write_text.specs.Bounds.{Moderate, written_most}
use Rattle.write_text.specs.Outcomes.{room, outcome_in, Short, Fair, opening, closing}
use Rattle.write_text.specs.WriteLaws.{written_parts}

-- the remaining decisions, by the states of all 64
pub remaining_upto : (states : List ℕ) (n : ℕ) → n ≤ length states → remaining_of (take n states) ≡ those (λ i. eqb (get_or states i 0) 2) (upto n)
unfolding remaining_of
remaining_upto states n h =
    rw (length-take-le n states h) (those_ext _ _ (upto n) (λ k m. rw (get_or-take n states k 0 (upto_in k n m))))

remaining_most : (states : List ℕ) (n : ℕ) → length (remaining_of (take n states)) ≤ n
unfolding remaining_of
remaining_most states n =
    omega (arith, those_most (λ i. eqb (get_or (take n states) i 0) 2) (length (take n states)), length-take n states)

pub remaining_few : (states : List ℕ) → length (remaining_of states) ≤ length states
unfolding remaining_of
remaining_few states = those_most (λ i. eqb (get_or states i 0) 2) (length states)

-- the first d of three are at most three
near_most : (d a b c : ℕ) → length (take d (a ∷ b ∷ c ∷ [])) ≤ 3
near_most d a b c = omega (arith, length-take d (a ∷ b ∷ c ∷ []))

all_near : (ss : List Step) → Few (map played ss)
all_near [] = tt
all_near (s ∷ ss) = (near_most s.degree s.first s.second s.third, all_near ss)

pub fair_moderate : (r : Reduction) (l e : List ℤ) → Fair r l e → Moderate (outcome_in r l e)
unfolding outcome_in states_of steps_of
fair_moderate r l e f = record {
  remaining = omega (arith, remaining_most r.«record».states r.«record».n, f.decisions);
  cells = f.cells;
  count = omega (arith, length-map (take r.«record».count r.«record».steps) played, length-take r.«record».count r.«record».steps, f.count);
  short = all_near (take r.«record».count r.«record».steps);
}

-- the decisions that remain of what is outcome_in
abbrev pub remaining_in : Reduction → List ℕ
remaining_in r = remaining_of (states_of r.«record»)

-- the four parts of what is outcome_in fit the buffer
abbrev pub Enough : Reduction → List ℤ → List ℤ → Type 0
Enough r l e = length (opening r.«record».constant (remaining_in r) (take (length (remaining_in r)) l)) + length (edge_lines 0 e) + length (step_lines (steps_of r.«record»)) + length (closing r.units r.complete) ≤ room

pub fair_room : (r : Reduction) (l e : List ℤ) → Fair r l e → Enough r l e
unfolding outcome_in
fair_room r l e f = omega (arith, simp length-append at (rw (written_parts (outcome_in r l e)) at (written_most (outcome_in r l e) (fair_moderate r l e f))))

pub parts_in : (r : Reduction) (l e : List ℤ) → written (outcome_in r l e) ≡ opening r.«record».constant (remaining_in r) (take (length (remaining_in r)) l) ++ edge_lines 0 e ++ step_lines (steps_of r.«record») ++ closing r.units r.complete
unfolding outcome_in
parts_in r l e = written_parts (outcome_in r l e)

-- the shape of an outcome of a run of n decisions
pub record Reported (n : ℕ) (o : Outcome) : Type 0 where
  pub decisions : n ≤ 64
  pub states : length o.states ≡ 64
  pub remaining : o.remaining ≡ those (λ i. eqb (get_or o.states i 0) 2) (upto n)
  pub count : length o.steps ≤ 64
  pub short : Few o.steps
  pub weights : length o.linear ≡ 64
  pub cells : length o.edges ≡ 4096

-- a call that reports o leaves what o is written from
pub outcome_back : (n : ℕ) (o : Outcome) → Reported n o → outcome_in (reported n o) o.linear o.edges ≡ o
unfolding outcome_in states_of steps_of
outcome_back n o h =
    rw (remaining_upto o.states n (omega (arith, h.decisions, h.states)), ← h.remaining, all_held o.steps h.short)

hold_short : (ss : List rule.Step) (m k : ℕ) → Few ss → (get_or (map hold ss ++ replicate m no_step) k no_step).degree ≤ 3
hold_short [] zero k h = omega arith
hold_short [] (suc m) zero h = omega arith
hold_short [] (suc m) (suc k) h = hold_short [] m k h
hold_short (s ∷ ss) m zero h = h.0
hold_short (s ∷ ss) m (suc k) h = hold_short ss m k h.1

pub reported_fair : (n : ℕ) (o : Outcome) → Reported n o → Fair (reported n o) o.linear o.edges
unfolding Short hold_all
reported_fair n o h = record {
  decisions = h.decisions;
  count = h.count;
  short = λ k. hold_short o.steps (64 - length o.steps) k h.short;
  weights = h.weights;
  cells = h.cells;
}

-- the outputs' lengths
linear_length : (g : Graph) → g.n ≤ 64 → length (linear_out g) ≡ 64
unfolding linear_out actives
linear_length g h =
    rw (length-append, length-map, length-replicate) (omega (arith, those_most (λ i. active g i) g.n))

edge_length : (g : Graph) → length (edge_out g) ≡ 4096
unfolding edge_out
edge_length g = rw (tab_map (cell g (actives g)) 4096) (length_tab (cell g (actives g)) 4096)

-- what a run's end must show for its outcome to be so
pub outcome_reported : (e : Ended) → e.state.graph.n ≤ 64 → length e.state.graph.states ≡ 64 → length e.state.steps ≤ 64 → Few e.state.steps → Reported e.state.graph.n (outcome_of e)
unfolding outcome_of actives
outcome_reported e few states count short = record {
  decisions = few;
  states = states;
  remaining = refl;
  count = count;
  short = short;
  weights = linear_length e.state.graph few;
  cells = edge_length e.state.graph;
}
