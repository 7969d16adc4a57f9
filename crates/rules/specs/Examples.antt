-- 01, "Examples to hold against the rules": the ten marked (P), A to J, by one statement over a list of them; D also through the text form.
-- Assumes nothing.
use Rattle.std.specs.Prelude.{◌≡◌, refl, Bool, true, false, List, [], ◌∷◌, ◌++◌, map, ℕ, ◌+◌, ◌*◌, ◌-◌, length, set, replicate, ℤ, pos}
use Rattle.whole.specs.Words.{neg, from, mem, those, some, one_of, chosen, bits_from}
use Rattle.rules.specs.Objective.{Objective, objective, weight_of}
use Rattle.rules.specs.Graph.{actives, neighbours, add_constant, add_linear, add_edge, clear, drop_to, add_term, add_terms, no_edges, bare, graph_of}
use Rattle.rules.specs.Fixing.{spread, fix, fix_all, start}
use Rattle.rules.specs.Eliminate.{Step, step, step_of, absorb, eliminate}
use Rattle.rules.specs.DegreeThree.{moebius, add_pairs, absorb3, eliminate3}
use Rattle.rules.specs.DominantEdge.{negatives, positives, first, dominant, turn, move, contract, contract_step}
use Rattle.rules.specs.SmallBlock.{grow, is_cut, among, over_cuts, over_removed, search, find_block, boundary, inner, cheapest, drop_all, eliminate_block, block_steps}
use Rattle.rules.specs.Counts.{plus}
use Rattle.rules.specs.Run.{waiting, join, or_three, way, reduced, skipped, go, take_front, blocked, due_block, due_at, run, begin, ended}
use Rattle.rules.specs.Outcome.{linear_out, cell, edge_out, Outcome, outcome_of, outcome}
use Rattle.rules.specs.Refuse.{first_row, bad_lengths, bad_index, bad_lent, bad_fixing, too_heavy, reduce_refusal}
use Rattle.rules.specs.Bytes.{bytes}
use Rattle.rules.specs.ReadText.{digits, number, weight, more, empty, line, head, terms, last, after_fixings, after_weights, after_head, input}
use Rattle.rules.specs.WriteText.{decimal, listed, listed_z, edge_lines, choices_of, step_line, step_lines, written, written_refusal}
use Rattle.rules.specs.Program.{reply, program}
use Rattle.rules.specs.declared.Counts.{Counts}

pub record Example : Type 0 where
  pub objective : Objective
  pub result : Outcome

-- "All free": weights and terms, switches and budget
abbrev free : List ℤ → List ℕ → List ℕ → List ℤ → ℕ → ℕ → Objective
free a is js ws sw b = objective (length a) a is js ws (replicate (length a) 2) sw b

abbrev filled : List ℤ → ℕ → List ℤ
filled ws k = ws ++ replicate (k - length ws) (pos 0)

-- the edge output with w at (i, j), both ways round
edges_at : List ℕ → List ℕ → List ℤ → List ℤ
edges_at [] js ws = no_edges
edges_at (i ∷ is) [] ws = no_edges
edges_at (i ∷ is) (j ∷ js) [] = no_edges
edges_at (i ∷ is) (j ∷ js) (w ∷ ws) = set (set (edges_at is js ws) (64 * i + j) w) (64 * j + i) w

-- the counts other than 0: eliminated, degree three, skipped, contracted, weak; remaining, blocks, in blocks
abbrev counted : ℕ → ℕ → ℕ → ℕ → ℕ → ℕ → ℕ → ℕ → Counts
counted e t s c w r b v = record {
  eliminated = e;
  degree_three_eliminated = t;
  degree_three_skipped = s;
  contracted = c;
  weak_contractions = w;
  additional_fixed = 0;
  remaining = r;
  passes = 1 + b;
  blocks_eliminated = b;
  block_variables = v;
}

-- constant, remaining, weights, edges, states, steps, counts, takes, blocks, complete
abbrev expect : ℤ → List ℕ → List ℤ → List ℤ → List ℕ → List Step → Counts → ℕ → ℕ → Bool → Outcome
expect c r a e ss steps n t b done = record {
  constant = c;
  remaining = r;
  linear = filled a 64;
  edges = e;
  states = ss ++ replicate (64 - length ss) 0;
  steps = steps;
  counts = n;
  takes = t;
  blocks = b;
  units = t + b;
  complete = done;
}

ex_a : ℕ → Objective
ex_a b = free [] [] [] [] 15 b

ex_d : ℕ → ℕ → Objective
ex_d sw b = free (neg 3 ∷ neg 4 ∷ []) (0 ∷ []) (1 ∷ []) (pos 5 ∷ []) sw b

ex_e : ℕ → Objective
ex_e b = free (neg 2 ∷ neg 10 ∷ neg 10 ∷ []) (0 ∷ 0 ∷ 1 ∷ []) (1 ∷ 2 ∷ 2 ∷ []) (pos 3 ∷ pos 3 ∷ pos 2 ∷ []) 1 b

star : ℤ → ℤ → Objective
star a w = free (a ∷ pos 0 ∷ pos 0 ∷ pos 0 ∷ []) (0 ∷ 0 ∷ 0 ∷ []) (1 ∷ 2 ∷ 3 ∷ []) (w ∷ w ∷ w ∷ []) 3 1

ex_i : Objective
ex_i = free (pos 0 ∷ pos 7 ∷ []) (0 ∷ []) (1 ∷ []) (neg 4 ∷ []) 4 100

ex_j : Objective
ex_j = free (pos 0 ∷ pos 0 ∷ neg 1 ∷ neg 1 ∷ []) (0 ∷ 1 ∷ 2 ∷ []) (1 ∷ 2 ∷ 3 ∷ []) (pos 1 ∷ pos 2 ∷ neg 1 ∷ []) 8 100

abbrev ex : Objective → Outcome → Example
ex o r = record { objective = o; result = r }

pub examples : List Example
examples =
    -- A
    ex (ex_a 100) (expect (pos 0) [] [] no_edges [] [] (counted 0 0 0 0 0 0 0 0) 0 0 true)
    ∷ ex (ex_a 0) (expect (pos 0) [] [] no_edges [] [] (counted 0 0 0 0 0 0 0 0) 0 0 true)
    -- B
    ∷ ex (free (pos 0 ∷ []) [] [] [] 1 100)
    (expect (pos 0) [] [] no_edges (3 ∷ []) (step 0 [] 0 ∷ []) (counted 1 0 0 0 0 0 0 0) 1 0 true)
    -- C
    ∷ ex (free (neg 5 ∷ []) [] [] [] 1 100)
    (expect (neg 5) [] [] no_edges (3 ∷ []) (step 0 [] 1 ∷ []) (counted 1 0 0 0 0 0 0 0) 1 0 true)
    -- D
    ∷ ex (ex_d 1 4294967295)
    (expect (neg 4) [] [] no_edges (3 ∷ 3 ∷ []) (step 0 (1 ∷ []) 1 ∷ step 1 [] 1 ∷ []) (counted 2 0 0 0 0 0 0 0) 2 0 true)
    -- E
    ∷ ex (ex_e 1)
    (expect (neg 2) (1 ∷ 2 ∷ []) (neg 8 ∷ neg 8 ∷ []) no_edges (3 ∷ 2 ∷ 2 ∷ []) (step 0 (1 ∷ 2 ∷ []) 1 ∷ [])
    (counted 1 0 0 0 0 2 0 0) 1 0 false)
    ∷ ex (ex_e 3)
    (expect (neg 18) [] [] no_edges (3 ∷ 3 ∷ 3 ∷ []) (step 0 (1 ∷ 2 ∷ []) 1 ∷ step 1 [] 1 ∷ step 2 [] 1 ∷ [])
    (counted 3 0 0 0 0 0 0 0) 3 0 true)
    -- F
    ∷ ex (star (neg 3) (pos 2))
    (expect (neg 3) (1 ∷ 2 ∷ 3 ∷ []) (pos 2 ∷ pos 2 ∷ pos 2 ∷ [])
    (edges_at (0 ∷ 0 ∷ 1 ∷ []) (1 ∷ 2 ∷ 2 ∷ []) (neg 1 ∷ neg 1 ∷ neg 1 ∷ []))
    (3 ∷ 2 ∷ 2 ∷ 2 ∷ []) (step 0 (1 ∷ 2 ∷ 3 ∷ []) 23 ∷ []) (counted 1 1 0 0 0 3 0 0) 1 0 false)
    -- G
    ∷ ex (star (neg 1) (pos 1))
    (expect (pos 0) (0 ∷ 1 ∷ 2 ∷ 3 ∷ []) (neg 1 ∷ pos 0 ∷ pos 0 ∷ pos 0 ∷ [])
    (edges_at (0 ∷ 0 ∷ 0 ∷ []) (1 ∷ 2 ∷ 3 ∷ []) (pos 1 ∷ pos 1 ∷ pos 1 ∷ []))
    (2 ∷ 2 ∷ 2 ∷ 2 ∷ []) [] (counted 0 0 1 0 0 4 0 0) 1 0 false)
    -- H
    ∷ ex (ex_d 4 100)
    (expect (neg 3) (1 ∷ []) (neg 1 ∷ []) no_edges (3 ∷ 2 ∷ []) (step 0 (1 ∷ []) 1 ∷ []) (counted 0 0 0 1 0 1 0 0) 2 0 true)
    -- I
    ∷ ex ex_i
    (expect (pos 0) (1 ∷ []) (pos 3 ∷ []) no_edges (3 ∷ 2 ∷ []) (step 0 (1 ∷ []) 2 ∷ []) (counted 0 0 0 1 1 1 0 0) 2 0 true)
    -- J
    ∷ ex ex_j
    (expect (neg 3) (0 ∷ 1 ∷ []) (pos 0 ∷ pos 2 ∷ []) (edges_at (0 ∷ []) (1 ∷ []) (pos 1 ∷ []))
    (2 ∷ 2 ∷ 3 ∷ 3 ∷ []) (step 2 (1 ∷ []) 1 ∷ step 3 (1 ∷ []) 3 ∷ []) (counted 0 0 0 0 0 2 1 2) 0 1 true)
    ∷ []

-- every example's run is its result
pub examples_hold : map (λ e. outcome e.objective) examples ≡ map (λ e. e.result) examples
unfolding edges_at ex_a ex_d ex_e star ex_i ex_j examples from mem those some chosen bits_from actives neighbours add_constant add_linear add_edge clear drop_to add_term add_terms no_edges bare graph_of spread fix fix_all start step_of absorb eliminate moebius add_pairs absorb3 eliminate3 negatives positives first dominant turn move contract contract_step grow is_cut among over_cuts over_removed search find_block boundary inner cheapest drop_all eliminate_block block_steps plus waiting join or_three way reduced skipped go take_front blocked due_block due_at run begin ended linear_out cell edge_out outcome_of outcome
examples_hold = refl

-- D, from text to text, to the byte
pub d_by_text : program (bytes "2 1 100 1\n-3 -4\n2 2\n0 1 5\n")
    ≡ bytes "constant -4\nremaining\nlinear\nstep 0 : 1 : 1 0\nstep 1 : : 1\nunits 2 complete yes\n"
unfolding program reply digits number weight more empty line head terms last after_fixings after_weights after_head input decimal listed listed_z edge_lines choices_of step_line step_lines written written_refusal first_row bad_lengths bad_index bad_lent bad_fixing too_heavy reduce_refusal weight_of one_of from mem those some chosen bits_from actives neighbours add_constant add_linear add_edge clear drop_to add_term add_terms no_edges bare graph_of spread fix fix_all start step_of absorb eliminate plus waiting join or_three way reduced go take_front due_block due_at run begin ended linear_out cell edge_out outcome_of outcome
d_by_text = refl
