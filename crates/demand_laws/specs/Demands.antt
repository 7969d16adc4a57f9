-- What the rules mean, of an objective that is not refused: demand 3 in the caller's words, then the size rule, the units and the costs that
-- stand behind it. Read this file alone. That it holds is proved as `first_half`, `second_half`, `answers_kept` (Theorems), `same_least`,
-- `least_grown` (LeastLaws), in crate run_record_laws `by_calls` and `by_block`; and, of what stands behind it, in Behind.
-- Assumes nothing.
use Rattle.std.specs.Prelude.{◌≡◌, Bool, true, false, List, [], ◌∷◌, ◌≢◌, ℕ, ◌+◌, ◌*◌, ◌<◌, ◌≤◌, eqb, length, get_or, take, ℤ, pos, ◌+ℤ◌, ◌-ℤ◌, ◌≤ℤ◌}
use Rattle.whole.specs.Parts.{∣◌∣}
use Rattle.whole.specs.Words.{mem}
use Rattle.whole.specs.Different.{Apart}
use Rattle.rules.specs.Options.{asked}
use Rattle.rules.specs.Objective.{Objective}
use Rattle.rules.specs.Graph.{Graph, lin, edge, active, neighbours, degree, add_constant, add_linear, add_edge, drop_to, graph_of}
use Rattle.rules.specs.Fixing.{fix, start}
use Rattle.rules.specs.Eliminate.{delta, tee, eliminate}
use Rattle.rules.specs.DegreeThree.{pass, moebius, cubic, eliminate3}
use Rattle.rules.specs.DominantEdge.{lo, hi, upper, lower, dominates, contract}
use Rattle.rules.specs.SmallBlock.{members, find_block, boundary, inner, best_mask, block_table, eliminate_block, grow, component}
use Rattle.rules.specs.Run.{State, next, run, begin, ended}
use Rattle.rules.specs.Size.{Within}
use Rattle.rules.specs.Outcome.{outcome, units}
use Rattle.rules.specs.Back.{grow_back, project}
use Rattle.rules.specs.Record.{record_in}
use Rattle.rules.specs.Refuse.{read_refusal, write_refusal, grow_refusal, project_refusal, grow_block_refusal, project_block_refusal}
use Rattle.rules.specs.Call.{reduction, linear_after, edges_after, block_after, plan_after, answer_after, block_plan_after, block_answer_after}
use Rattle.rules.specs.declared.Reduction.{Reduction}
use Rattle.cost_laws.specs.Cost.{when, cost_of, delta_of}
use Rattle.cost_laws.specs.CostLaws.{cost}
use Rattle.cost_laws.specs.EliminateLaws.{mask_at}
use Rattle.cost_laws.specs.ReduceLaws.{choice_at}
use Rattle.cost_laws.specs.DominantLaws.{contract_choice}
use Rattle.cost_laws.specs.BlockCost.{put}
use Rattle.objective_laws.specs.ObjectiveCost.{cost_of_objective, with_fixings}
use Rattle.objective_laws.specs.FixLaws.{set_at}
use Rattle.sound_laws.specs.Sound.{Sound}
use Rattle.run_laws.specs.DueLaws.{nothing_due}

-- ---- what the caller holds
-- the values of k decisions, "each 0 or 1"
pub record Values (k : ℕ) (xs : List ℕ) : Type 0 where
  pub long : length xs ≡ k
  pub bits : (i : ℕ) → get_or xs i 0 ≤ 1

abbrev pub is_one : List ℕ → ℕ → Bool
is_one xs i = eqb (get_or xs i 0) 1

-- "a full plan n" long, that has the value of every decision that is fixed: "One fixing byte a decision: 0, 1, or 2 for free."
pub record FullPlan (o : Objective) (plan : List ℕ) : Type 0 where
  pub values : Values o.n plan
  pub keeps : (i : ℕ) → i < o.n → get_or o.fixings i 0 < 2 → get_or plan i 0 ≡ get_or o.fixings i 0

-- "Cost is the sum of a·x and w·x·x", of the objective as the caller gave it
abbrev pub cost_of_plan : Objective → List ℕ → ℤ
cost_of_plan o plan = cost_of_objective o (is_one plan)

-- "A reduced answer is r long": a value for each remaining decision, ascending
abbrev pub Answer : Objective → List ℕ → Type 0
Answer o answer = Values (length (outcome o).remaining) answer

-- the cost of an answer in a reduced problem: the constant, the linear output at each place that is 1, and the edge output at 64·i + j for each pair of places j below i that are both 1
unfoldable pub reduced_cost : ℤ → List ℤ → List ℤ → List ℕ → ℤ
reduced_cost constant linear edges answer = cost_of (length answer) constant (λ i. get_or linear i (pos 0)) (λ i j. get_or edges (64 * i + j) (pos 0)) (is_one answer)

abbrev pub cost_of_answer : Objective → List ℕ → ℤ
cost_of_answer o answer = reduced_cost (outcome o).constant (outcome o).linear (outcome o).edges answer

-- "Growing back" an answer
abbrev pub grown_back : Objective → List ℕ → List ℕ
grown_back o answer = grow_back (take o.n (outcome o).states) (outcome o).steps answer

-- the remaining entries of a full plan: the front of what projecting writes
abbrev pub projection : Objective → List ℕ → List ℕ
projection o plan = take (length (outcome o).remaining) (project (take o.n (outcome o).states) plan)

-- ---- the demand
-- first half: an answer, grown back, is a full plan, and costs what the reduced problem says
abbrev pub FirstHalf : Objective → Type 0
FirstHalf o = (answer : List ℕ) → Answer o answer → FullPlan o (grown_back o answer) × (cost_of_plan o (grown_back o answer) ≡ cost_of_answer o answer)

-- second half: no full plan is lost: its projection, grown back, costs no more
abbrev pub SecondHalf : Objective → Type 0
SecondHalf o = (plan : List ℕ) → FullPlan o plan → Answer o (projection o plan) × (cost_of_plan o (grown_back o (projection o plan)) ≤ℤ cost_of_plan o plan)

-- the plan has the answer at the remaining decisions: projecting it gives the answer back
abbrev pub AnswerKept : Objective → Type 0
AnswerKept o = (answer : List ℕ) → Answer o answer → projection o (grown_back o answer) ≡ answer

-- ---- and the least cost
-- m is the cost of one of the lists that fit, and no other costs less
pub record Least (Fits : List ℕ → Type 0) (costs : List ℕ → ℤ) (m : ℤ) : Type 0 where
  pub at : List ℕ
  pub fits : Fits at
  pub is : costs at ≡ m
  pub least : (xs : List ℕ) → Fits xs → m ≤ℤ costs xs

-- the least cost over the remaining decisions, constant included, is the original's least over the plans that keep the fixings
pub record SameLeast (o : Objective) : Type 0 where
  pub cost : ℤ
  pub reduced : Least (Answer o) (cost_of_answer o) cost
  pub original : Least (FullPlan o) (cost_of_plan o) cost

-- and a least answer, grown back, is a least plan
abbrev pub LeastGrown : Objective → Type 0
LeastGrown o =
    (answer : List ℕ) → Answer o answer → ((other : List ℕ) → Answer o other → cost_of_answer o answer ≤ℤ cost_of_answer o other)
    → (plan : List ℕ) → FullPlan o plan → cost_of_plan o (grown_back o answer) ≤ℤ cost_of_plan o plan

-- ---- the same through the calls
-- growing an answer back gave a number and a plan: no refusal, a full plan, and its cost is what the reduction r with its outputs says
pub record CostsExactly (o : Objective) (r : Reduction) (linear edges : List ℤ) (answer : List ℕ) (number : ℕ) (plan : List ℕ) : Type 0 where
  pub fine : number ≡ 0
  pub full : FullPlan o plan
  pub exact : cost_of_plan o plan ≡ reduced_cost r.«record».constant linear edges answer

-- projecting a full plan gave a number and a list whose front is an answer; growing that back gave `second` and `again`, which is never costlier
pub record NeverCostlier (o : Objective) (r : Reduction) (linear edges : List ℤ) (plan : List ℕ) (first : ℕ) (front : List ℕ) (second : ℕ) (again : List ℕ) : Type 0 where
  pub fine : first ≡ 0
  pub answer : Values r.counts.remaining (take r.counts.remaining front)
  pub grown : CostsExactly o r linear edges (take r.counts.remaining front) second again
  pub never : cost_of_plan o again ≤ℤ cost_of_plan o plan

-- `grow_back` with an output n long
abbrev pub Grows : Objective → Reduction → List ℤ → List ℤ → Type 0
Grows o r linear edges =
    (answer out : List ℕ) → Values r.counts.remaining answer → length out ≡ o.n
    → CostsExactly o r linear edges answer (grow_refusal r.«record» answer (length out)) (plan_after r.«record» answer out)

-- `project`, and its front grown back
abbrev pub Projects : Objective → Reduction → List ℤ → List ℤ → Type 0
Projects o r linear edges =
    (plan out out' : List ℕ) → FullPlan o plan → length out ≡ o.n → length out' ≡ o.n
    → let front = answer_after r.«record» plan out in
    let answer = take r.counts.remaining front in
    NeverCostlier o r linear edges plan (project_refusal r.«record» plan (length out)) front (grow_refusal r.«record» answer (length out')) (plan_after r.«record» answer out')

-- where `reduce` is lent outputs that hold l and e
pub record ByCalls (o : Objective) (l e : List ℤ) : Type 0 where
  pub grown : Grows o (reduction o) (linear_after o l e) (edges_after o l e)
  pub projected : Projects o (reduction o) (linear_after o l e) (edges_after o l e)

-- and from the record's block, where `write_record` is lent an output that holds b
pub record ByBlock (o : Objective) (b : List ℕ) : Type 0 where
  -- a reduction's record is never refused
  pub written : write_refusal (reduction o).«record» (length b) ≡ 0
  -- what is read is what was written
  pub read : (read_refusal (block_after (reduction o).«record» b) ≡ 0) × (record_in (block_after (reduction o).«record» b) ≡ (reduction o).«record»)
  -- each call has the record's own number, and leaves what it leaves
  pub grown_number : (answer : List ℕ) (out : ℕ) → grow_block_refusal (block_after (reduction o).«record» b) answer out ≡ grow_refusal (reduction o).«record» answer out
  pub grown : (answer out : List ℕ) → block_plan_after (block_after (reduction o).«record» b) answer out ≡ plan_after (reduction o).«record» answer out
  pub projected_number : (plan : List ℕ) (out : ℕ) → project_block_refusal (block_after (reduction o).«record» b) plan out ≡ project_refusal (reduction o).«record» plan out
  pub projected : (plan out : List ℕ) → block_answer_after (block_after (reduction o).«record» b) plan out ≡ answer_after (reduction o).«record» plan out

-- ---- the size rule, and the units
-- the run at a budget of b
abbrev pub run_of : Objective → ℕ → State
run_of o b = (run b (asked o) (begin (asked o) (start o))).state

-- "the reduced constant and each linear weight stay within ±2^40 and each edge within ±2^41 at the end of every reduction"
abbrev pub SizeRule : Objective → Type 0
SizeRule o = (b : ℕ) → Within (run_of o b).graph

-- and each sum that a reduction makes on the way, in a graph of at most 64 decisions within it. 2^40 is 1,099,511,627,776
pub record SumBounds (g : Graph) : Type 0 where
  -- 7·2^40 for a delta and for "T the smaller of delta and 0"
  pub deltas : (i m : ℕ) → degree g i ≤ 3 → ∣ delta g i m ∣ ≤ 7696581394432
  pub tees : (i m : ℕ) → degree g i ≤ 3 → ∣ tee g i m ∣ ≤ 7696581394432
  -- 14·2^40 for "T(1 shifted by k) − T(0)", 28·2^40 for "T(3) − T(1) − T(2) + T(0)"; on the way to it 14·2^40 and 21·2^40
  pub gains : (i m k : ℕ) → degree g i ≤ 3 → ∣ tee g i m -ℤ tee g i k ∣ ≤ 15393162788864
  pub pair_parts : (i : ℕ) → degree g i ≤ 3 → ∣ tee g i 3 -ℤ tee g i 1 -ℤ tee g i 2 ∣ ≤ 23089744183296
  pub pairs : (i : ℕ) → degree g i ≤ 3 → ∣ tee g i 3 -ℤ tee g i 1 -ℤ tee g i 2 +ℤ tee g i 0 ∣ ≤ 30786325577728
  -- and 14, 28 and 56·2^40 for the three passes of the Möbius transform
  pub first_passes : (i m : ℕ) → degree g i ≤ 3 → ∣ pass 0 (tee g i) m ∣ ≤ 15393162788864
  pub second_passes : (i m : ℕ) → degree g i ≤ 3 → ∣ pass 1 (pass 0 (tee g i)) m ∣ ≤ 30786325577728
  pub entries : (i m : ℕ) → degree g i ≤ 3 → ∣ moebius (tee g i) m ∣ ≤ 61572651155456
  -- 257·2^40 for lo and hi
  pub lows : (i : ℕ) → ∣ lo g i ∣ ≤ 282574488338432
  pub highs : (i : ℕ) → ∣ hi g i ∣ ≤ 282574488338432
  -- 259·2^40 for what is tested: hi − w and lo + w where the edge w is positive, hi + w and lo − w where it is not
  pub uppers : (i j : ℕ) → ∣ upper g i j ∣ ≤ 284773511593984
  pub lowers : (i j : ℕ) → ∣ lower g i j ∣ ≤ 284773511593984
  -- 3·2^40 for what a contraction adds to j
  pub taken : (i j : ℕ) → ∣ lin g i +ℤ edge g i j ∣ ≤ 3298534883328
  -- 168·2^40 for the cost of at most 8 members at a filling of at most 2 outside neighbours
  pub inside : (out is : List ℕ) (f m : ℕ) → length out ≤ 2 → length is ≤ 8 → ∣ inner g out f is m ∣ ≤ 184717953466368
  -- and, of such a block, 336·2^40 for what a neighbour gains, 672·2^40 for what their edge gains; on the way to it 336·2^40 and 504·2^40
  pub block_gains : (b : List ℕ) (m k : ℕ) → length (boundary g b) ≤ 2 → length b ≤ 8 → ∣ block_table g b m -ℤ block_table g b k ∣ ≤ 369435906932736
  pub block_pair_parts : (b : List ℕ) → length (boundary g b) ≤ 2 → length b ≤ 8 → ∣ block_table g b 3 -ℤ block_table g b 1 -ℤ block_table g b 2 ∣ ≤ 554153860399104
  pub block_pairs : (b : List ℕ) → length (boundary g b) ≤ 2 → length b ≤ 8 → ∣ block_table g b 3 -ℤ block_table g b 1 -ℤ block_table g b 2 +ℤ block_table g b 0 ∣ ≤ 738871813865472

-- "One unit per take and one per block eliminated." The run ends, and is exact about them
pub record Units (o : Objective) : Type 0 where
  pub most : units (ended o).state ≤ o.budget
  -- "The run is cut short exactly when a take or a found block is due and no unit is left."
  pub cut : (ended o).complete ≡ false → units (ended o).state ≡ o.budget
  pub over : (ended o).complete ≡ nothing_due (next (asked o) (ended o).state)
  -- whatever the budget, 4,224 units are enough
  pub few : units (ended o).state ≤ 4224
  pub enough : 4224 ≤ o.budget → (ended o).complete ≡ true
  -- at most 64 wait, and none twice
  pub waiting : (b : ℕ) → (length (run_of o b).queue ≤ 64) × Apart 64 (run_of o b).queue
  -- everyone who waits is active: "Inactive: skip" never happens
  pub active_waits : (b i : ℕ) → mem i (run_of o b).queue ≡ true → active (run_of o b).graph i ≡ true
  -- the 64 turns of growing a component are enough: more of them change nothing
  pub turns : (b : ℕ) (aside : List ℕ) (s more : ℕ) → s < 64 → mem s aside ≡ false
      → grow (neighbours (run_of o b).graph) (64 + more) aside [] (s ∷ []) ≡ component (neighbours (run_of o b).graph) aside s

-- ---- the costs
-- "repeats added up. ... A term with i = j adds to a of i": the graph that is built costs what the objective does. "Fix first": the one that the run starts from costs that with the fixings put in
pub record Built (o : Objective) : Type 0 where
  pub whole : (x : ℕ → Bool) → cost (graph_of o) x ≡ cost_of_objective o x
  pub fixed : (x : ℕ → Bool) → cost (start o) x ≡ cost_of_objective o (with_fixings o.fixings x)

-- one law for each atomic update, in a graph of at most 64 decisions whose edges are the same both ways round, none with itself
pub record Updates (g : Graph) : Type 0 where
  pub constant : (x : ℕ → Bool) (v : ℤ) → cost (add_constant v g) x ≡ cost g x +ℤ v
  pub linear : (x : ℕ → Bool) (k : ℕ) (v : ℤ) → k < g.n → cost (add_linear k v g) x ≡ cost g x +ℤ when (x k) v
  pub edges : (x : ℕ → Bool) (k l : ℕ) (v : ℤ) → k < g.n → l < g.n → k ≢ l → cost (add_edge k l v g) x ≡ cost g x +ℤ when (x k) (when (x l) v)
  -- what i's 1 would cost goes with it
  pub dropped : (x : ℕ → Bool) (s i : ℕ) → i < g.n → cost g x ≡ cost (drop_to s i g) x +ℤ when (x i) (delta_of g.n (lin g) (edge g) x i)

-- a reduction from g to g' after which a plan x grows to (grown x): (E) the reduced cost is its cost, (O) and no plan is made worse
pub record Reduction-of (g g' : Graph) (grown : (ℕ → Bool) → ℕ → Bool) : Type 0 where
  pub exact : (x : ℕ → Bool) → cost g' x ≡ cost g (grown x)
  pub never : (x : ℕ → Bool) → cost g' x ≤ℤ cost g x

-- one law for each reduction, from these, in such a graph
pub record Reductions (g : Graph) : Type 0 where
  pub fixes : (i v : ℕ) → i < g.n → v < 2 → (x : ℕ → Bool) → cost (fix i v g) x ≡ cost g (set_at i (eqb v 1) x)
  pub eliminates : (i : ℕ) → i < g.n → degree g i ≤ 2 → Reduction-of g (eliminate i g) (λ x. set_at i (choice_at g i x) x)
  pub eliminates_three : (i : ℕ) → i < g.n → degree g i ≡ 3 → cubic g i ≡ false → Reduction-of g (eliminate3 i g) (λ x. set_at i (choice_at g i x) x)
  pub contracts : (i j : ℕ) → i < g.n → mem j (neighbours g i) ≡ true → dominates g i j ≡ true → Reduction-of g (contract i j g) (λ x. set_at i (contract_choice g i j x) x)
  pub blocks : (b : List ℕ) → find_block g ≡ members b → Reduction-of g (eliminate_block b g) (λ x. put b (best_mask g b (mask_at x (boundary g b))) x)

-- and of the run, at every budget: its steps played backwards, and each step's neighbours are still there after it
abbrev pub RunSound : Objective → Type 0
RunSound o = (b : ℕ) → Sound (start o) (run_of o b).steps (run_of o b).graph
