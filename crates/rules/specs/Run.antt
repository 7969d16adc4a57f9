-- 01, "The run" and "Budget": passes, the queue, takes, blocks, and where a run ends.
-- Assumes nothing.
use Rattle.std.specs.Prelude.{Bool, true, false, cond, not, ◌&&◌, ◌||◌, List, [], ◌∷◌, ◌++◌, ℕ, zero, suc, ◌+◌, leb, eqb, length}
use Rattle.whole.specs.Words.{mem, those}
use Rattle.rules.specs.Objective.{Objective}
use Rattle.rules.specs.Options.{asked, low_degree, degree_three, dominant_edge, small_block}
use Rattle.rules.specs.Graph.{Graph, active, actives, neighbours, degree}
use Rattle.rules.specs.Fixing.{start}
use Rattle.rules.specs.Eliminate.{Step, step_of, eliminate}
use Rattle.rules.specs.DegreeThree.{cubic, eliminate3}
use Rattle.rules.specs.DominantEdge.{Found, nothing, at, weak, dominant, contract, contract_step}
use Rattle.rules.specs.Counts.{nothing_counted, one_eliminated, one_three, one_skipped, one_contracted, members_gone, plus}
use Rattle.rules.specs.declared.Options.{Options}
use Rattle.rules.specs.declared.Tally.{Tally}
use Rattle.rules.specs.SmallBlock.{Block, none, members, find_block, eliminate_block, block_steps}

-- "dominant edge is on, or low degree is on and its degree is at most 3 (degree three on) or 2 (off)"
abbrev pub eligible : Options → Graph → ℕ → Bool
eligible opt g i = dominant_edge opt || (low_degree opt && leb (degree g i) (cond (degree_three opt) 3 2))

pub record State : Type 0 where
  pub graph : Graph
  pub queue : List ℕ
  pub steps : List Step
  pub counted : Tally
  pub takes : ℕ
  pub blocks : ℕ

abbrev pub state : Graph → List ℕ → List Step → Tally → ℕ → ℕ → State
state g q ss c t b = record { graph = g; queue = q; steps = ss; counted = c; takes = t; blocks = b }

-- "A pass queues, ascending, every active decision that is eligible"
unfoldable pub waiting : Options → Graph → List ℕ
waiting opt g = those (λ i. eligible opt g i) (actives g)

-- what a take of i does. "Inactive: skip, still one take."
pub data Way : Type 0 where
  inactive : Way
  low : Way
  into : ℕ → Way
  three : Way
  failed : Way
  idle : Way

-- "Else, dominant edge on and a dominant neighbour exists: contract."
-- "Else, low degree and degree three both on and degree 3: try degree three"; "Else nothing."
unfoldable pub or_three : Options → Graph → ℕ → Found → Way
or_three opt g i (at j) = into j
or_three opt g i nothing =
    cond (low_degree opt && degree_three opt && eqb (degree g i) 3) (cond (cubic g i) failed three) idle

-- "Low degree on and degree at most 2: eliminate."
unfoldable pub way : Options → Graph → ℕ → Way
way opt g i =
    cond (not (active g i)) inactive
    (cond (low_degree opt && leb (degree g i) 2) low
    (or_three opt g i (cond (dominant_edge opt) (dominant g i) nothing)))

-- "join the back if active, not waiting and now eligible"
unfoldable pub join : Options → Graph → List ℕ → List ℕ → List ℕ
join opt g [] q = q
join opt g (j ∷ js) q = join opt g js (cond (active g j && not (mem j q) && eligible opt g j) (q ++ j ∷ []) q)

-- "After a reduction, its neighbours as they were (ascending) join": the new graph, the step, what it counts
unfoldable pub reduced : Options → State → ℕ → Graph → Step → Tally → State
reduced opt s i g step c =
    state g (join opt g (neighbours s.graph i) s.queue) (s.steps ++ step ∷ []) (plus s.counted c) s.takes s.blocks

-- "failure adds one to the skipped count"
unfoldable pub skipped : State → State
skipped s = state s.graph s.queue s.steps (plus s.counted one_skipped) s.takes s.blocks

unfoldable pub go : Way → Options → ℕ → State → State
go inactive opt i s = s
go low opt i s = reduced opt s i (eliminate i s.graph) (step_of s.graph i) one_eliminated
go (into j) opt i s = reduced opt s i (contract i j s.graph) (contract_step i j s.graph) (one_contracted (weak s.graph i j))
go three opt i s = reduced opt s i (eliminate3 i s.graph) (step_of s.graph i) one_three
go failed opt i s = skipped s
go idle opt i s = s

-- "Take from the front": q is what waits behind it. "One unit per take"
unfoldable pub take_front : List ℕ → State → State
take_front q s = state s.graph q s.steps s.counted (s.takes + 1) s.blocks

-- "If one is found, eliminate it and begin a new pass." "and one per block eliminated"
unfoldable pub blocked : Options → List ℕ → State → State
blocked opt b s =
    let g = eliminate_block b s.graph in
    state g (waiting opt g) (s.steps ++ block_steps s.graph b 0 b) (plus s.counted (members_gone (length b))) s.takes (s.blocks + 1)

-- what is due, and the state after it; each uses one unit
pub data Next : Type 0 where
  over : Next
  due : State → Next

-- "Otherwise stop."
unfoldable pub due_block : Options → State → Block → Next
due_block opt s none = over
due_block opt s (members b) = due (blocked opt b s)

-- "When the queue is empty and small block is on, search for a block."
unfoldable pub due_at : Options → State → List ℕ → Next
due_at opt s [] = due_block opt s (cond (small_block opt) (find_block s.graph) none)
due_at opt s (i ∷ q) = due (go (way opt s.graph i) opt i (take_front q s))

abbrev pub next : Options → State → Next
next opt s = due_at opt s s.queue

pub record Ended : Type 0 where
  pub state : State
  pub complete : Bool

-- nothing is due: the run is complete at s. Else it goes on
abbrev pub onward : Next → State → (State → Ended) → Ended
onward over s f = record { state = s; complete = true }
onward (due t) s f = f t

-- "The run is cut short exactly when a take or a found block is due and no unit is left." The recursion is on the units left
unfoldable pub run : ℕ → Options → State → Ended
run zero opt s = onward (next opt s) s (λ t. record { state = s; complete = false })
run (suc b) opt s = onward (next opt s) s (λ t. run b opt t)

unfoldable pub begin : Options → Graph → State
begin opt g = state g (waiting opt g) [] nothing_counted 0 0

unfoldable pub ended : Objective → Ended
ended o = run o.budget (asked o) (begin (asked o) (start o))
