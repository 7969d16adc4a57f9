-- What is due where nobody waits, told by the block that is found; and the state after it has been eliminated.
-- Assumes nothing.
use Rattle.std.specs.Prelude.{◌≡◌, refl, Bool, true, false, cond, List, [], ◌∷◌, ◌++◌, map, ℕ, ◌+◌, length}
use Rattle.std.proofs.Common.{sym, ap, ◌∙◌, arith}
use Rattle.std.proofs.lemmas.List.{map-append}
use Rattle.rules.specs.Counts.{members_gone, plus}
use Rattle.rules.specs.Record.{hold}
use Rattle.rules.specs.Options.{small_block}
use Rattle.rules.specs.declared.Options.{Options}
use Rattle.rules.specs.Graph.{Graph}
use Rattle.rules.specs.SmallBlock.{Block, none, members, find_block, eliminate_block, block_steps}
use Rattle.rules.specs.Run as run
use Rattle.rules.specs.Run.{over, due, next, due_at, due_block}
use Rattle.state.specs.Holds.{Holds}
use Rattle.run.specs.declared.Reached.{Reached}
use Rattle.run.specs.Blocks.{due_in}

-- someone waits: a take is due
pub due_take : (opt : Options) (S : run.State) (i : ℕ) (q : List ℕ) → S.queue ≡ i ∷ q → next opt S ≡ due (run.go (run.way opt S.graph i) opt i (run.take_front q S))
unfolding due_at
due_take opt S i q h = ap (due_at opt S) h

-- nobody waits: what the search finds is due
at_block : (opt : Options) (S : run.State) → S.queue ≡ [] → (b : Block) → b ≡ due_in opt S.graph → next opt S ≡ due_block opt S b
unfolding due_at
at_block opt S z b is = ap (due_at opt S) z ∙ ap (due_block opt S) (sym is)

pub none_due : (opt : Options) (S : run.State) → S.queue ≡ [] → none ≡ due_in opt S.graph → next opt S ≡ over
unfolding due_block
none_due opt S z = at_block opt S z none

pub block_due : (opt : Options) (S : run.State) → S.queue ≡ [] → (b : List ℕ) → members b ≡ due_in opt S.graph → next opt S ≡ due (run.blocked opt b S)
unfolding due_block
block_due opt S z b = at_block opt S z (members b)

-- a block is found only where small block is on
pub found_on : (opt : Options) (g : Graph) (b : List ℕ) → members b ≡ due_in opt g → find_block g ≡ members b
found_on opt g b e = by (small_block opt) e
  where
    by : (t : Bool) → members b ≡ cond t (find_block g) none → find_block g ≡ members b
    by true e = sym e
    by false e = let y : ◌≡◌ {A = ℕ} 0 1 = cc in absurd (omega arith)

-- it is gone
pub removed_holds : (opt : Options) (S : run.State) (g g' : Graph) (at at' : Reached) (b : List ℕ) → Holds S g at.state at.steps → g' ≡ eliminate_block b g
    → at' ≡ record { state = record { tally = plus at.state.tally (members_gone (length b)); takes = at.state.takes; blocks = at.state.blocks + 1 }; steps = at.steps ++ map hold (block_steps g b 0 b) }
    → Holds (run.blocked opt b S) g' at'.state at'.steps
unfolding run.blocked
removed_holds opt S g g' at at' b h e r = rw (e, r) (record {
  graph = ap (eliminate_block b) h.graph;
  steps = rw (h.steps, h.graph) (sym (map-append hold S.steps (block_steps S.graph b 0 b)));
  counted = rw h.counted refl;
  takes = h.takes;
  blocks = rw h.blocks refl;
})
