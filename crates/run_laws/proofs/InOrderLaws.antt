-- A run begins in order, and everything due keeps it: so every state of it is in order, and its arrays have room.
-- Assumes nothing.
use Rattle.std.specs.Prelude.{◌≡◌, refl, List, [], ◌∷◌, ◌++◌, ℕ, ◌+◌, ◌<◌, ◌≤◌, length}
use Rattle.std.proofs.Math.Path.{subst}
use native.Mathlib.Omega.{arith}
use Rattle.std.proofs.Common.{length-append}
use Rattle.whole.specs.Pigeon.{Apart, pigeon}
use Rattle.whole.specs.Members.{apart_tail, apart_wider}
use Rattle.whole.specs.Tests.{at_most_one}
use Rattle.rules.specs.Options.{asked}
use Rattle.rules.specs.declared.Options.{Options}
use Rattle.rules.specs.Objective.{Objective}
use Rattle.rules.specs.Graph.{Graph, neighbours}
use Rattle.rules.specs.Fixing.{start}
use Rattle.rules.specs.Size.{Within}
use Rattle.rules.specs.Eliminate.{Step, step_of, eliminate}
use Rattle.rules.specs.DegreeThree.{eliminate3}
use Rattle.rules.specs.DominantEdge.{weak, contract, contract_step}
use Rattle.rules.specs.SmallBlock.{eliminate_block, block_steps}
use Rattle.rules.specs.Run.{State, waiting, Way, inactive, low, into, three, failed, idle, way, join, reduced, skipped, go, take_front, blocked, due, next, run, begin, ended}
use Rattle.rules.specs.Counts.{plus, one_eliminated, one_three, one_contracted}
use Rattle.rules.specs.declared.Tally.{Tally}
use Rattle.cost_laws.specs.Growth.{in_nbrs}
use Rattle.cost_laws.specs.Stands.{Fine}
use Rattle.cost_laws.specs.Found.{found_block}
use Rattle.accepted_laws.specs.Accept.{Fit}
use Rattle.sound_laws.specs.Sound.{Sound}
use Rattle.sound_laws.specs.SoundRun.{begin_sound}
use Rattle.sound_laws.proofs.SoundRun.{run_sound}
use Rattle.sound_laws.specs.SoundStart.{start_stands}
use Rattle.size_laws.proofs.RunWithin.{reduced_within}
use Rattle.run_laws.specs.DueLaws.{Due, take, block, next_due, run_one}
use Rattle.run_laws.specs.QueueLaws.{waiting_apart, join_apart}
use Rattle.run_laws.specs.StepLaws.{steps_few, block_steps_length}
use Rattle.run_laws.specs.InOrder.{Counted, InOrder, Room}
use Rattle.cost_laws.specs.RunLaws.{run_keeps}

-- ---- the counts
one_more : (steps : List Step) (s : Step) → length (steps ++ s ∷ []) ≡ length steps + 1
one_more steps s = length-append steps (s ∷ [])

-- what a reduction of one decision counts
record One (c : Tally) : Type 0 where
  step : c.eliminated + c.contracted ≡ 1
  others : c.skipped + c.in_blocks ≡ 0
  three : c.three ≤ c.eliminated
  weakly : c.weakly ≤ c.contracted

module _ (opt : Options) (i : ℕ) (q : List ℕ) (s : State) (k : Counted s) where
  reduced_counted : (g : Graph) (step : Step) (c : Tally) → One c → Counted (reduced opt (take_front q s) i g step c)
  unfolding reduced take_front plus
  reduced_counted g step c o = record {
    steps = omega (arith, k.steps, o.step, o.others, one_more s.steps step);
    three = omega (arith, k.three, o.three);
    weakly = omega (arith, k.weakly, o.weakly);
    takes = omega (arith, k.takes, o.step, o.others);
    blocks = omega (arith, k.blocks);
  }

  passed_counted : Counted (take_front q s)
  unfolding take_front
  passed_counted = record { steps = k.steps; three = k.three; weakly = k.weakly; takes = omega (arith, k.takes); blocks = k.blocks }

  take_counted : (w : Way) → Counted (go w opt i (take_front q s))
  unfolding go skipped take_front plus
  take_counted inactive = passed_counted
  take_counted low = reduced_counted (eliminate i s.graph) (step_of s.graph i) one_eliminated (record { step = refl; others = refl; three = omega arith; weakly = omega arith })
  take_counted (into j) =
      reduced_counted (contract i j s.graph) (contract_step i j s.graph) (one_contracted (weak s.graph i j))
      (record { step = refl; others = refl; three = omega arith; weakly = at_most_one (weak s.graph i j) })
  take_counted three = reduced_counted (eliminate3 i s.graph) (step_of s.graph i) one_three (record { step = refl; others = refl; three = omega arith; weakly = omega arith })
  take_counted failed = record {
    steps = omega (arith, k.steps);
    three = omega (arith, k.three);
    weakly = omega (arith, k.weakly);
    takes = omega (arith, k.takes);
    blocks = omega (arith, k.blocks);
  }
  take_counted idle = passed_counted

block_counted : (opt : Options) (b : List ℕ) (s : State) → 2 ≤ length b → Counted s → Counted (blocked opt b s)
unfolding blocked plus
block_counted opt b s two c = record {
  steps = omega (arith, c.steps, length-append s.steps (block_steps s.graph b 0 b), block_steps_length s.graph b 0 b);
  three = omega (arith, c.three);
  weakly = omega (arith, c.weakly);
  takes = omega (arith, c.takes);
  blocks = omega (arith, c.blocks);
}

-- ---- the queue
module _ {n : ℕ} (opt : Options) (i : ℕ) (q : List ℕ) (s : State) (same : s.graph.n ≡ n) (a : Apart n q) where
  joined : (g : Graph) → Apart n (join opt g (neighbours s.graph i) q)
  joined g = join_apart opt g (neighbours s.graph i) q (λ k m. subst (λ (l : ℕ). k < l) same (in_nbrs s.graph i k m).0) a

  take_queue : (w : Way) → Apart n (go w opt i (take_front q s)).queue
  unfolding go reduced skipped take_front
  take_queue inactive = a
  take_queue low = joined (eliminate i s.graph)
  take_queue (into j) = joined (contract i j s.graph)
  take_queue three = joined (eliminate3 i s.graph)
  take_queue failed = a
  take_queue idle = a

-- ---- the state
module _ (g : Graph) where
  pub begin_in_order : (opt : Options) → Fine g → InOrder g (begin opt g)
  unfolding begin
  begin_in_order opt f = record {
    sound = begin_sound g opt f;
    queue = waiting_apart opt g;
    counted = record { steps = refl; three = omega arith; weakly = omega arith; takes = omega arith; blocks = omega arith };
  }

  next_sound : (opt : Options) (s t : State) → next opt s ≡ due t → Sound g s.steps s.graph → Sound g t.steps t.graph
  next_sound opt s t e r = subst (λ (u : State). Sound g u.steps u.graph) (run_one opt s t e) (run_sound g 1 opt s r)

  -- everything due keeps a state in order
  pub next_in_order : (opt : Options) (s t : State) → next opt s ≡ due t → InOrder g s → InOrder g t
  unfolding blocked
  next_in_order opt s t e o = kept t (next_due opt s t e) (next_sound opt s t e o.sound)
    where
      kept : (t : State) → Due opt s t → Sound g t.steps t.graph → InOrder g t
      kept t (take {i} {q} h) r = record {
        sound = r;
        queue = take_queue opt i q s o.sound.stands.size (apart_tail (subst (Apart g.n) h o.queue)) (way opt s.graph i);
        counted = take_counted opt i q s o.counted (way opt s.graph i);
      }
      kept t (block {b} h on f) r = record {
        sound = r;
        queue = subst (λ (n : ℕ). Apart n (waiting opt (eliminate_block b s.graph))) r.stands.size (waiting_apart opt (eliminate_block b s.graph));
        counted = block_counted opt b s (found_block s.graph b o.sound.stands.fine.shaped f).two o.counted;
      }

  -- so every state of a run is in order, at every budget
  pub run_in_order : (b : ℕ) (opt : Options) → Fine g → InOrder g (run b opt (begin opt g)).state
  run_in_order b opt f = run_keeps opt (InOrder g) (next_in_order opt) b (begin opt g) (begin_in_order opt f)

  -- and has room
  pub in_order_steps : {s : State} → InOrder g s → length s.steps ≤ g.n
  in_order_steps {s} o = steps_few g.n g.states s.steps o.sound.taken

  pub in_order_room : {s : State} → InOrder g s → Room s
  in_order_room {s} o =
      let few : s.graph.n ≤ 64 = o.sound.stands.fine.shaped.few in
      let same : s.graph.n ≡ g.n = o.sound.stands.size in
      let steps : length s.steps ≤ g.n = in_order_steps o in
      let c : Counted s = o.counted in
      record {
        n = few;
        queue = omega (arith, pigeon g.n o.queue);
        waiting = apart_wider (omega arith) o.queue;
        steps = omega arith;
        eliminated = omega (arith, c.steps);
        three = omega (arith, c.steps, c.three);
        contracted = omega (arith, c.steps);
        weakly = omega (arith, c.steps, c.weakly);
        in_blocks = omega (arith, c.steps);
        blocks = omega (arith, c.steps, c.blocks);
        skipped = omega (arith, c.takes);
      }

-- of an objective that is not refused
pub in_order_within : (o : Objective) → Fit o → {s : State} → InOrder (start o) s → Within s.graph
in_order_within o fit h = reduced_within o fit h.sound

pub ended_in_order : (o : Objective) → Fit o → InOrder (start o) (ended o).state
unfolding ended
ended_in_order o fit = run_in_order (start o) o.budget (asked o) (start_stands o fit).fine

pub ended_room : (o : Objective) → Fit o → Room (ended o).state
ended_room o fit = in_order_room (start o) (ended_in_order o fit)
