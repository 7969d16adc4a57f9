-- A run begins, a take or a block takes it one unit on, and it ends; and what a state on its course gives: room for every count, weights within the size rule, a block that can be eliminated.
-- Assumes nothing.
use Rattle.std.specs.Prelude.{◌≡◌, true, false, Some, None, map, ℕ, ◌+◌, ◌-◌, ◌<◌, ◌≤◌, get_or}
use Rattle.std.proofs.Math.Path.{refl, sym, ap}
use Rattle.std.proofs.Common.{◌∙◌, subst, arith, sub-eq-zero_of_le, eq-eqb}
use mathlib.Core.List.{List, [], ◌∷◌, ◌++◌}
use Rattle.std.proofs.Math.Nat.{sub-zero}
use Rattle.std.proofs.Math.ListN.{length, length-append}
use Rattle.std.proofs.lemmas.List.{length-map}
use Rattle.whole.specs.Pigeon.{pigeon}
use Rattle.whole.specs.Members.{few}
use Rattle.whole.specs.Masks.{these}
use Rattle.rules.specs.Counts.{plus}
use Rattle.rules.specs.Graph.{Graph, active, actives, neighbours}
use Rattle.rules.specs.Fixing.{start}
use Rattle.rules.specs.Outcome.{units}
use Rattle.rules.specs.Record.{hold}
use Rattle.rules.specs.Run as run
use Rattle.rules.specs.Run.{over, due, next, waiting, join}
use Rattle.rules.specs.Size.{Within}
use Rattle.rules.specs.SmallBlock.{find_block, members}
use Rattle.rules.specs.declared.Options.{Options}
use Rattle.rules.specs.declared.Step.{Step}
use Rattle.rules.specs.declared.Tally.{Tally}
use Rattle.cost_laws.specs.Found.{SmallBlock, found_block, found_live}
use Rattle.cost_laws.specs.Growth.{Network}
use Rattle.cost_laws.specs.Neat.{neat_tidy, neat_network}
use Rattle.cost_laws.specs.RunLaws.{next_unit}
use Rattle.cost_laws.specs.Stands.{Fine}
use Rattle.sound_laws.specs.SoundStart.{start_stands}
use Rattle.run_laws.specs.DueLaws.{run_over, run_turn, run_cut}
use Rattle.run_laws.specs.InOrder.{InOrder, Room}
use Rattle.run_laws.proofs.InOrderLaws.{begin_in_order, next_in_order, in_order_room, in_order_within}
use Rattle.run_laws.specs.QueueLaws.{actives_apart}
use Rattle.run_laws.specs.RemainingLaws.{remaining_count, to_actives}
use Rattle.state.specs.Counting.{Countable, counts}
use Rattle.state.specs.Holds.{Holds}
use Rattle.state.specs.StepsLaws.{held_more}
use Rattle.state.specs.declared.State.{State}
use Rattle.take.specs.Effects.{Ready, Leaves, recounted}
use Rattle.take.specs.declared.Made.{Made}
use Rattle.take.specs.declared.Taken.{Taken}
use Rattle.run.specs.Blocks.{Removable}
use Rattle.run.specs.BlocksLaws.{due_take}
use Rattle.run.specs.Course.{at_start, Started, Course, ToPass, InPass, Ends}
use Rattle.run.specs.declared.Reached.{Reached}

-- ---- a run begins
pub course_begins : (budget : ℕ) (opt : Options) (g : Graph) → Started g → ToPass budget opt (run.run budget opt (run.begin opt g)) g at_start
unfolding run.begin
course_begins budget opt g st = record {
  state = run.begin opt g;
  course = record {
    objective = st.objective;
    fit = st.fit;
    order =
        subst (λ (x : Graph). InOrder (start st.objective) (run.begin opt x)) (sym st.is)
        (begin_in_order (start st.objective) opt (start_stands st.objective st.fit).fine);
    holds = record { graph = refl; steps = refl; counted = refl; takes = refl; blocks = refl };
    few = omega arith;
    same = ap (λ (b : ℕ). run.run b opt (run.begin opt g)) (sym (sub-zero budget));
  };
  queued = refl;
}

-- ---- on its course
module _ (budget : ℕ) (opt : Options) (E : run.Ended) (S : run.State) (g : Graph) (at : Reached) (c : Course budget opt E S g at) where
  -- the code's units are those of the rules' state
  pub used : at.state.takes + at.state.blocks ≡ units S
  used = omega (arith, c.holds.takes, c.holds.blocks)

  pub fine : Fine g
  fine = subst Fine (sym c.holds.graph) c.order.sound.stands.fine

  within : Within g
  within = subst Within (sym c.holds.graph) (in_order_within c.objective c.fit c.order)

  room : Room S
  room = in_order_room (start c.objective) c.order

  counted : (f : Tally → ℕ) → f at.state.tally ≡ f S.counted
  counted f = ap f c.holds.counted

  pub countable : at.state.takes + at.state.blocks < 4294967295 → Countable at.state.tally
  countable u = record {
    eliminated = omega (arith, counted (λ (t : Tally). t.eliminated), room.eliminated);
    three = omega (arith, counted (λ (t : Tally). t.three), room.three);
    skipped = omega (arith, counted (λ (t : Tally). t.skipped), room.skipped, c.holds.takes);
    contracted = omega (arith, counted (λ (t : Tally). t.contracted), room.contracted);
    weakly = omega (arith, counted (λ (t : Tally). t.weakly), room.weakly);
    in_blocks = omega (arith, counted (λ (t : Tally). t.in_blocks), room.in_blocks);
  }

  pub ready : (i : ℕ) → i < 64 → Ready g i
  ready i h = record { below = h; within = within }

  -- who is active is a decision
  pub inside : (k : ℕ) → get_or g.states k 0 ≡ 2 → k < g.n
  inside k h = fine.inside k (eq-eqb (get_or g.states k 0) 2 h)

  pub searchable : Network 64 (neighbours g)
  searchable = neat_network g fine.shaped fine.neat

  -- as many steps as the rules' state has
  made : length at.steps ≡ length S.steps
  made = ap length c.holds.steps ∙ length-map S.steps hold

  -- one unit on
  pub course_onward : (T : run.State) (g' : Graph) (at' : Reached) → units S < budget → next opt S ≡ due T → Holds T g' at'.state at'.steps → Course budget opt E T g' at'
  course_onward T g' at' b n h = record {
    objective = c.objective;
    fit = c.fit;
    order = next_in_order (start c.objective) opt S T n c.order;
    holds = h;
    few = omega (arith, next_unit opt S T n);
    same = c.same ∙ run_turn budget (units S) opt S T b n ∙ ap (λ (u : ℕ). run.run (budget - u) opt T) (sym (next_unit opt S T n));
  }

  ends_as : (X : run.Ended) → E ≡ X → X.state ≡ S → Ends E X.complete g at
  ends_as X e s = rw e (record { holds = rw s c.holds; complete = refl })

  -- nothing is due
  pub over_here : next opt S ≡ over → Ends E true g at
  over_here n = ends_as _ (c.same ∙ run_over (budget - units S) opt S n) refl

  -- something is due and no unit is left
  pub cut_here : (T : run.State) → next opt S ≡ due T → units S ≡ budget → Ends E false g at
  cut_here T n u = ends_as _ (c.same ∙ ap (λ (k : ℕ). run.run k opt S) (sub-eq-zero_of_le (omega (arith, u))) ∙ run_cut opt S T n) refl

  -- ---- a take of the front
  module _ (i : ℕ) (q : List ℕ) (front : S.queue ≡ i ∷ q) where
    pub take_cut : units S ≡ budget → Ends E false g at
    take_cut = cut_here _ (due_take opt S i q front)

    module _ (b : units S < budget) (t : Taken) (g' : Graph) (k : Leaves (run.way opt g i) i g t g') where
      abbrev F : run.State
      F = run.take_front q S

      abbrev T : run.State
      T = run.go (run.way opt S.graph i) opt i (run.take_front q S)

      -- the rules' way is the code's
      way_is : run.way opt S.graph i ≡ run.way opt g i
      way_is = ap (λ (x : Graph). run.way opt x i) (sym c.holds.graph)

      abbrev next_state : State
      next_state = record { tally = plus at.state.tally (counts t.did); takes = at.state.takes + 1; blocks = at.state.blocks }

      holding : (steps : List Step) (X : run.State) → T ≡ X → g' ≡ X.graph → steps ≡ map hold X.steps → plus S.counted (counts t.did) ≡ X.counted → S.takes + 1 ≡ X.takes → S.blocks ≡ X.blocks
          → Course budget opt E T g' (record { state = next_state; steps = steps })
      holding steps X e gr st cn tk bl = course_onward T g' (record { state = next_state; steps = steps }) b (due_take opt S i q front) (subst (λ (Y : run.State). Holds Y g' next_state steps) (sym e) (record {
        graph = gr;
        steps = st;
        counted = ap (λ (x : Tally). plus x (counts t.did)) c.holds.counted ∙ cn;
        takes = ap (λ (x : ℕ). x + 1) c.holds.takes ∙ tk;
        blocks = c.holds.blocks ∙ bl;
      }))

      -- no step is made
      went_no : t.made ≡ None → T ≡ recounted F g' (counts t.did)
      unfolding run.take_front
      went_no z = ap (λ (v : run.Way). run.go v opt i F) way_is ∙ k.no z opt F (sym c.holds.graph)

      pub taken_no : t.made ≡ None → InPass budget opt E g' (record { state = next_state; steps = at.steps }) q
      unfolding run.take_front
      taken_no z = record {
        state = T;
        course = holding at.steps _ (went_no z) refl c.holds.steps refl refl refl;
        queued = sym (ap (λ (X : run.State). X.queue) (went_no z));
      }

      -- a step is made, and the neighbours as they were rejoin
      module _ (m : Made) (z : t.made ≡ Some m) where
        went_yes : T ≡ run.reduced opt F i g' (k.yes m z).0 (counts t.did)
        unfolding run.take_front
        went_yes = ap (λ (v : run.Way). run.go v opt i F) way_is ∙ (k.yes m z).1.1.1 opt F (sym c.holds.graph)

        -- there is room for it
        pub step_room : length at.steps < 64
        unfolding run.reduced run.take_front
        step_room =
            let full = (in_order_room (start c.objective) (next_in_order (start c.objective) opt S T (due_take opt S i q front) c.order)).steps in
            omega (arith, made, full, ap (λ (X : run.State). length X.steps) went_yes, length-append S.steps ((k.yes m z).0 ∷ []))

        pub taken_yes : InPass budget opt E g' (record { state = next_state; steps = at.steps ++ m.step ∷ [] }) (join opt g' (these m.near) q)
        unfolding run.reduced run.take_front
        taken_yes = record {
          state = T;
          course = holding _ _ went_yes refl (ap (λ (x : Step). at.steps ++ x ∷ []) (k.yes m z).1.0 ∙ held_more at.steps S.steps (k.yes m z).0 c.holds.steps) refl refl refl;
          queued =
              ap (λ (js : List ℕ). join opt g' js q) ((k.yes m z).1.1.0 ∙ ap (λ (x : Graph). neighbours x i) c.holds.graph)
              ∙ sym (ap (λ (X : run.State). X.queue) went_yes);
        }

  -- ---- a block
  -- the steps so far and the active decisions are at most 64 together
  steps_left : length S.steps + length (actives g) ≤ 64
  steps_left =
      let o = start c.objective in
      let same : S.graph.n ≡ o.n = c.order.sound.stands.size in
      omega (arith, remaining_count c.order.sound, pigeon o.n (actives_apart o), same, room.n, ap (λ (x : Graph). length (actives x)) c.holds.graph)

  module _ (b : List ℕ) (is : find_block g ≡ members b) where
    block : SmallBlock g b
    block = found_block g b fine.shaped is

    -- its members are active
    members_active : length b ≤ length (actives g)
    members_active =
        let tidy = neat_tidy g fine.shaped fine.neat in
        few (actives g) block.apart (λ k m. let on : active g k ≡ true = found_live g b fine.shaped is tidy k m in to_actives g k (fine.inside k on, on))

    pub removable : at.state.takes + at.state.blocks < 4294967295 → Removable g at b
    removable u = record {
      within = within;
      block = block;
      room = omega (arith, made, steps_left, members_active);
      counted = countable u;
      blocks = omega arith;
    }
