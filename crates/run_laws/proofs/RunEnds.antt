-- Every run ends: 4,224 units are always enough, whatever the budget. So the budget is fuel that suffices.
-- Assumes nothing.
use Rattle.std.specs.Prelude.{◌≡◌}
use Rattle.std.proofs.Math.Path.{refl, ap}
use Rattle.std.proofs.Math.Bool.{true, false}
use mathlib.Core.List.{List, ◌∷◌}
use Prim.Native.Nat.{ℕ, zero, suc, ◌+◌, ◌<◌, ◌≤◌}
use Rattle.std.proofs.Common.{arith, length-append}
use Rattle.std.proofs.Math.ListN.{length}
use Rattle.rules.specs.Options.{asked}
use Rattle.rules.specs.declared.Options.{Options}
use Rattle.rules.specs.Objective.{Objective}
use Rattle.rules.specs.Graph.{Graph}
use Rattle.rules.specs.Fixing.{start}
use Rattle.rules.specs.Outcome.{units}
use Rattle.rules.specs.SmallBlock.{block_steps}
use Rattle.rules.specs.Run.{State, Way, inactive, low, into, three, failed, idle, way, reduced, skipped, go, take_front, blocked, Next, over, due, next, onward, run, begin, ended}
use Rattle.cost_laws.specs.Stands.{Fine}
use Rattle.cost_laws.specs.Found.{found_block}
use Rattle.accepted_laws.specs.Accept.{Fit}
use Rattle.sound_laws.specs.SoundStart.{start_stands}
use Rattle.run_laws.specs.DueLaws.{Due, take, block, next_due}
use Rattle.run_laws.specs.StepLaws.{block_steps_length}
use Rattle.run_laws.specs.InOrder.{InOrder}
use Rattle.run_laws.proofs.InOrderLaws.{begin_in_order, next_in_order, in_order_steps, in_order_room}
use Rattle.cost_laws.specs.RunLaws.{next_unit, run_keeps}
use Rattle.run_laws.specs.RunEnds.{work_left}

-- a take lets one wait less, or takes a step
data Taking (q : List ℕ) (s t : State) : Type 0 where
  passes : t.queue ≡ q → t.steps ≡ s.steps → Taking q s t
  reduces : length t.steps ≡ length s.steps + 1 → Taking q s t

taking : (w : Way) (opt : Options) (i : ℕ) (q : List ℕ) (s : State) → Taking q s (go w opt i (take_front q s))
unfolding go reduced skipped take_front
taking inactive opt i q s = passes refl refl
taking low opt i q s = reduces (length-append s.steps _)
taking (into j) opt i q s = reduces (length-append s.steps _)
taking three opt i q s = reduces (length-append s.steps _)
taking failed opt i q s = passes refl refl
taking idle opt i q s = passes refl refl

module _ (g : Graph) where
  -- everything due leaves less to do
  next_less : (opt : Options) (s t : State) → next opt s ≡ due t → InOrder g s → work_left g.n t < work_left g.n s
  unfolding blocked
  next_less opt s t e o = less t (next_due opt s t e) (next_in_order g opt s t e o)
    where
      taken : (i : ℕ) (q : List ℕ) (t : State) → s.queue ≡ i ∷ q → InOrder g t → Taking q s t → work_left g.n t < work_left g.n s
      taken i q t h p (passes a b) = omega (arith, ap length h, ap length a, ap length b)
      taken i q t h p (reduces d) = omega (arith, ap length h, in_order_steps g p, (in_order_room g p).queue)

      less : (t : State) → Due opt s t → InOrder g t → work_left g.n t < work_left g.n s
      less t (take {i} {q} h) p = taken i q t h p (taking (way opt s.graph i) opt i q s)
      less t (block {b} h on f) p =
          omega (
            arith,
            in_order_steps g p,
            (in_order_room g p).queue,
            (found_block s.graph b o.sound.stands.fine.shaped f).two,
            length-append s.steps (block_steps s.graph b 0 b),
            block_steps_length s.graph b 0 b,
          )

  -- with a unit for each thing left to do, the run is complete
  pub enough_completes : (b : ℕ) (opt : Options) (s : State) → InOrder g s → work_left g.n s ≤ b → (run b opt s).complete ≡ true
  unfolding run
  enough_completes zero opt s o h = end (next opt s) refl
    where
      end : (x : Next) → next opt s ≡ x → (onward x s (λ t. record { state = s; complete = false })).complete ≡ true
      end over e = refl
      end (due t) e = absurd (omega (arith, next_less opt s t e o))
  enough_completes (suc b) opt s o h = more (next opt s) refl (enough_completes b opt)
    where
      more : (x : Next) → next opt s ≡ x → ((t : State) → InOrder g t → work_left g.n t ≤ b → (run b opt t).complete ≡ true) → (onward x s (λ t. run b opt t)).complete ≡ true
      more over e r = refl
      more (due t) e r = r t (next_in_order g opt s t e o) (omega (arith, next_less opt s t e o))

  begin_left : (opt : Options) → Fine g → work_left g.n (begin opt g) ≤ 4224
  unfolding begin
  begin_left opt f = omega (arith, (in_order_room g (begin_in_order g opt f)).queue, f.shaped.few)

  -- no run uses more, at any budget
  pub run_units : (b : ℕ) (opt : Options) → Fine g → units (run b opt (begin opt g)).state ≤ 4224
  unfolding begin
  run_units b opt f = omega (arith, kept.1)
    where
      kept : InOrder g (run b opt (begin opt g)).state × (units (run b opt (begin opt g)).state + work_left g.n (run b opt (begin opt g)).state ≤ 4224)
      kept = run_keeps opt (λ s. InOrder g s × (units s + work_left g.n s ≤ 4224))
          (λ s t e p. (next_in_order g opt s t e p.0, omega (arith, p.1, next_unit opt s t e, next_less opt s t e p.0)))
          b (begin opt g) (begin_in_order g opt f, omega (arith, begin_left opt f))

-- of an objective that is not refused: "One unit per take and one per block eliminated."
module _ (o : Objective) (fit : Fit o) where
  pub ended_few : units (ended o).state ≤ 4224
  unfolding ended
  ended_few = run_units (start o) o.budget (asked o) (start_stands o fit).fine

  pub ended_complete : 4224 ≤ o.budget → (ended o).complete ≡ true
  unfolding ended
  ended_complete h =
      let f : Fine (start o) = (start_stands o fit).fine in
      enough_completes (start o) o.budget (asked o) (begin (asked o) (start o)) (begin_in_order (start o) (asked o) f) (omega (arith, begin_left (start o) (asked o) f))
