-- Everyone who waits is active, so "Inactive: skip" never happens: a step of the front one leaves those behind it, and whoever joins is active.
-- Assumes nothing.
use Rattle.std.specs.Prelude.{◌≡◌, Bool, true, cond, not, ◌&&◌, ℕ}
use Rattle.std.proofs.Math.Path.{refl}
use Rattle.std.proofs.Common.{sym, ◌∙◌, subst}
use Rattle.std.proofs.Math.Bool.{false}
use mathlib.Core.List.{List, [], ◌∷◌, ◌++◌}
use Rattle.whole.specs.Words.{mem}
use Rattle.whole.specs.Tests.{and-true}
use Rattle.whole.specs.Members.{in_tail, in_append, in_single, in_those, apart_new, out_of_cons, out_both, differ}
use Rattle.whole.specs.Pigeon.{Apart}
use Rattle.rules.specs.Options.{asked}
use Rattle.rules.specs.declared.Options.{Options}
use Rattle.rules.specs.Objective.{Objective}
use Rattle.rules.specs.Graph.{Graph, active, actives, neighbours}
use Rattle.rules.specs.Fixing.{start}
use Rattle.rules.specs.Eliminate.{Step, step_of}
use Rattle.rules.specs.DominantEdge.{contract_step}
use Rattle.rules.specs.Run.{State, waiting, eligible, Way, inactive, low, into, three, failed, idle, way, join, reduced, skipped, go, take_front, blocked, run, begin}
use Rattle.cost_laws.specs.Found.{in_actives}
use Rattle.cost_laws.specs.RunLaws.{run_keeps}
use Rattle.accepted_laws.specs.Accept.{Fit}
use Rattle.sound_laws.specs.Sound.{Sound, decisions, decisions_append}
use Rattle.sound_laws.specs.SoundStart.{start_stands}
use Rattle.run_laws.specs.DueLaws.{Due, take, block, next_due}
use Rattle.run_laws.specs.InOrder.{InOrder}
use Rattle.run_laws.proofs.InOrderLaws.{begin_in_order, next_in_order}
use Rattle.run_laws.specs.RemainingLaws.{to_actives, remaining_before, remaining_after}
use Rattle.run_laws.specs.WaitingLaws.{AllActive}

waiting_active : (opt : Options) (g : Graph) → AllActive g (waiting opt g)
unfolding waiting
waiting_active opt g k m = (in_actives g k (in_those (λ i. eligible opt g i) k (actives g) m).0).1

join_active : (opt : Options) (g : Graph) (js q : List ℕ) → AllActive g q → AllActive g (join opt g js q)
unfolding join
join_active opt g [] q h k m = h k m
join_active opt g (j ∷ js) q h k m = join_active opt g js _ (joins (active g j && not (mem j q) && eligible opt g j) refl) k m
  where
    joins : (c : Bool) → (active g j && not (mem j q) && eligible opt g j) ≡ c → AllActive g (cond c (q ++ j ∷ []) q)
    joins true e k m = in_append k q (j ∷ []) m (h k)
        (λ t. subst (λ (z : ℕ). active g z ≡ true) (sym (in_single k j t)) (and-true (active g j) (not (mem j q)) (and-true (active g j && not (mem j q)) (eligible opt g j) e).0).0)
    joins false e k m = h k m

-- a take of i, with q behind it
module _ (g : Graph) (opt : Options) (i : ℕ) (q : List ℕ) (s : State) (o : InOrder g s) (h : s.queue ≡ i ∷ q) (w : AllActive s.graph s.queue) where
  behind : AllActive s.graph q
  behind k m = w k (subst (λ (l : List ℕ). mem k l ≡ true) (sym h) (in_tail k i q m))

  -- a step of i leaves the others
  stays : (g' : Graph) (step : Step) → step.decision ≡ i → Sound g (s.steps ++ step ∷ []) g' → AllActive g' q
  unfolding mem
  stays g' step e r k m =
      let a = behind k m in
      let p = remaining_before o.sound k (to_actives s.graph k (o.sound.stands.fine.inside k a, a)) in
      let n : mem k (step.decision ∷ []) ≡ false = out_of_cons k step.decision [] (λ z. differ q m (apart_new (subst (Apart g.n) h o.queue)) (z ∙ e)) refl in
      (in_actives g' k (remaining_after r k p.1
      (subst (λ (l : List ℕ). mem k l ≡ false) (sym (decisions_append s.steps (step ∷ []))) (out_both k (decisions s.steps) (step.decision ∷ []) p.0 n)))).1

  take_active : (v : Way) → Sound g (go v opt i (take_front q s)).steps (go v opt i (take_front q s)).graph → AllActive (go v opt i (take_front q s)).graph (go v opt i (take_front q s)).queue
  unfolding go reduced skipped take_front step_of contract_step
  take_active inactive r = behind
  take_active low r = join_active opt _ (neighbours s.graph i) q (stays _ _ refl r)
  take_active (into j) r = join_active opt _ (neighbours s.graph i) q (stays _ _ refl r)
  take_active three r = join_active opt _ (neighbours s.graph i) q (stays _ _ refl r)
  take_active failed r = behind
  take_active idle r = behind

-- "Inactive: skip" never happens in the run of an objective that is not refused, at any budget
pub never_inactive : (o : Objective) → Fit o → (b i : ℕ) → mem i (run b (asked o) (begin (asked o) (start o))).state.queue ≡ true → active (run b (asked o) (begin (asked o) (start o))).state.graph i ≡ true
unfolding begin blocked
never_inactive o fit b =
    (run_keeps (asked o) (λ s. InOrder (start o) s × AllActive s.graph s.queue)
    (λ s t e p. let n = next_in_order (start o) (asked o) s t e p.0 in (n, kept s t p (next_due (asked o) s t e) n.sound))
    b (begin (asked o) (start o)) (begin_in_order (start o) (asked o) (start_stands o fit).fine, waiting_active (asked o) (start o))).1
  where
    kept : (s t : State) → InOrder (start o) s × AllActive s.graph s.queue → Due (asked o) s t → Sound (start o) t.steps t.graph → AllActive t.graph t.queue
    kept s t p (take {i} {q} h) r = take_active (start o) (asked o) i q s p.0 h p.1 (way (asked o) s.graph i) r
    kept s t p (block {b} h on f) r = waiting_active (asked o) _
