-- "Remaining decisions": those that were active where the run began and that no step has eliminated. So steps and remaining decisions together are as many as at the beginning.
-- Assumes nothing.
use Rattle.std.specs.Prelude.{◌≡◌, refl, true, false, List, [], ◌∷◌, ◌++◌, ℕ, ◌+◌, ◌≤◌, length, set}
use Rattle.std.proofs.Common.{subst, arith, length-append}
use Rattle.std.proofs.lemmas.List.{length-map}
use Rattle.whole.specs.Words.{mem, upto}
use Rattle.whole.specs.Pigeon.{Apart}
use Rattle.whole.specs.Tests.{cases, clash, refuse}
use Rattle.whole.specs.Members.{to_those, in_upto, in_append, in_left, in_right, out_of_cons, apart_join, few}
use Rattle.rules.specs.Graph.{Graph, active, actives}
use Rattle.rules.specs.Eliminate.{Step}
use Rattle.cost_laws.specs.Found.{in_actives}
use Rattle.cost_laws.specs.Stands.{Alive, marked, alive_marked}
use Rattle.sound_laws.specs.Sound.{decisions, Sound}
use Rattle.run_laws.specs.QueueLaws.{actives_apart}
use Rattle.run_laws.specs.StepLaws.{still_alive, steps_alive, steps_apart}

pub to_actives : (g : Graph) (k : ℕ) → Alive g.n g.states k → mem k (actives g) ≡ true
unfolding actives
to_actives g k a = to_those (λ i. active g i) k (upto g.n) (in_upto k g.n a.0) a.1

-- active after the decisions of b have left: active before, and none of them
pub marked_alive : {n : ℕ} (b ss : List ℕ) (k : ℕ) → Alive n (marked b ss) k → (mem k b ≡ false) × Alive n ss k
unfolding marked mem
marked_alive [] ss k a = (refl, a)
marked_alive (i ∷ b) ss k a =
    let r = marked_alive b (set ss i 3) k a in
    let q = still_alive ss i k r.1 in
    (out_of_cons k i b q.0 r.0, q.1)

module _ {g g' : Graph} {steps : List Step} (s : Sound g steps g') where
  -- alive in g', in terms of g
  after : (k : ℕ) → mem k (actives g') ≡ true → Alive g.n (marked (decisions steps) g.states) k
  after k m = rw (s.stands.size, s.stands.states) at (in_actives g' k m)

  -- a remaining decision was active at the beginning, and no step has eliminated it
  pub remaining_before : (k : ℕ) → mem k (actives g') ≡ true → (mem k (decisions steps) ≡ false) × (mem k (actives g) ≡ true)
  remaining_before k m = let p = marked_alive (decisions steps) g.states k (after k m) in (p.0, to_actives g k p.1)

  -- and so is every such decision
  pub remaining_after : (k : ℕ) → mem k (actives g) ≡ true → mem k (decisions steps) ≡ false → mem k (actives g') ≡ true
  remaining_after k m d = to_actives g' k (rw (s.stands.size, s.stands.states) (alive_marked (decisions steps) g.states k (in_actives g k m) d))

  pub remaining_count : length steps + length (actives g') ≡ length (actives g)
  remaining_count =
      let whole : Apart g.n (decisions steps ++ actives g') =
      apart_join (steps_apart g.n g.states steps s.taken) (subst (λ (n : ℕ). Apart n (actives g')) s.stands.size (actives_apart g'))
      (λ k m. refuse (mem k (actives g')) (λ t. clash m (remaining_before k t).0)) in
      let most : length (decisions steps ++ actives g') ≤ length (actives g) =
      few (actives g) whole (λ k m. in_append k (decisions steps) (actives g') m
      (λ t. to_actives g k (steps_alive g.n g.states steps s.taken k t)) (λ t. (remaining_before k t).1)) in
      let least : length (actives g) ≤ length (decisions steps ++ actives g') =
      few (decisions steps ++ actives g') (actives_apart g) (λ k m. cases (mem k (decisions steps))
      (λ t. in_left k (decisions steps) (actives g') t) (λ t. in_right k (decisions steps) (actives g') (remaining_after k m t))) in
      omega (arith, length-append (decisions steps) (actives g'), length-map steps (λ t. t.decision))
