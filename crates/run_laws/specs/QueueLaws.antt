-- The queue holds decisions below n, and none of them twice: so at most n.
-- Assumes nothing.
use Rattle.std.specs.Prelude.{◌≡◌, refl, Bool, true, false, cond, not, ◌&&◌, List, [], ◌∷◌, ◌++◌, ℕ, ◌<◌}
use Rattle.whole.specs.Words.{mem}
use Rattle.whole.specs.Pigeon.{Apart}
use Rattle.whole.specs.Tests.{and-true, off_not}
use Rattle.whole.specs.Members.{in_head, in_tail, apart_more, apart_those, apart_upto}
use Rattle.rules.specs.Graph.{Graph, active, actives}
use Rattle.rules.specs.declared.Options.{Options}
use Rattle.rules.specs.Run.{eligible, waiting, join}

pub actives_apart : (g : Graph) → Apart g.n (actives g)
unfolding actives
actives_apart g = apart_those (λ i. active g i) (apart_upto g.n)

-- "A pass queues, ascending, every active decision that is eligible"
pub waiting_apart : (opt : Options) (g : Graph) → Apart g.n (waiting opt g)
unfolding waiting
waiting_apart opt g = apart_those (λ i. eligible opt g i) (actives_apart g)

-- "join the back if active, not waiting and now eligible"
pub join_apart : {n : ℕ} (opt : Options) (g : Graph) (js q : List ℕ) → ((k : ℕ) → mem k js ≡ true → k < n) → Apart n q → Apart n (join opt g js q)
unfolding join
join_apart opt g [] q h a = a
join_apart {n} opt g (j ∷ js) q h a =
    join_apart opt g js (cond (active g j && not (mem j q) && eligible opt g j) (q ++ j ∷ []) q) (λ k m. h k (in_tail k j js m)) (go (active g j && not (mem j q) && eligible opt g j) refl)
  where
    go : (c : Bool) → (active g j && not (mem j q) && eligible opt g j) ≡ c → Apart n (cond c (q ++ j ∷ []) q)
    go true e = apart_more j a (h j (in_head j js)) (off_not (mem j q) (and-true (active g j) (not (mem j q)) (and-true (active g j && not (mem j q)) (eligible opt g j) e).0).1)
    go false e = a
