-- Who joins, told by the mask of those who wait; and a pass's queue, where who is active is a decision.
-- Assumes nothing.
use Rattle.std.specs.Prelude.{◌≡◌, true, false, not, ◌&&◌, List, ◌++◌, ℕ, ◌<◌, ◌≤◌, ltb, get_or}
use Rattle.std.proofs.Math.Path.{ap}
use Rattle.std.proofs.Common.{◌∙◌, lt-ltb, eqb-true}
use Rattle.whole.specs.Words.{bit, mem, those}
use Rattle.whole.specs.Tests.{same_test, and-true, and_both}
use Rattle.whole.specs.Masks.{these, these_below, these_less, those_ext, without}
use Rattle.rules.specs.declared.Options.{Options}
use Rattle.rules.specs.Graph.{Graph, active}
use Rattle.rules.specs.Run.{eligible, waiting, join}
use Rattle.state.specs.Joins.{may_join}
use Rattle.state.specs.JoinsLaws as by

-- the mask near less the mask w of those who wait
others_are : (q : List ℕ) (near w : ℕ) → ((k : ℕ) → k < 64 → bit w k ≡ mem k q) → these (without near w) ≡ those (λ k. not (mem k q)) (these near)
others_are q near w h = these_less near w ∙ those_ext (λ k. not (bit w k)) (λ k. not (mem k q)) (these near) (λ k m. ap not (h k (these_below near k m)))

module _ (opt : Options) (g : Graph) where
  -- the neighbours join: those of a mask, less those who wait
  pub rejoined : (q : List ℕ) (near w r : ℕ) → ((k : ℕ) → k < 64 → bit w k ≡ mem k q) → these r ≡ those (may_join opt g) (these (without near w)) → q ++ these r ≡ join opt g (these near) q
  rejoined q near w r h e = by.rejoined opt g q near (without near w) r (others_are q near w h) e

  -- nobody waits of another mask
  pub new_ones : (q : List ℕ) (near w r : ℕ) → ((k : ℕ) → k < 64 → bit w k ≡ mem k q) → these r ≡ those (may_join opt g) (these (without near w)) → (k : ℕ) → mem k (these r) ≡ true → mem k q ≡ false
  new_ones q near w r h e = by.new_ones opt g q near (without near w) r (others_are q near w h) e

  -- a pass's queue, from everyone: who is active is a decision
  pub everyone_waits : (r : ℕ) → g.n ≤ 64 → ((k : ℕ) → get_or g.states k 0 ≡ 2 → k < g.n) → these r ≡ those (may_join opt g) (these 18446744073709551615) → these r ≡ waiting opt g
  everyone_waits r few inside e =
      by.everyone_waits opt g r few (e ∙ those_ext (may_join opt g) (λ k. ltb k g.n && may_join opt g k) (these 18446744073709551615) (λ k m. same_test (may_join opt g k) (ltb k g.n && may_join opt g k)
      (λ t. and_both (lt-ltb k g.n (inside k (eqb-true (get_or g.states k 0) 2 (and-true (active g k) (eligible opt g k) t).0))) t)
      (λ t. (and-true (ltb k g.n) (may_join opt g k) t).1)))
