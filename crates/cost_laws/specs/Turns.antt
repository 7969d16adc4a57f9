-- Growing a component: enough turns, and more of them change nothing. (That what is grown is the smallest closed set is `component_grown` of Growth.)
-- Assumes nothing.
use Rattle.std.specs.Prelude.{◌≡◌, refl, false, length}
use Rattle.std.proofs.Math.Path.{sym}
use Rattle.std.proofs.Common.{◌∙◌, arith}
use mathlib.Core.List.{List, [], ◌∷◌, ◌++◌, append-nil}
use Prim.Native.Nat.{ℕ, zero, suc, ◌+◌, ◌<◌, ◌≤◌}
use Rattle.std.proofs.Math.Nat.{suc-add}
use Rattle.std.proofs.Math.ListN.{length-append}
use Rattle.whole.specs.Words.{mem}
use Rattle.whole.specs.Pigeon.{pigeon}
use Rattle.rules.specs.SmallBlock.{fresh, grow, component}
use Rattle.cost_laws.specs.Growth.{Network, Growing, grow_turn, grow_begins}

-- "Each turn goes through one decision, and none twice, so 64 turns are enough": more turns change nothing
-- nothing is new: the turns that are left do nothing
pub idle_turns : (near : ℕ → List ℕ) (aside : List ℕ) (f : ℕ) (old : List ℕ) → grow near f aside old [] ≡ old
unfolding grow
idle_turns near aside zero old = append-nil old
idle_turns near aside (suc f) old = refl

module _ (n : ℕ) (near : ℕ → List ℕ) (net : Network n near) (aside : List ℕ) (more : ℕ) where
  more_turns : (f : ℕ) (old new : List ℕ) → Growing n near aside old new → n ≤ length old + f → grow near (f + more) aside old new ≡ grow near f aside old new
  unfolding grow
  more_turns zero old [] w h = idle_turns near aside (0 + more) old ∙ sym (idle_turns near aside 0 old)
  more_turns zero old (i ∷ new) w h = absurd (omega (arith, pigeon n w.apart, length-append old (i ∷ new)))
  more_turns (suc f) old [] w h = idle_turns near aside (suc f + more) old
  more_turns (suc f) old (i ∷ new) w h =
      rw suc-add (more_turns f (old ++ i ∷ []) (new ++ fresh near aside (old ++ i ∷ new) i) (grow_turn n near net aside old new i w) (omega (arith, length-append old (i ∷ []))))

  pub component_turns : (s : ℕ) → s < n → mem s aside ≡ false → grow near (64 + more) aside [] (s ∷ []) ≡ component near aside s
  component_turns s l m = more_turns 64 [] (s ∷ []) (grow_begins n near net aside s l m) (omega (arith, net.few))
