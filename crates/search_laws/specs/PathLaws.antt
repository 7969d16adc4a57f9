-- Growing a component follows paths.
-- Assumes nothing.
use Rattle.std.specs.Prelude.{◌≡◌, false, not}
use Rattle.std.proofs.Common.{sym, subst}
use Rattle.std.proofs.Math.Bool.{true}
use mathlib.Core.List.{List, [], ◌∷◌, ◌++◌}
use Prim.Native.Nat.{ℕ, zero, suc, ◌<◌}
use Rattle.whole.specs.Words.{mem}
use Rattle.whole.specs.Tests.{off_not}
use Rattle.whole.specs.Members.{in_single, in_head, in_append, in_left, in_right, in_those, out_append, apart_below}
use Rattle.rules.specs.SmallBlock.{fresh, grow, component}
use Rattle.cost_laws.specs.Growth.{Network, Grown, regroup, component_grown}
use Rattle.search_laws.specs.Paths.{PathFrom, start, onward}

module _ (n : ℕ) (near : ℕ → List ℕ) (net : Network n near) (aside : List ℕ) where
  -- what a turn finds lies one neighbour further
  further : (s i k : ℕ) (found : List ℕ) → PathFrom near aside s i → mem k (fresh near aside found i) ≡ true → PathFrom near aside s k
  further s i k found w h =
      let p = in_those (λ j. not (mem j (aside ++ found))) k (near i) h in
      onward w p.0 (out_append k aside found (off_not (mem k (aside ++ found)) p.1)).0

  -- what is grown from decisions on paths from s lies on paths from s
  grown_paths : (s f : ℕ) (old new : List ℕ) → ((k : ℕ) → mem k (old ++ new) ≡ true → PathFrom near aside s k) → (k : ℕ) → mem k (grow near f aside old new) ≡ true → PathFrom near aside s k
  unfolding grow
  grown_paths s zero old new h k m = h k m
  grown_paths s (suc f) old [] h k m = h k (in_left k old [] m)
  grown_paths s (suc f) old (i ∷ new) h k m = grown_paths s f (old ++ i ∷ []) (new ++ fresh near aside (old ++ i ∷ new) i) wider k m
    where
      wider : (k : ℕ) → mem k ((old ++ i ∷ []) ++ (new ++ fresh near aside (old ++ i ∷ new) i)) ≡ true → PathFrom near aside s k
      wider k q = in_append k (old ++ i ∷ new) (fresh near aside (old ++ i ∷ new) i) (rw (regroup n near net aside old new (fresh near aside (old ++ i ∷ new) i) i) at q)
          (λ t. h k t)
          (λ t. further s i k (old ++ i ∷ new) (h i (in_right i old (i ∷ new) (in_head i new))) t)

  pub reached_path : (s k : ℕ) → mem s aside ≡ false → mem k (component near aside s) ≡ true → PathFrom near aside s k
  reached_path s k free m = grown_paths s 64 [] (s ∷ []) (λ j q. subst (λ (i : ℕ). PathFrom near aside s i) (sym (in_single j s q)) (start free)) k m

  pub path_reached : (s : ℕ) {k : ℕ} → s < n → mem s aside ≡ false → PathFrom near aside s k → mem k (component near aside s) ≡ true
  path_reached s l free (start q) = (component_grown n near net aside s l free).starts s (in_head s [])
  path_reached s l free (onward {i = i} {k = k} w h q) =
      let c : Grown n near aside (s ∷ []) (component near aside s) = component_grown n near net aside s l free in
      let m : mem i (component near aside s) ≡ true = path_reached s l free w in
      c.closed i k m (apart_below i c.apart m) h q
