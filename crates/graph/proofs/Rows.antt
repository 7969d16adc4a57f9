-- A part of a list, place by place.
use Rattle.std.proofs.Common.{◌≡◌, refl, ap₂, ◌∙◌, arith, length-drop, get_or-drop, List, [], ◌∷◌, ◌++◌, length, get_or, take, drop, ℕ, zero, suc, ◌+◌, ◌≤◌}
use Rattle.std.proofs.Math.Seq.{take-suc}
use Rattle.whole.specs.Words.{tab}

pub cut_tab : {A : Type 0} (z : A) (a n : ℕ) (e : List A) → a + n ≤ length e → take n (drop a e) ≡ tab (λ j. get_or e (a + j) z) n
unfolding tab
cut_tab z a zero e h = refl
cut_tab {A} z a (suc n) e h =
    take-suc (drop a e) n z (omega (arith, length-drop a e))
    ∙ ap₂ (λ (xs : List A) (x : A). xs ++ x ∷ []) (cut_tab z a n e (omega arith)) (get_or-drop a e n z)
