-- One turn of each loop.
-- Assumes nothing.
use Rattle.std.specs.Prelude.{◌≡◌, Bool, cond, List, [], ◌∷◌, map, ℕ, ◌+◌, ◌-◌, ◌/◌, ◌≤◌, ℤ, pos, ◌+ℤ◌}
use Rattle.std.proofs.Math.Path.{refl}
use Rattle.std.proofs.Common.{sym, ap, ◌∙◌, add-one, sub-add_cancel, add-sub_cancel}
use Rattle.std.specs.Int.Signed.{lt_z}
use Rattle.whole.specs.Words.{odd, chosen}
use Rattle.whole.specs.Sum.{sum_next, sum_end}
use Rattle.rules.specs.Graph.{Graph, lin, row}
use Rattle.rules.specs.SmallBlock.{inner, cheapest}

-- one more summand of a sum over what is left, and none
sum_turn : (f : List ℕ → ℤ) (left : List ℕ) (x : ℕ) (later : List ℕ) (v z s t : ℤ) → left ≡ x ∷ later → f (x ∷ later) ≡ v +ℤ z → s +ℤ f left ≡ t → (s +ℤ v) +ℤ z ≡ t
sum_turn f left x later v z s t l e h = sum_next s (s +ℤ v) v (f left) z t refl (ap f l ∙ e) h

sum_over : (f : List ℕ → ℤ) (left : List ℕ) (s t : ℤ) → f [] ≡ pos 0 → left ≡ [] → s +ℤ f left ≡ t → s ≡ t
sum_over f left s t z e h = sum_end s (f left) t (ap f e ∙ z) h

module _ (left : List ℕ) (rest : ℕ) (s t : ℤ) where
  pub chosen_turn : (E : ℕ → ℤ) (x : ℕ) (later : List ℕ) → left ≡ x ∷ later → s +ℤ chosen (map E left) rest ≡ t → (s +ℤ cond (odd rest) (E x) (pos 0)) +ℤ chosen (map E later) (rest / 2) ≡ t
  unfolding chosen
  chosen_turn E x later l h = sum_turn (λ xs. chosen (map E xs) rest) left x later (cond (odd rest) (E x) (pos 0)) (chosen (map E later) (rest / 2)) s t l refl h

  pub chosen_end : (E : ℕ → ℤ) → left ≡ [] → s +ℤ chosen (map E left) rest ≡ t → s ≡ t
  unfolding chosen
  chosen_end E e h = sum_over (λ xs. chosen (map E xs) rest) left s t refl e h

  pub inner_turn : (g : Graph) (out : List ℕ) (f x : ℕ) (later : List ℕ) → left ≡ x ∷ later → s +ℤ inner g out f left rest ≡ t
      → (s +ℤ cond (odd rest) (lin g x +ℤ chosen (row g x out) f +ℤ chosen (row g x later) (rest / 2)) (pos 0)) +ℤ inner g out f later (rest / 2) ≡ t
  unfolding inner
  inner_turn g out f x later l h = sum_turn (λ xs. inner g out f xs rest) left x later _ (inner g out f later (rest / 2)) s t l refl h

  pub inner_end : (g : Graph) (out : List ℕ) (f : ℕ) → left ≡ [] → s +ℤ inner g out f left rest ≡ t → s ≡ t
  unfolding inner
  inner_end g out f e h = sum_over (λ xs. inner g out f xs rest) left s t refl e h

-- the cheapest of one mask more
pub cheapest_turn : (c : ℕ → ℤ) (m best : ℕ) (t : Bool) → best ≡ cheapest c m → lt_z (c (m + 1)) (c best) ≡ t → cheapest c (m + 1) ≡ cond t (m + 1) best
unfolding cheapest
cheapest_turn c m best t e h = rw (add-one, ← e, ← h, add-one)

-- the same where the loop's m is the mask to be looked at
pub cheapest_next : (c : ℕ → ℤ) (m best : ℕ) (t : Bool) → 1 ≤ m → best ≡ cheapest c (m - 1) → lt_z (c m) (c best) ≡ t → cheapest c (m + 1 - 1) ≡ cond t m best
cheapest_next c m best t l e h =
    ap (cheapest c) up ∙ cheapest_turn c (m - 1) best t e (ap (λ (k : ℕ). lt_z (c k) (c best)) down ∙ h) ∙ ap (λ (k : ℕ). cond t k best) down
  where
    down : m - 1 + 1 ≡ m
    down = sub-add_cancel l

    up : m + 1 - 1 ≡ m - 1 + 1
    up = add-sub_cancel m 1 ∙ sym down
