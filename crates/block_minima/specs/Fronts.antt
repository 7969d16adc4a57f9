-- The first few of a list: what is left of them at a place, one turn of a sum over it, and the size rule's bounds.
-- Assumes nothing.
use Rattle.std.specs.Prelude.{◌≡◌, cond, List, [], ◌∷◌, map, ℕ, suc, ◌+◌, ◌/◌, ◌<◌, ◌≤◌, length, get_or, take, drop, ℤ, pos, ◌+ℤ◌}
use Rattle.std.proofs.Common.{ap, ◌∙◌, arith, add-one, drop-cons, drop_of_length-le, length-take, length-take-le, length-drop, get_or-take}
use Rattle.whole.specs.Parts.{∣◌∣}
use Rattle.whole.specs.Words.{odd, chosen}
use Rattle.rules.specs.Graph.{Graph, lin, row}
use Rattle.rules.specs.Size.{Within}
use Rattle.rules.specs.SmallBlock.{inner}
use Rattle.size_laws.specs.SumSizes.{chosen_edges, chosen_part, inner_size, inner_part}
use Rattle.block_minima.specs.Turns as by

module _ (list : List ℕ) (count : ℕ) (fits : count ≤ length list) where
  pub listed_length : length (take count list) ≡ count
  listed_length = length-take-le count list fits

  pub next_of : (q : ℕ) → q < count → drop q (take count list) ≡ get_or list q 0 ∷ drop (q + 1) (take count list)
  next_of q l = rw add-one (drop-cons (take count list) q 0 (omega (arith, listed_length)) ∙ ap (λ (x : ℕ). x ∷ drop (suc q) (take count list)) (get_or-take count list q 0 l))

  pub none_left : (q : ℕ) → q ≡ count → drop q (take count list) ≡ []
  none_left q e = let l : length (take count list) ≤ q = omega (arith, listed_length) in drop_of_length-le (take count list) l

  pub chosen_turn : (E : ℕ → ℤ) (q rest : ℕ) (s t : ℤ) → q < count → s +ℤ chosen (map E (drop q (take count list))) rest ≡ t
      → (s +ℤ cond (odd rest) (E (get_or list q 0)) (pos 0)) +ℤ chosen (map E (drop (q + 1) (take count list))) (rest / 2) ≡ t
  chosen_turn E q rest s t l h = by.chosen_turn (drop q (take count list)) rest s t E (get_or list q 0) (drop (q + 1) (take count list)) (next_of q l) h

  pub chosen_end : (E : ℕ → ℤ) (q rest : ℕ) (s t : ℤ) → q ≡ count → s +ℤ chosen (map E (drop q (take count list))) rest ≡ t → s ≡ t
  chosen_end E q rest s t e h = by.chosen_end (drop q (take count list)) rest s t E (none_left q e) h

  pub inner_turn : (g : Graph) (out : List ℕ) (f p rest : ℕ) (s t : ℤ) → p < count → s +ℤ inner g out f (drop p (take count list)) rest ≡ t
      → (s +ℤ cond (odd rest) (lin g (get_or list p 0) +ℤ chosen (row g (get_or list p 0) out) f +ℤ chosen (row g (get_or list p 0) (drop (p + 1) (take count list))) (rest / 2)) (pos 0))
      +ℤ inner g out f (drop (p + 1) (take count list)) (rest / 2) ≡ t
  inner_turn g out f p rest s t l h = by.inner_turn (drop p (take count list)) rest s t g out f (get_or list p 0) (drop (p + 1) (take count list)) (next_of p l) h

  pub inner_end : (g : Graph) (out : List ℕ) (f p rest : ℕ) (s t : ℤ) → p ≡ count → s +ℤ inner g out f (drop p (take count list)) rest ≡ t → s ≡ t
  inner_end g out f p rest s t e h = by.inner_end (drop p (take count list)) rest s t g out f (none_left p e) h

-- the bounds of each sum whole and on the way
module _ (g : Graph) (v : Within g) (list : List ℕ) {count : ℕ} (few : count ≤ 8) where
  left_few : (q : ℕ) → length (drop q (take count list)) ≤ 8
  left_few q = omega (arith, length-drop q (take count list), length-take count list, few)

  pub pull_size : (i q m : ℕ) → ∣ chosen (row g i (drop q (take count list))) m ∣ ≤ 17592186044416
  pull_size i q m = omega (arith, chosen_edges g v i (drop q (take count list)) m, left_few q)

  pub pull_part : (i p q m r : ℕ) (s : ℤ) → s +ℤ chosen (row g i (drop q (take count list))) r ≡ chosen (row g i (drop p (take count list))) m → ∣ s ∣ ≤ 35184372088832
  pull_part i p q m r s e = omega (arith, chosen_part g v i (drop p (take count list)) (drop q (take count list)) m r s e, left_few p, left_few q)

  module _ (out : List ℕ) {width : ℕ} (narrow : width ≤ 2) where
    out_few : length (take width out) ≤ 2
    out_few = omega (arith, length-take width out, narrow)

    pub cost_size : (f m : ℕ) → ∣ inner g (take width out) f (take count list) m ∣ ≤ 184717953466368
    cost_size f m = inner_size g v (take width out) (take count list) f m out_few (left_few 0)

    pub cost_part : (f p m r : ℕ) (s : ℤ) → s +ℤ inner g (take width out) f (drop p (take count list)) r ≡ inner g (take width out) f (take count list) m → ∣ s ∣ ≤ 369435906932736
    cost_part f p m r s e = inner_part g v (take width out) (take count list) (drop p (take count list)) f m r s out_few (left_few 0) (left_few p) e
