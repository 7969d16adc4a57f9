-- Stores one after the other, as loops make them: `sets l i vs` is l with vs from place i on.
-- Assumes nothing.
use Rattle.std.specs.Prelude.{◌≡◌, List, [], ◌∷◌, ◌++◌, ℕ, suc, ◌+◌, ◌<◌, ◌≤◌, length, get_or, take, drop, set}
use Rattle.std.proofs.Common.{sym, ap, ◌∙◌, arith, add-zero, add-one, length-append, drop-cons, take_at, take-suc, take-suc-set, length-take-le}
use Rattle.std.proofs.lemmas.List.Edits.{sets, sets-eq}
use Rattle.std.proofs.lemmas.List.{set_at}
use Rattle.std.proofs.Math.Seq.{append_snoc}
use Rattle.whole.specs.Counts.{shift}

module _ {A : Type 0} where
  pub sets_append : (xs : List A) (l : List A) (i : ℕ) (ys : List A) → sets l i (xs ++ ys) ≡ sets (sets l i xs) (i + length xs) ys
  sets_append [] l i ys = rw add-zero
  sets_append (x ∷ xs) l i ys = sets_append xs (set l i x) (suc i) ys ∙ ap (λ (k : ℕ). sets (sets (set l i x) (suc i) xs) k ys) (shift i (length xs))

  -- one more at the end of a front part
  pub front_more : (l : List A) (n : ℕ) (v : A) → n < length l → take (n + 1) (set l n v) ≡ take n l ++ v ∷ []
  front_more l n v h = rw (add-one, take-suc-set l n v h)

  pub store_more : (l : List A) (m : ℕ) (v : A) (ys : List A) → m < length l → take (m + 1) (set l m v) ++ ys ≡ take m l ++ v ∷ ys
  store_more l m v ys h = ap (λ (t : List A). t ++ ys) (front_more l m v h) ∙ append_snoc (take m l) v ys

  -- a turn of a loop that makes the front of l the front of m
  pub fill_next : (l m : List A) (k : ℕ) (v d : A) → k < length l → k < length m → take k l ≡ take k m → v ≡ get_or m k d → take (k + 1) (set l k v) ≡ take (k + 1) m
  fill_next l m k v d h g e w = rw (front_more l k v h, add-one, take-suc m k d g, e, w)

  -- and of one that copies w over the front of o₀
  pub copy_next : (w o₀ o : List A) (k : ℕ) (v d : A) → k < length w → k < length o₀ → o ≡ take k w ++ drop k o₀ → v ≡ get_or w k d → set o k v ≡ take (k + 1) w ++ drop (k + 1) o₀
  copy_next w o₀ o k v d h m e f =
      rw (add-one, take-suc w k d h, e, f, drop-cons o₀ k d m)
      (set_at (take k w) _ (drop (suc k) o₀) (get_or w k d) k (length-take-le k w (omega arith)) ∙ sym (append_snoc (take k w) (get_or w k d) (drop (suc k) o₀)))

  -- the front, as far as the stores went
  pub sets_front : (vs l : List A) (i : ℕ) → i + length vs ≤ length l → take (i + length vs) (sets l i vs) ≡ take i l ++ vs
  sets_front vs l i h =
      let long : length (take i l ++ vs) ≡ i + length vs = length-append (take i l) vs ∙ ap (λ (n : ℕ). n + length vs) (length-take-le i l (omega arith)) in
      ap (take (i + length vs)) (sets-eq vs l i h) ∙ take_at (take i l ++ vs) (drop (i + length vs) l) (i + length vs) long
