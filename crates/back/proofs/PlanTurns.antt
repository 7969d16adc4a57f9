-- A turn of each loop over the states: a value put in, an entry taken out.
-- Assumes nothing.
use mathlib.Core.Path.{◌≡◌, ap, ap₂, sym, ◌∙◌}
use mathlib.Core.Bool.{Bool, cond}
use mathlib.Core.List.{List, [], ◌∷◌, ◌++◌, map, tail, append-nil}
use Prim.Native.Nat.{ℕ, suc, ◌+◌, ◌-◌, ◌<◌, ◌≤◌}
use native.Mathlib.Omega.{arith}
use native.Mathlib.Numerals.{add-one}
use native.Mathlib.Nat.{add-zero, sub-zero}
use lib.Dec.{eqb}
use lib.ListN.{length, get_or, set, take, drop, replicate, length-map, length-set, drop_of_length-le}
use lib.Seq.{drop-cons, get_or-drop, drop-set-lt, take-add, length-take-le}
use borrow.Author.Tests.{eq-eqb, ne_eqb}
use Rattle.whole.specs.Words.{from, those}
use Rattle.whole.specs.Those.{rest_more, rest_same, rest_end}
use Rattle.rules.specs.Back.{place, remaining_of, project}
use Rattle.whole.specs.Stores.{store_more}
use Rattle.back.proofs.ListLaws.{tail_drop, take_replicate}

-- what stands for a decision of state s before any step is played
abbrev pub put_in : ℕ → ℕ → ℕ
put_in s given = cond (eqb s 2) given (cond (eqb s 1) 1 0)

-- ---- putting in: at state i, and k entries of the answer used
place_at : (ss answer : List ℕ) (i k : ℕ) → i < length ss → place (drop i ss) (drop k answer) ≡ cond (eqb (get_or ss i 0) 2) (get_or answer k 0 ∷ place (drop (i + 1) ss) (drop (k + 1) answer)) (cond (eqb (get_or ss i 0) 1) 1 0 ∷ place (drop (i + 1) ss) (drop k answer))
unfolding place
place_at ss answer i k h = rw (add-one i, drop-cons ss i 0 h, tail_drop k answer, get_or-drop k answer 0 0, add-zero k)

module _ (ss answer plan all : List ℕ) (i k v : ℕ) (in-states : i < length ss) (in-plan : i < length plan) (is : v ≡ put_in (get_or ss i 0) (get_or answer k 0)) (so_far : take i plan ++ place (drop i ss) (drop k answer) ≡ all) where
  pub put_remaining : get_or ss i 0 ≡ 2 → take (i + 1) (set plan i v) ++ place (drop (i + 1) ss) (drop (k + 1) answer) ≡ all
  put_remaining e = store_more plan i v _ in-plan ∙ ap (λ (t : List ℕ). take i plan ++ t) here ∙ so_far
    where
      here : v ∷ place (drop (i + 1) ss) (drop (k + 1) answer) ≡ place (drop i ss) (drop k answer)
      here = rw (is, place_at ss answer i k in-states, eq-eqb (get_or ss i 0) 2 e)

  pub put_other : (get_or ss i 0 ≡ 2 → ⊥) → take (i + 1) (set plan i v) ++ place (drop (i + 1) ss) (drop k answer) ≡ all
  put_other e = store_more plan i v _ in-plan ∙ ap (λ (t : List ℕ). take i plan ++ t) here ∙ so_far
    where
      here : v ∷ place (drop (i + 1) ss) (drop k answer) ≡ place (drop i ss) (drop k answer)
      here = rw (is, place_at ss answer i k in-states, ne_eqb (get_or ss i 0) 2 e)

-- the whole plan is put in
pub put_all : (ss answer plan : List ℕ) (i k : ℕ) → length ss ≤ i → take i plan ++ place (drop i ss) (drop k answer) ≡ place ss answer → take i plan ≡ place ss answer
unfolding place
put_all ss answer plan i k h e = sym (append-nil (take i plan)) ∙ (rw (drop_of_length-le ss h) at e)

-- ---- the remaining decisions from i on
abbrev pub remains : List ℕ → ℕ → Bool
remains ss i = eqb (get_or ss i 0) 2

abbrev pub left : List ℕ → ℕ → List ℕ
left ss i = those (remains ss) (from i (length ss - i))

module _ (ss : List ℕ) (i : ℕ) (h : i < length ss) where
  pub left_more : get_or ss i 0 ≡ 2 → left ss i ≡ i ∷ left ss (i + 1)
  left_more e = rest_more (remains ss) (length ss) i h (eq-eqb _ 2 e)

  pub left_same : (get_or ss i 0 ≡ 2 → ⊥) → left ss i ≡ left ss (i + 1)
  left_same e = rest_same (remains ss) (length ss) i h (ne_eqb _ 2 e)

pub left_all : (ss : List ℕ) → left ss 0 ≡ remaining_of ss
unfolding remaining_of
left_all ss = rw sub-zero

pub left_none : (ss : List ℕ) (i : ℕ) → length ss ≤ i → left ss i ≡ []
left_none ss i h = rest_end (remains ss) (length ss) i h

-- ---- taking out: k entries are taken, and the rest of the output is zeros
abbrev pub entries : List ℕ → List ℕ → List ℕ
entries plan is = map (λ j. get_or plan j 0) is

pub record Taken (ss plan out : List ℕ) (k i : ℕ) : Type 0 where
  pub few : k ≤ i
  pub long : length out ≡ 64
  pub zeros : drop k out ≡ replicate (64 - k) 0
  pub so_far : take k out ++ entries plan (left ss i) ≡ entries plan (remaining_of ss)

module _ (ss plan out : List ℕ) (k i : ℕ) (t : Taken ss plan out k i) (small : length ss ≤ 64) where
  pub take_entry : i < length ss → get_or ss i 0 ≡ 2 → Taken ss plan (set out k (get_or plan i 0)) (k + 1) (i + 1)
  take_entry h e =
      let m : k < length out = omega (arith, t.few, t.long) in
      let d : 64 - k ≡ suc (64 - (k + 1)) = omega (arith, t.few) in
      record {
        few = omega (arith, t.few);
        long = length-set out k (get_or plan i 0) ∙ t.long;
        zeros = drop-set-lt (k + 1) out k (get_or plan i 0) (omega arith) ∙ sym (tail_drop k out) ∙ ap tail t.zeros ∙ ap (λ (c : ℕ). tail (replicate c 0)) d;
        so_far = store_more out k (get_or plan i 0) (entries plan (left ss (i + 1))) m ∙ ap (λ (is : List ℕ). take k out ++ entries plan is) (sym (left_more ss i h e)) ∙ t.so_far;
      }

  pub take_nothing : i < length ss → (get_or ss i 0 ≡ 2 → ⊥) → Taken ss plan out k (i + 1)
  take_nothing h e = record { few = omega (arith, t.few); long = t.long; zeros = t.zeros; so_far = rw (left_same ss i h e) at t.so_far }

  pub taken_all : length ss ≡ i → take i out ≡ project ss plan
  unfolding project
  taken_all e =
      let a : take k out ≡ entries plan (remaining_of ss) = sym (append-nil _) ∙ ap (λ (is : List ℕ). take k out ++ entries plan is) (sym (left_none ss i (omega arith))) ∙ t.so_far in
      let n : length (remaining_of ss) ≡ k = sym (length-map (remaining_of ss) (λ j. get_or plan j 0)) ∙ ap length (sym a) ∙ length-take-le k out (omega (arith, t.few, t.long)) in
      let d : i ≡ k + (i - k) = omega (arith, t.few) in
      let z : take (i - k) (drop k out) ≡ replicate (i - k) 0 = ap (take (i - k)) t.zeros ∙ take_replicate (i - k) (64 - k) 0 (omega arith) in
      ap (λ (c : ℕ). take c out) d ∙ take-add k (i - k) out ∙ ap₂ (λ (x y : List ℕ). x ++ y) a z ∙ ap₂ (λ (x y : ℕ). entries plan (remaining_of ss) ++ replicate (x - y) 0) (sym e) (sym n)
