-- Parts of a block stored one after the other.
-- Assumes nothing.
use Rattle.std.proofs.Common.{◌≡◌, refl, sym, ap, ◌∙◌, ℕ, suc, ◌+◌, ◌*◌, ◌<◌, ◌≤◌, List, [], ◌∷◌, ◌++◌, length, get_or, take, take_at, drop, replicate, append_assoc, append-nil, add-one, arith, length-append, drop-cons, drop-drop, drop_of_length-le}
use lib.Seq.{sets, sets-eq, length-sets}
use borrow.Rule.Slice.PartMut.{put_mid}
use Rattle.whole.specs.Stores.{sets_append}
use Rattle.rules.specs.Record.{edition, no_step, step_bytes, steps_bytes, little, twos, body}
use Rattle.rules.specs.declared.Step.{Step}
use Rattle.rules.specs.declared.Record.{Record}
use Rattle.record_laws.specs.Bytes.{little_length}
use Rattle.record_laws.specs.Fields.{Held, steps_length}

module _ {A : Type 0} where
  -- a part that is copied in
  pub mid_sets : (a n : ℕ) (l x : List A) → length x ≡ n → a + n ≤ length l → put_mid a n l x ≡ sets l a x
  mid_sets a n l x e h =
      let f : a + n ≡ a + length x = omega arith in
      ap (λ (z : List A). take a l ++ (x ++ z)) (drop-drop n a l ∙ ap (λ (k : ℕ). drop k l) f)
      ∙ sym (sets-eq x l a (omega arith) ∙ append_assoc (take a l) x (drop (a + length x) l))

  -- one after the other, at a place that is known by an equation
  pub sets_on : (xs : List A) (l : List A) (i j : ℕ) (ys : List A) → i + length xs ≡ j → sets (sets l i xs) j ys ≡ sets l i (xs ++ ys)
  sets_on xs l i j ys e = sym (sets_append xs l i ys ∙ ap (λ (k : ℕ). sets (sets l i xs) k ys) e)

  -- what stands before, and what was stored up to the end
  pub sets_end : (vs l : List A) (i : ℕ) → i + length vs ≡ length l → sets l i vs ≡ take i l ++ vs
  sets_end vs l i e =
      let h : length l ≤ i + length vs = omega arith in
      sets-eq vs l i (omega arith) ∙ ap (λ (r : List A). take i l ++ vs ++ r) (drop_of_length-le l h)
      ∙ append-nil (take i l ++ vs)

-- one step of a loop that stores steps
pub steps_next : (l : List ℕ) (at k : ℕ) (ss : List Step) → k < length ss
    → sets l (at + 6 * k) (steps_bytes (drop k ss)) ≡ sets (sets l (at + 6 * k) (step_bytes (get_or ss k no_step))) (at + 6 * (k + 1)) (steps_bytes (drop (k + 1) ss))
unfolding steps_bytes
steps_next l at k ss h =
    let i = at + 6 * k in
    let s = get_or ss k no_step in
    let e : i + 6 ≡ at + 6 * (k + 1) = omega arith in
    ap (λ (r : List Step). sets l i (steps_bytes r)) (drop-cons ss k no_step h) ∙ sets_append (step_bytes s) l i (steps_bytes (drop (suc k) ss))
    ∙ rw (← add-one k) (ap (λ (j : ℕ). sets (sets l i (step_bytes s)) j (steps_bytes (drop (k + 1) ss))) e)

pub steps_over : (l : List ℕ) (i k : ℕ) (ss : List Step) → length ss ≤ k → sets l i (steps_bytes (drop k ss)) ≡ l
unfolding steps_bytes
steps_over l i k ss h = rw (drop_of_length-le ss h)

-- ---- a record's fields stored one after the other, the rest zero, are its body
abbrev pub head : Record → List ℕ
head r = edition ∷ r.n ∷ r.count ∷ 0 ∷ []

module _ (r : Record) (h : Held r) where
  pub put_all : (l a b c d : List ℕ) → length l ≡ 508 → drop 460 l ≡ replicate 48 0 → a ≡ sets l 0 (head r) → b ≡ sets a 4 (little 8 (twos r.constant))
      → c ≡ sets b 12 r.states → d ≡ sets c 76 (steps_bytes r.steps) → d ≡ body r
  unfolding body
  put_all l a b c d long zero ea eb ec ed =
      let v = little 8 (twos r.constant) in
      let xs = ((head r ++ v) ++ r.states) ++ steps_bytes r.steps in
      let lv : length v ≡ 8 = little_length 8 (twos r.constant) in
      let lp : length (steps_bytes r.steps) ≡ 384 = rw (steps_length r.steps, h.steps) refl in
      let ls = h.states in
      let n1 : 0 + length (head r ++ v) ≡ 12 = simp length-append (omega arith) in
      let n2 : 0 + length ((head r ++ v) ++ r.states) ≡ 76 = simp length-append (omega arith) in
      let n3 : 0 + length xs ≡ 460 = simp length-append (omega arith) in
      rw (ed, ec, eb, ea)
      (ap (λ (x : List ℕ). sets (sets x 12 r.states) 76 (steps_bytes r.steps)) (sets_on (head r) l 0 4 v refl)
      ∙ ap (λ (x : List ℕ). sets x 76 (steps_bytes r.steps)) (sets_on (head r ++ v) l 0 12 r.states n1)
      ∙ sets_on ((head r ++ v) ++ r.states) l 0 76 (steps_bytes r.steps) n2
      ∙ sets-eq xs l 0 (omega arith)
      ∙ ap (λ (k : ℕ). xs ++ drop k l) n3
      ∙ ap (λ (z : List ℕ). xs ++ z) zero)

  -- as the code stores them
  pub body_is : (x y d : List ℕ) → x ≡ little 8 (twos r.constant) → y ≡ r.states
      → d ≡ sets (put_mid 12 64 (put_mid 4 8 (head r ++ replicate 504 0) x) y) 76 (steps_bytes r.steps) → d ≡ body r
  body_is x y d ex ey ed =
      let a = head r ++ replicate 504 0 in
      let b = put_mid 4 8 a x in
      let lx : length x ≡ 8 = ap length ex ∙ little_length 8 (twos r.constant) in
      let ly : length y ≡ 64 = ap length ey ∙ h.states in
      let la : length a ≡ 508 = refl in
      let eb : b ≡ sets a 4 x = mid_sets 4 8 a x lx (omega arith) in
      let lb : length b ≡ 508 = ap length eb ∙ length-sets a 4 x ∙ la in
      put_all (replicate 508 0) a b (put_mid 12 64 b y) d refl refl refl (eb ∙ ap (sets a 4) ex) (mid_sets 12 64 b y ly (omega arith) ∙ ap (sets b 12) ey) ed

-- ---- and a body with the check after it is sealed
pub sealed_is : (b s t : List ℕ) → length b ≡ 508 → length (s ++ t) ≡ 4 → put_mid 508 4 (b ++ 0 ∷ 0 ∷ 0 ∷ 0 ∷ []) (s ++ t) ≡ b ++ s ++ t
sealed_is b s t lb ls =
    let l = b ++ 0 ∷ 0 ∷ 0 ∷ 0 ∷ [] in
    let ll : length l ≡ 512 = length-append b (0 ∷ 0 ∷ 0 ∷ 0 ∷ []) ∙ ap (λ (n : ℕ). n + 4) lb in
    mid_sets 508 4 l (s ++ t) ls (omega arith) ∙ sets_end (s ++ t) l 508 (omega arith) ∙ ap (λ (f : List ℕ). f ++ (s ++ t)) (take_at b (0 ∷ 0 ∷ 0 ∷ 0 ∷ []) 508 lb) ∙ sym (append_assoc b s t)
