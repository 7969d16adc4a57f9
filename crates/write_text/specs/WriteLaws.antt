-- What the writers' definitions say, as a writer's code meets it.
-- Assumes nothing.
use Rattle.std.specs.Prelude.{◌≡◌, refl, Bool, true, false, List, [], ◌∷◌, ◌++◌, ℕ, zero, suc, ◌+◌, ◌-◌, ◌/◌, ◌%◌, ◌^◌, ◌<◌, ◌≤◌, bit_and, length, get_or, take, drop, ℤ, pos}
use Rattle.std.proofs.Common.{ap, sym, subst, append_assoc, add-one, arith, length-append, drop_of_length-le, drop-cons, pow-suc, sub-eq-zero_of_le}
use Rattle.std.proofs.Math.Nat.{div-div-eq-div-mul}
use Rattle.std.proofs.lemmas.Nat.{and_mask}
use Rattle.whole.specs.Words.{is_zero_z, those, from}
use Rattle.whole.specs.Counts.{one_left}
use Rattle.whole.specs.Those.{rest_more, rest_end}
use Rattle.whole.specs.Cmp.{zero_of}
use Rattle.whole.specs.Tests.{refuse}
use Rattle.rules.specs.Eliminate.{Step}
use Rattle.rules.specs.Outcome.{Outcome}
use Rattle.decimal.specs.Puts.{Begins}
use Rattle.write_text.specs.Outcomes.{opening, closing}
use Rattle.rules.specs.Bytes.{bytes}
use Rattle.rules.specs.WriteText.{shown, shown_z, listed, listed_z, edge_if, edge_line, edge_lines, choices_of, step_line, step_lines, yes_no, written}

-- how long an edge's line is, and a step's, and a result's text before its edges and after its steps
abbrev pub edge_size : ℕ → ℕ → ℤ → ℕ
edge_size i j w = 5 + length (shown i) + 1 + length (shown j) + 1 + length (shown_z w) + 1

abbrev pub step_size : Step → ℕ
step_size s = 5 + length (shown s.decision) + 2 + length (listed s.near) + 2 + length (listed (choices_of (2 ^ length s.near) s.choices)) + 1

abbrev pub opening_size : ℤ → List ℕ → List ℤ → ℕ
opening_size c r l = 9 + length (shown_z c) + 10 + length (listed r) + 7 + length (listed_z l) + 1

abbrev pub closing_size : ℕ → Bool → ℕ
closing_size u b = 6 + length (shown u) + 10 + length (yes_no b)

pub edge_length : (i j : ℕ) (w : ℤ) → length (edge_if true i j w) ≡ edge_size i j w
edge_length i j w = simp length-append (omega arith)

-- a step's line by its labels
label : (a b c d e f n : List ℕ) → a ++ b ++ c ++ d ++ e ++ f ++ n ≡ (a ++ b) ++ (c ++ d) ++ (e ++ f) ++ n
label a b c d e f n = simp append_assoc

pub step_parts : (s : Step) → step_line s ≡ (bytes "step " ++ shown s.decision) ++ (bytes " :" ++ listed s.near) ++ (bytes " :" ++ listed (choices_of (2 ^ length s.near) s.choices)) ++ 10 ∷ []
unfolding step_line
step_parts s = label (bytes "step ") (shown s.decision) (bytes " :") (listed s.near) (bytes " :") (listed (choices_of (2 ^ length s.near) s.choices)) (10 ∷ [])

pub step_length : (s : Step) → length (step_line s) ≡ step_size s
unfolding step_line
step_length s = simp length-append (omega arith)

pub opening_length : (c : ℤ) (r : List ℕ) (l : List ℤ) → length (opening c r l) ≡ opening_size c r l
unfolding opening
opening_length c r l = simp length-append (omega arith)

pub closing_length : (u : ℕ) (b : Bool) → length (closing u b) ≡ closing_size u b
unfolding closing
closing_length u b = simp length-append (omega arith)

pub zero_no : (w : ℤ) → (w ≡ pos 0 → ⊥) → is_zero_z w ≡ false
zero_no w h = refuse (is_zero_z w) (λ t. h (zero_of w t))

-- each element after one space, by its text
unfoldable pub listed_by : {A : Type 0} → (A → List ℕ) → List A → List ℕ
listed_by f [] = []
listed_by f (x ∷ xs) = 32 ∷ f x ++ listed_by f xs

pub listed_plain : (xs : List ℕ) → listed_by shown xs ≡ listed xs
unfolding listed_by listed
listed_plain [] = refl
listed_plain (x ∷ xs) = rw (listed_plain xs)

pub listed_signed : (ws : List ℤ) → listed_by shown_z ws ≡ listed_z ws
unfolding listed_by listed_z
listed_signed [] = refl
listed_signed (w ∷ ws) = rw (listed_signed ws)

pub listed_by_left : {A : Type 0} (f : A → List ℕ) (xs : List A) (d : A) (j : ℕ) → j < length xs → Begins (listed_by f (drop j xs)) (32 ∷ f (get_or xs j d)) (listed_by f (drop (j + 1) xs))
unfolding listed_by
listed_by_left f xs d j h = record { parts = rw (drop-cons xs j d h, add-one) }

-- x is the element at j, as a loop over the list has it
pub listed_by_item : {A : Type 0} (f : A → List ℕ) (xs : List A) (j : ℕ) (x : A) → j < length xs → x ≡ get_or xs j x → Begins (listed_by f (drop j xs)) (32 ∷ f x) (listed_by f (drop (j + 1) xs))
listed_by_item f xs j x h e = subst (λ y. Begins (listed_by f (drop j xs)) (32 ∷ f y) (listed_by f (drop (j + 1) xs))) (sym e) (listed_by_left f xs x j h)

pub listed_by_none : {A : Type 0} (f : A → List ℕ) (xs : List A) (j : ℕ) → length xs ≤ j → listed_by f (drop j xs) ≡ []
unfolding listed_by
listed_by_none f xs j h = rw (drop_of_length-le xs h)

-- what is left of a list at the place j
pub listed_left : (xs : List ℕ) (j : ℕ) → j < length xs → Begins (listed (drop j xs)) (32 ∷ shown (get_or xs j 0)) (listed (drop (j + 1) xs))
unfolding listed
listed_left xs j h = record { parts = rw (drop-cons xs j 0 h, add-one) }

pub listed_none : (xs : List ℕ) (j : ℕ) → length xs ≤ j → listed (drop j xs) ≡ []
unfolding listed
listed_none xs j h = rw (drop_of_length-le xs h)

pub edges_left : (es : List ℤ) (k : ℕ) → k < length es → Begins (edge_lines k (drop k es)) (edge_line k (get_or es k (pos 0))) (edge_lines (k + 1) (drop (k + 1) es))
unfolding edge_lines
edges_left es k h = record { parts = rw (drop-cons es k (pos 0) h, add-one) }

pub edges_none : (es : List ℤ) (k : ℕ) → length es ≤ k → edge_lines k (drop k es) ≡ []
unfolding edge_lines
edges_none es k h = rw (drop_of_length-le es h)

pub listed_z_left : (ws : List ℤ) (j : ℕ) → j < length ws → Begins (listed_z (drop j ws)) (32 ∷ shown_z (get_or ws j (pos 0))) (listed_z (drop (j + 1) ws))
unfolding listed_z
listed_z_left ws j h = record { parts = rw (drop-cons ws j (pos 0) h, add-one) }

pub listed_z_none : (ws : List ℤ) (j : ℕ) → length ws ≤ j → listed_z (drop j ws) ≡ []
unfolding listed_z
listed_z_none ws j h = rw (drop_of_length-le ws h)

pub choices_length : (k m : ℕ) → k ≡ length (choices_of k m)
unfolding choices_of
choices_length zero m = refl
choices_length (suc k) m = ap suc (choices_length k (m / 2))

-- the first k of more choices; of a byte's eight
choices_first : (k n m : ℕ) → k ≤ n → take k (choices_of n m) ≡ choices_of k m
unfolding choices_of
choices_first zero n m h = refl
choices_first (suc k) zero m h = absurd (omega arith)
choices_first (suc k) (suc n) m h = ap (λ (t : List ℕ). m % 2 ∷ t) (choices_first k n (m / 2) (omega arith))

pub byte_first : (k m : ℕ) → k ≤ 8 → take k (m % 2 ∷ m / 2 % 2 ∷ m / 2 / 2 % 2 ∷ m / 2 / 2 / 2 % 2 ∷ m / 2 / 2 / 2 / 2 % 2 ∷ m / 2 / 2 / 2 / 2 / 2 % 2 ∷ m / 2 / 2 / 2 / 2 / 2 / 2 % 2 ∷ m / 2 / 2 / 2 / 2 / 2 / 2 / 2 % 2 ∷ []) ≡ choices_of k m
unfolding choices_of
byte_first k m h = choices_first k 8 m h

-- what is left of k choices at the place i
pub choices_left : (k m i : ℕ) → i < k → Begins (listed (choices_of (k - i) (m / 2 ^ i))) (32 ∷ shown (bit_and (m / 2 ^ i) 1)) (listed (choices_of (k - (i + 1)) (m / 2 ^ (i + 1))))
unfolding listed choices_of
choices_left k m i h =
    let e : m / 2 ^ i / 2 ≡ m / 2 ^ (i + 1) = rw (add-one, pow-suc, div-div-eq-div-mul) in
    record { parts = rw (one_left k i h, and_mask (m / 2 ^ i) 1, e) }

pub choices_none : (k m i : ℕ) → k ≤ i → listed (choices_of (k - i) (m / 2 ^ i)) ≡ []
unfolding listed choices_of
choices_none k m i h = rw (sub-eq-zero_of_le h)

-- and of the decisions that pass a test, those from i on
module _ (p : ℕ → Bool) (n i : ℕ) where
  pub those_left : i < n → p i ≡ true → Begins (listed (those p (from i (n - i)))) (32 ∷ shown i) (listed (those p (from (i + 1) (n - (i + 1)))))
  unfolding listed
  those_left h e = record { parts = rw (rest_more p n i h e) }

  pub those_none : n ≤ i → listed (those p (from i (n - i))) ≡ []
  unfolding listed
  those_none h = rw (rest_end p n i h)

pub steps_left : (ss : List Step) (d : Step) (j : ℕ) → j < length ss → Begins (step_lines (drop j ss)) (step_line (get_or ss j d)) (step_lines (drop (j + 1) ss))
unfolding step_lines
steps_left ss d j h = record { parts = rw (drop-cons ss j d h, add-one) }

pub steps_none : (ss : List Step) (j : ℕ) → length ss ≤ j → step_lines (drop j ss) ≡ []
unfolding step_lines
steps_none ss j h = rw (drop_of_length-le ss h)

-- a result in four parts
regroup : (a b c d e f n g s u v w y : List ℕ) → a ++ b ++ c ++ d ++ e ++ f ++ (n ++ g) ++ s ++ u ++ v ++ w ++ y ≡ ((a ++ b) ++ (c ++ d) ++ (e ++ f) ++ n) ++ g ++ s ++ ((u ++ v) ++ (w ++ y))
regroup a b c d e f n g s u v w y = simp append_assoc

pub written_parts : (o : Outcome) → written o ≡ opening o.constant o.remaining (take (length o.remaining) o.linear) ++ edge_lines 0 o.edges ++ step_lines o.steps ++ closing o.units o.complete
unfolding written opening closing
written_parts o =
    regroup
    (bytes "constant ")
    (shown_z o.constant)
    (bytes "\nremaining")
    (listed o.remaining)
    (bytes "\nlinear")
    (listed_z (take (length o.remaining) o.linear))
    (10 ∷ [])
    (edge_lines 0 o.edges)
    (step_lines o.steps)
    (bytes "units ")
    (shown o.units)
    (bytes " complete ")
    (yes_no o.complete)
