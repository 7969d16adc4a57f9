-- 01, "The program reads": its input text. A text is the list of its bytes.
-- Each reader takes what is left of the text, and gives what it read and what is then left, or `bad`: the text is malformed.
-- Assumes nothing.
use Rattle.std.specs.Prelude.{Bool, cond, ◌&&◌, List, [], ◌∷◌, ◌++◌, ℕ, zero, suc, ◌+◌, ◌*◌, ◌-◌, ◌^◌, ltb, leb, eqb, length, ℤ, pos, neg_ℤ}
use Rattle.rules.specs.Objective.{Objective, objective}

pub data Read (A : Type 0) : Type 0 where
  got : A → List ℕ → Read A
  bad : Read A

-- read on after a reading
abbrev pub then : {A B : Type 0} → Read A → (A → List ℕ → Read B) → Read B
then (got a s) f = f a s
then bad f = bad

-- a reading's value turned into another
abbrev pub turned : {A B : Type 0} → (A → B) → Read A → Read B
turned f (got a s) = got (f a) s
turned f bad = bad

-- the bytes with a meaning
abbrev pub newline : ℕ
newline = 10

abbrev pub space : ℕ
space = 32

abbrev pub minus : ℕ
minus = 45

-- '0' to '9'
abbrev pub digit : ℕ → Bool
digit b = leb 48 b && leb b 57

-- the digits at the front, after digits of the value v: the value of them all
unfoldable pub digits : ℕ → List ℕ → Read ℕ
digits v [] = got v []
digits v (b ∷ s) = cond (digit b) (digits (10 * v + (b - 48)) s) (got v (b ∷ s))

-- "a number outside its type is malformed": the value is at most max, and the byte `end` follows
abbrev pub closed : ℕ → ℕ → Read ℕ → Read ℕ
closed max end (got v []) = bad
closed max end (got v (b ∷ s)) = cond (leb v max && eqb b end) (got v s) bad
closed max end bad = bad

-- "Numbers are decimal", "leading zeros ... are read as usual": one digit or more, and the byte `end` after it
unfoldable pub number : ℕ → ℕ → List ℕ → Read ℕ
number max end [] = bad
number max end (b ∷ s) = cond (digit b) (closed max end (digits (b - 48) s)) bad

-- "fixing bytes 8-bit, all other numbers unsigned 32-bit"
abbrev pub number32 : ℕ → List ℕ → Read ℕ
number32 end s = number (2 ^ 32 - 1) end s

abbrev pub number8 : ℕ → List ℕ → Read ℕ
number8 end s = number (2 ^ 8 - 1) end s

-- "Weights are signed 64-bit ... a minus may stand only before a weight"
unfoldable pub weight : ℕ → List ℕ → Read ℤ
weight end [] = bad
weight end (b ∷ s) = cond (eqb b minus)
    (turned (λ v. neg_ℤ (pos v)) (number (2 ^ 63) end s))
    (turned pos (number (2 ^ 63 - 1) end (b ∷ s)))

-- "with one space between; each line ends in a newline": what stands after a number of a line, with k more to come
abbrev pub ender : ℕ → ℕ
ender zero = newline
ender (suc k) = space

-- a line of numbers of one kind, `one`: xs are read, and k are to come
unfoldable pub more : {A : Type 0} → (ℕ → List ℕ → Read A) → List A → ℕ → List ℕ → Read (List A)
more one xs zero s = got xs s
more one xs (suc k) s = then (one (ender k) s) (λ x r. more one (xs ++ (x ∷ [])) k r)

-- "at n 0 the two list lines are empty"
unfoldable pub empty : {A : Type 0} → List ℕ → Read (List A)
empty [] = bad
empty (b ∷ s) = cond (eqb b newline) (got [] s) bad

-- a line of n numbers
unfoldable pub line : {A : Type 0} → (ℕ → List ℕ → Read A) → ℕ → List ℕ → Read (List A)
line one zero s = empty s
line one (suc k) s = more one [] (suc k) s

-- "`n switches budget terms`"
pub record Head : Type 0 where
  pub n : ℕ
  pub switches : ℕ
  pub budget : ℕ
  pub terms : ℕ

unfoldable pub head : List ℕ → Read Head
head s =
    then (number32 space s) (λ n s.
    then (number32 space s) (λ sw s.
    then (number32 space s) (λ b s.
    then (number32 newline s) (λ k s.
    got (record { n = n; switches = sw; budget = b; terms = k }) s))))

-- the terms, as three lists: i, j and w of each
pub record Terms : Type 0 where
  pub is : List ℕ
  pub js : List ℕ
  pub ws : List ℤ

-- "one line per term": k lines `i j w`, after those that are read
unfoldable pub terms : List ℕ → List ℕ → List ℤ → ℕ → List ℕ → Read Terms
terms is js ws zero s = got (record { is = is; js = js; ws = ws }) s
terms is js ws (suc k) s =
    then (number32 space s) (λ i s.
    then (number32 space s) (λ j s.
    then (weight newline s) (λ w s.
    terms (is ++ (i ∷ [])) (js ++ (j ∷ [])) (ws ++ (w ∷ [])) k s)))

-- what a text gives, or the number of its refusal
pub data Input : Type 0 where
  refused : ℕ → Input
  given : Objective → Input

abbrev pub objective_of : Head → List ℤ → List ℕ → Terms → Objective
objective_of h ws fs ts = objective h.n ws ts.is ts.js ts.ws fs h.switches h.budget

-- "anything after the last line is malformed"
unfoldable pub last : Head → List ℤ → List ℕ → Read Terms → Input
last h ws fs bad = refused 13
last h ws fs (got ts []) = given (objective_of h ws fs ts)
last h ws fs (got ts (b ∷ s)) = refused 13

-- "then a line of n weights, a line of n fixing bytes, and one line per term"
unfoldable pub after_fixings : Head → List ℤ → Read (List ℕ) → Input
after_fixings h ws bad = refused 13
after_fixings h ws (got fs s) = last h ws fs (terms [] [] [] h.terms s)

unfoldable pub after_weights : Head → Read (List ℤ) → Input
after_weights h bad = refused 13
after_weights h (got ws s) = after_fixings h ws (line number8 h.n s)

-- "Order: 13 for size or a bad first line, 1, 13 for terms, 13 for the rest, then the table."
unfoldable pub after_head : Read Head → Input
after_head bad = refused 13
after_head (got h s) =
    cond (ltb 64 h.n) (refused 1)
    (cond (ltb 1024 h.terms) (refused 13)
    (after_weights h (line weight h.n s)))

unfoldable pub input : List ℕ → Input
input t = cond (ltb 32768 (length t)) (refused 13) (after_head (head t))
