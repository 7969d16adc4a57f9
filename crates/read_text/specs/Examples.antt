-- The definition of the input held against texts that look right, each with its number; and against one that looks wrong.
-- Assumes nothing.
use Rattle.std.specs.Prelude.{◌≡◌, refl, List, [], ◌∷◌, map, ℕ, pos, negsuc}
use Rattle.rules.specs.Bytes.{bytes}
use Rattle.rules.specs.Objective.{objective}
use Rattle.rules.specs.ReadText.{refused, given, digits, number, weight, more, empty, line, head, terms, last, after_fixings, after_weights, after_head, input}

pub record Refusal : Type 0 where
  pub text : List ℕ
  pub number : ℕ

abbrev no : ℕ → List ℕ → Refusal
no k t = record { text = t; number = k }

abbrev pub examples : List Refusal
examples =
    -- a line is missing, or one too many
    no 13 (bytes "")
    ∷ no 13 (bytes "0 0 0 0")
    ∷ no 13 (bytes "0 0 0 0\n\n")
    ∷ no 13 (bytes "0 0 0 0\n\n\n0")
    -- the order: n before the terms, the terms before the rest
    ∷ no 1 (bytes "65 0 0 9999\n")
    ∷ no 13 (bytes "64 0 0 1025\n")
    ∷ no 13 (bytes "65 0 0 x\n")
    -- a number outside its type
    ∷ no 13 (bytes "4294967296 0 0 0\n\n\n")
    ∷ no 13 (bytes "1 0 0 0\n1\n256\n")
    ∷ no 13 (bytes "1 0 0 0\n9223372036854775808\n2\n")
    ∷ no 13 (bytes "1 0 0 0\n-9223372036854775809\n2\n")
    -- a minus may stand only before a weight, a plus nowhere
    ∷ no 13 (bytes "1 0 0 0\n1\n-0\n")
    ∷ no 13 (bytes "2 0 0 1\n0 0\n2 2\n-0 1 5\n")
    ∷ no 13 (bytes "1 0 0 0\n+1\n2\n")
    -- one space between, a newline at the end
    ∷ no 13 (bytes "1 0 0 0\n 1\n2\n")
    ∷ no 13 (bytes "1 0 0 0\n1 \n2\n")
    ∷ no 13 (bytes "1  0 0 0\n1\n2\n")
    ∷ no 13 (bytes "1 0 0 0\r\n1\n2\n")
    ∷ []

pub refusals : map (λ e. input e.text) examples ≡ map (λ e. refused e.number) examples
unfolding digits number weight more empty line head terms last after_fixings after_weights after_head input
refusals = refl

-- leading zeros, −0, the least weight, a fixing byte of 255
pub read_odd : input (bytes "0002 0 0000000000000000004294967295 0\n-0 -9223372036854775808\n255 000000000000000000000\n") ≡ given (objective 2 (pos 0 ∷ negsuc 9223372036854775807 ∷ []) [] [] [] (255 ∷ 0 ∷ []) 0 4294967295)
unfolding digits number weight more empty line head terms last after_fixings after_weights after_head input
read_odd = refl
