-- 01, "The record block": its bytes, its check, when a body is broken, reading and writing.
-- Assumes nothing.
use Rattle.std.specs.Prelude.{Bool, true, cond, not, ◌&&◌, ◌||◌, List, [], ◌∷◌, ◌++◌, map, ℕ, zero, suc, ◌+◌, ◌*◌, ◌-◌, ◌/◌, ◌%◌, ◌^◌, ltb, leb, eqb, length, get_or, take, drop, replicate, ℤ, pos, negsuc, nat_abs}
use Rattle.whole.specs.Words.{from, upto, mem, all, all_of}
use Rattle.rules.specs.Eliminate as rule
use Rattle.rules.specs.declared.Step.{Step}
use Rattle.rules.specs.declared.Record.{Record}

-- ---- a run's steps, as the record holds them
abbrev pub no_step : Step
no_step = record { decision = 0; degree = 0; first = 0; second = 0; third = 0; choices = 0 }

-- "unused bytes and bits zero"
abbrev pub hold : rule.Step → Step
hold s = record {
  decision = s.decision;
  degree = length s.near;
  first = get_or s.near 0 0;
  second = get_or s.near 1 0;
  third = get_or s.near 2 0;
  choices = s.choices;
}

unfoldable pub hold_all : List rule.Step → List Step
hold_all steps = map hold steps ++ replicate (64 - length steps) no_step

abbrev pub record_of : ℕ → ℤ → List ℕ → List rule.Step → Record
record_of n c states steps = record { n = n; count = length steps; constant = c; states = states; steps = hold_all steps }

abbrev pub no_record : Record
no_record = record { n = 0; count = 0; constant = pos 0; states = replicate 64 0; steps = replicate 64 no_step }

-- and back: the neighbours that count are the first d
abbrev pub near_of : Step → List ℕ
near_of s = take s.degree (s.first ∷ s.second ∷ s.third ∷ [])

abbrev pub played : Step → rule.Step
played s = rule.step s.decision (near_of s) s.choices

-- the steps of a record, the first first
unfoldable pub steps_of : Record → List rule.Step
steps_of r = map played (take r.count r.steps)

-- the states of its n decisions
unfoldable pub states_of : Record → List ℕ
states_of r = take r.n r.states

-- ---- bytes: "little-endian", "two's complement"
unfoldable pub little : ℕ → ℕ → List ℕ
little zero v = []
little (suc k) v = v % 256 ∷ little k (v / 256)

unfoldable pub from_little : List ℕ → ℕ
from_little [] = 0
from_little (b ∷ bs) = b + 256 * from_little bs

unfoldable pub twos : ℤ → ℕ
twos (pos a) = a
twos (negsuc a) = 2 ^ 64 - 1 - a

unfoldable pub from_twos : ℕ → ℤ
from_twos v = cond (ltb v (2 ^ 63)) (pos v) (negsuc (2 ^ 64 - 1 - v))

-- "64 steps of 6 bytes: decision, degree d, three neighbours, choices": the layout, written and read
abbrev pub step_bytes : Step → List ℕ
step_bytes s = s.decision ∷ s.degree ∷ s.first ∷ s.second ∷ s.third ∷ s.choices ∷ []

abbrev pub step_in : List ℕ → ℕ → Step
step_in b at = record {
  decision = get_or b at 0;
  degree = get_or b (at + 1) 0;
  first = get_or b (at + 2) 0;
  second = get_or b (at + 3) 0;
  third = get_or b (at + 4) 0;
  choices = get_or b (at + 5) 0;
}

unfoldable pub steps_bytes : List Step → List ℕ
steps_bytes [] = []
steps_bytes (s ∷ ss) = step_bytes s ++ steps_bytes ss

-- "0: edition, 3."
abbrev pub edition : ℕ
edition = 3

-- "1: n. 2: number of steps. 3: zero. 4–11: constant ... 12–75: a state for each decision ... 76–459: 64 steps ... 460–507: zero."
unfoldable pub body : Record → List ℕ
body r =
    edition ∷ r.n ∷ r.count ∷ 0 ∷ little 8 (twos r.constant) ++ r.states ++ steps_bytes r.steps ++ replicate 48 0

unfoldable pub record_in : List ℕ → Record
record_in b = record {
  n = get_or b 1 0;
  count = get_or b 2 0;
  constant = from_twos (from_little (take 8 (drop 4 b)));
  states = take 64 (drop 12 b);
  steps = map (λ k. step_in b (76 + 6 * k)) (upto 64);
}

-- ---- the check: "s1 and s2, 16-bit sums that wrap"
pub record Sums : Type 0 where
  pub s1 : ℕ
  pub s2 : ℕ

-- "for each of the first 508 bytes s1 gains the byte, then s2 gains s1"
abbrev pub gain : Sums → ℕ → Sums
gain s b = let s1 : ℕ = (s.s1 + b) % 2 ^ 16 in record { s1 = s1; s2 = (s.s2 + s1) % 2 ^ 16 }

unfoldable pub sums : Sums → List ℕ → Sums
sums s [] = s
sums s (b ∷ bs) = sums (gain s b) bs

-- "s1 starts at 1, s2 at 0"
unfoldable pub check : List ℕ → Sums
check bs = sums (record { s1 = 1; s2 = 0 }) bs

-- "508–509 and 510–511: the check"
unfoldable pub sealed : List ℕ → List ℕ
sealed bs = bs ++ little 2 (check bs).s1 ++ little 2 (check bs).s2

unfoldable pub check_right : List ℕ → Bool
check_right b =
    eqb (from_little (take 2 (drop 508 b))) (check (take 508 b)).s1 && eqb (from_little (take 2 (drop 510 b))) (check (take 508 b)).s2

-- the block that a record is written as
unfoldable pub block_of : Record → List ℕ
block_of r = sealed (body r)

-- ---- "A body is broken unless"
abbrev pub is_none : Step → Bool
is_none s = all (λ b. eqb b 0) (step_bytes s)

abbrev pub state_at : Record → ℕ → ℕ
state_at r i = get_or r.states i 0

abbrev pub step_at : Record → ℕ → Step
step_at r k = get_or r.steps k no_step

-- the decisions of the first k steps
abbrev pub decided : Record → ℕ → List ℕ
decided r k = map (λ j. (step_at r j).decision) (upto k)

-- "ascend strictly"
unfoldable pub ascending : List ℕ → Bool
ascending [] = true
ascending (x ∷ xs) = all (ltb x) xs && ascending xs

-- "are below n, aren't fixed, and aren't the decision of this or an earlier step"
abbrev pub near_fine : Record → ℕ → ℕ → Bool
near_fine r k j = ltb j r.n && leb 2 (state_at r j) && not (mem j (decided r (suc k)))

-- the choices byte of degree d is below this. A table, so that a bad degree is never a power
abbrev pub choice_limit : ℕ → ℕ
choice_limit d = cond (eqb d 0) 2 (cond (eqb d 1) 4 (cond (eqb d 2) 16 256))

-- step k: its decision has state 3 and no earlier step has it; "d is at most 3"; its neighbours; its unused bytes and bits
unfoldable pub step_fine : Record → ℕ → Bool
step_fine r k =
    let s : Step = step_at r k in
    all_of (
    ltb s.decision r.n
    ∷ eqb (state_at r s.decision) 3
    ∷ not (mem s.decision (decided r k))
    ∷ leb s.degree 3
    ∷ ascending (near_of s)
    ∷ all (near_fine r k) (near_of s)
    ∷ all (λ b. eqb b 0) (drop s.degree (s.first ∷ s.second ∷ s.third ∷ []))
    ∷ ltb s.choices (choice_limit s.degree)
    ∷ [])

-- a state-3 decision is some step's
abbrev pub stepped : Record → ℕ → Bool
stepped r i = not (eqb (state_at r i) 3) || mem i (decided r r.count)

-- "states are 0 to 3, n and steps are at most 64, the constant is within ±2^40, the state-3 decisions are exactly the steps' decisions, each once"
unfoldable pub sound : Record → Bool
sound r = all_of (
    leb r.n 64
    ∷ leb r.count 64
    ∷ leb (nat_abs r.constant) 1099511627776
    ∷ all (λ i. leb (state_at r i) 3) (upto r.n)
    ∷ all (λ i. eqb (state_at r i) 0) (from r.n (64 - r.n))
    ∷ all (step_fine r) (upto r.count)
    ∷ all (stepped r) (upto r.n)
    ∷ all (λ k. is_none (step_at r k)) (from r.count (64 - r.count))
    ∷ [])

-- a record passed in
abbrev pub broken : Record → Bool
broken r = not (sound r)

-- "every byte ... called zero above is zero": of a block's, those that no field holds
unfoldable pub zeros_in : List ℕ → Bool
zeros_in b = all (λ k. eqb (get_or b k 0) 0) (3 ∷ from 460 48)

-- a block read
abbrev pub body_broken : List ℕ → Bool
body_broken b = not (zeros_in b && sound (record_in b))
