-- What the caller of a reduction holds, as the outcome that it says; and the parts of its text.
-- Assumes nothing.
use Rattle.std.specs.Prelude.{◌≡◌, Bool, List, [], ◌∷◌, ◌++◌, ℕ, ◌≤◌, length, get_or, ℤ, Result, Ok, Err}
use Rattle.rules.specs.Bytes.{bytes}
use Rattle.rules.specs.Outcome.{Outcome}
use Rattle.rules.specs.Back.{remaining_of}
use Rattle.rules.specs.Record.{states_of, steps_of, no_step}
use Rattle.rules.specs.WriteText.{shown, shown_z, listed, listed_z, yes_no, written, written_refusal}
use Rattle.rules.specs.Numbers.{number_of}
use Rattle.rules.specs.declared.Record.{Record}
use Rattle.rules.specs.declared.Reduction.{Reduction}
use Rattle.rules.specs.declared.refusal.Refusal.{Refusal}

-- the outcome in a reduction and its two outputs
unfoldable pub outcome_in : Reduction → List ℤ → List ℤ → Outcome
outcome_in r linear edges = record {
  constant = r.«record».constant;
  remaining = remaining_of (states_of r.«record»);
  linear = linear;
  edges = edges;
  states = r.«record».states;
  steps = steps_of r.«record»;
  counts = r.counts;
  takes = r.takes;
  blocks = r.blocks;
  units = r.units;
  complete = r.complete;
}

-- each step has at most three neighbours
unfoldable pub Short : Record → Type 0
Short r = (k : ℕ) → (get_or r.steps k no_step).degree ≤ 3

-- the shape of every reduction that was not refused, and of its outputs
pub record Fair (r : Reduction) (linear edges : List ℤ) : Type 0 where
  pub decisions : r.«record».n ≤ 64
  pub count : r.«record».count ≤ 64
  pub short : Short r.«record»
  pub weights : length linear ≡ 64
  pub cells : length edges ≡ 4096

-- enough for every result
abbrev pub room : ℕ
room = 77824

-- what is written of a call: its reduction and its outputs, or its refusal
unfoldable pub replied : Result Reduction Refusal → List ℤ → List ℤ → List ℕ
replied (Ok r) l e = written (outcome_in r l e)
replied (Err k) l e = written_refusal (number_of k)

-- a result's text before its edges, and after its steps
unfoldable pub opening : ℤ → List ℕ → List ℤ → List ℕ
opening c r l =
    (bytes "constant " ++ shown_z c) ++ (bytes "\nremaining" ++ listed r) ++ (bytes "\nlinear" ++ listed_z l) ++ 10 ∷ []

unfoldable pub closing : ℕ → Bool → List ℕ
closing u b = (bytes "units " ++ shown u) ++ (bytes " complete " ++ yes_no b)
