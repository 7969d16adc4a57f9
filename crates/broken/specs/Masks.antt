-- The tests of a record as the code asks them: of masks of decisions, one bit a decision.
-- Assumes nothing.
use Rattle.std.specs.Prelude.{◌≡◌, Bool, true, cond, ◌&&◌, ◌||◌, List, ℕ, ◌^◌, ◌≤◌, ltb, leb, eqb, get_or, length}
use Rattle.std.specs.List.{list_all}
use Rattle.whole.specs.Words.{bit}
use Rattle.rules.specs.Record.{choice_limit}
use Rattle.rules.specs.declared.Step.{Step}
use Rattle.rules.specs.declared.Record.{Record}
use Rattle.broken.specs.declared.States.{States}

-- the mask of j alone; none has a decision from 64 on
abbrev pub alone : ℕ → ℕ
alone j = cond (ltb j 64) (2 ^ j) 0

-- the decisions below n that are not fixed, and those that are eliminated
abbrev pub is_unfixed : List ℕ → ℕ → ℕ → Bool
is_unfixed states n j = ltb j n && leb 2 (get_or states j 0)

abbrev pub is_eliminated : List ℕ → ℕ → ℕ → Bool
is_eliminated states n j = ltb j n && eqb (get_or states j 0) 3

-- "states are 0 to 3"
abbrev pub all_known : List ℕ → Bool
all_known states = list_all (λ s. leb s 3) states

-- the mask has those that pass, and no other
abbrev pub Picks : ℕ → (ℕ → Bool) → Type 0
Picks m p = (j : ℕ) → bit m j ≡ p j

pub record Sorted (states : List ℕ) (s : States) : Type 0 where
  pub known : all_known states ≡ true
  pub unfixed : Picks s.unfixed (is_unfixed states (length states))
  pub eliminated : Picks s.eliminated (is_eliminated states (length states))

-- what the walk along the steps is given
pub record MasksOf (r : Record) (u e : ℕ) : Type 0 where
  pub low : r.n ≤ 64
  pub few : r.count ≤ 64
  pub unfixed : Picks u (is_unfixed r.states r.n)
  pub eliminated : Picks e (is_eliminated r.states r.n)

-- one of a step's three places, used or not
abbrev pub place_asked : ℕ → Bool → ℕ → Bool
place_asked free used j = cond used (bit free j) (eqb j 0)

-- a step's degree, neighbours and unused bytes and bits
abbrev pub near_asked : ℕ → Step → Bool
near_asked free s =
    leb s.degree 3
    && (((ltb s.degree 2 || ltb s.first s.second) && (ltb s.degree 3 || ltb s.second s.third))
    && (place_asked free (ltb 0 s.degree) s.first
    && (place_asked free (ltb 1 s.degree) s.second
    && (place_asked free (ltb 2 s.degree) s.third
    && ltb s.choices (choice_limit s.degree)))))

abbrev pub step_asked : ℕ → ℕ → Step → Bool
step_asked due free s = bit due s.decision && near_asked free s
