-- The records of D and J: written and read again, damaged, and grown back as 01 prints it.
-- Assumes nothing.
use Rattle.std.specs.Prelude.{◌≡◌, refl, List, [], ◌∷◌, ◌++◌, map, ℕ, ◌-◌, length, set, replicate, ℤ}
use Rattle.whole.specs.Words.{neg, from, mem, those, all, all_of}
use Rattle.rules.specs.Eliminate.{Step, step}
use Rattle.rules.specs.Back.{place, mask_of, play, play_all, grow_back, remaining_of, project}
use Rattle.rules.specs.Record.{hold_all, record_of, steps_of, states_of, little, from_little, twos, from_twos, steps_bytes, body, record_in, sums, check, sealed, check_right, block_of, ascending, step_fine, sound, zeros_in}
use Rattle.rules.specs.Refuse.{first_row, read_refusal}
use Rattle.rules.specs.Call.{grown, projected}
use Rattle.rules.specs.declared.Record.{Record}

-- states are zero past n
abbrev made : ℤ → List ℕ → List Step → Record
made c states steps = record_of (length states) c (states ++ replicate (64 - length states) 0) steps

pub record_d : Record
record_d = made (neg 4) (3 ∷ 3 ∷ []) (step 0 (1 ∷ []) 1 ∷ step 1 [] 1 ∷ [])

pub record_j : Record
record_j = made (neg 3) (2 ∷ 2 ∷ 3 ∷ 3 ∷ []) (step 2 (1 ∷ []) 1 ∷ step 3 (1 ∷ []) 3 ∷ [])

-- what is written is read again
pub j_again : record_in (block_of record_j) ≡ record_j
unfolding record_j from hold_all little from_little twos from_twos steps_bytes body record_in sums check sealed block_of
j_again = refl

-- and is not refused; with one byte of a step changed the check is wrong
pub j_read : read_refusal (block_of record_j) ∷ read_refusal (set (block_of record_j) 80 9) ∷ [] ≡ 0 ∷ 10 ∷ []
unfolding record_j from mem all all_of hold_all little from_little twos from_twos steps_bytes body record_in sums check sealed check_right block_of ascending step_fine sound zeros_in first_row read_refusal
j_read = refl

-- by hand, an empty record's bytes: s1 is 1 + 3 from the first byte on, and s2 gains it 508 times
pub empty_check : check (3 ∷ replicate 507 0) ≡ record { s1 = 4; s2 = 2032 }
unfolding sums check
empty_check = refl

-- D: "grown back 0, 1"
pub d_grown : grown record_d [] ≡ 0 ∷ 1 ∷ []
unfolding record_d hold_all steps_of states_of place mask_of play play_all grow_back
d_grown = refl

-- J, the remaining 0 and 1 answered 1 and 1, then 1 and 0: "choices of 2 are (1, 0), of 3 are (1, 1)"
pub j_grown : map (grown record_j) ((1 ∷ 1 ∷ []) ∷ (1 ∷ 0 ∷ []) ∷ []) ≡ (1 ∷ 1 ∷ 0 ∷ 1 ∷ []) ∷ (1 ∷ 0 ∷ 1 ∷ 1 ∷ []) ∷ []
unfolding record_j hold_all steps_of states_of place mask_of play play_all grow_back
j_grown = refl

pub j_projected : projected record_j (0 ∷ 1 ∷ 0 ∷ 1 ∷ []) ≡ 0 ∷ 1 ∷ 0 ∷ 0 ∷ []
unfolding record_j states_of project remaining_of those from
j_projected = refl
