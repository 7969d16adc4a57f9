-- 01, "Numbers given back when a call says no": the refusals of every public call, in the order of the table.
-- Assumes nothing.
use Rattle.std.specs.Prelude.{Bool, false, cond, not, List, [], ◌∷◌, ◌++◌, ℕ, ltb, leb, eqb, length, get_or}
use Rattle.whole.specs.Words.{some, one_of}
use Rattle.rules.specs.Objective.{Objective, total}
use Rattle.rules.specs.Record.{edition, check_right, broken, body_broken, record_in, states_of}
use Rattle.rules.specs.Back.{remaining_of}
use Rattle.rules.specs.declared.Record.{Record}

-- "A refusal is given exactly when its row holds and no row above it does." 0: none does
unfoldable pub first_row : List (ℕ × Bool) → ℕ
first_row [] = 0
first_row (r ∷ rs) = cond r.1 r.0 (first_row rs)

abbrev pub over : ℕ → ℕ → Bool
over k x = ltb k x

abbrev pub not_long : {A : Type 0} → List A → ℕ → Bool
not_long xs k = not (eqb (length xs) k)

-- ---- an objective, without its fixings. `others`: another length that the caller has is wrong
-- "weight .. list not n long; term lists of unequal length or over 4,096"
unfoldable pub bad_lengths : Objective → Bool → Bool
bad_lengths o others = one_of (
    not_long o.weights o.n
    ∷ not_long o.seconds (length o.firsts)
    ∷ not_long o.term_weights (length o.firsts)
    ∷ over 4096 (length o.firsts)
    ∷ others
    ∷ [])

-- "a term index is n or more"
unfoldable pub bad_index : Objective → Bool
bad_index o = one_of (some (leb o.n) o.firsts ∷ some (leb o.n) o.seconds ∷ [])

-- "total at most 2^40 = 1,099,511,627,776"
unfoldable pub too_heavy : Objective → Bool
too_heavy o = over 1099511627776 (total o)

-- the rows of every objective, "n over 64" the first; a caller puts its own between them and below
abbrev pub list_rows : Objective → Bool → List (ℕ × Bool)
list_rows o others = (1, over 64 o.n) ∷ (2, bad_lengths o others) ∷ (3, bad_index o) ∷ []

abbrev pub weight_rows : Objective → List (ℕ × Bool)
weight_rows o = (6, too_heavy o) ∷ []

-- ---- reduce: l and e are the lengths of the linear and the edge output
-- ".. or fixing list not n long; .. linear output not 64 long or edge output not 4,096 long"
unfoldable pub bad_lent : Objective → ℕ → ℕ → Bool → Bool
bad_lent o l e others = one_of (not_long o.fixings o.n ∷ not (eqb l 64) ∷ not (eqb e 4096) ∷ others ∷ [])

-- "a fixing byte over 2"
unfoldable pub bad_fixing : Objective → Bool
bad_fixing o = some (over 2) o.fixings

-- row 5: "a switch bit above bit 3"
abbrev pub reduce_rows : Objective → ℕ → ℕ → Bool → List (ℕ × Bool)
reduce_rows o l e others = list_rows o (bad_lent o l e others) ++ (4, bad_fixing o) ∷ (5, over 15 o.switches) ∷ weight_rows o

unfoldable pub reduce_refusal : Objective → ℕ → ℕ → ℕ
reduce_refusal o l e = first_row (reduce_rows o l e false)

-- ---- write_record: the output is out long
unfoldable pub write_refusal : Record → ℕ → ℕ
write_refusal r out = first_row ((9, not (eqb out 512)) ∷ (12, broken r) ∷ [])

-- ---- a block
abbrev pub block_rows : List ℕ → List (ℕ × Bool)
block_rows b =
    (9, not_long b 512)
    ∷ (10, not (check_right b))
    ∷ (11, not (eqb (get_or b 0 0) edition))
    ∷ (12, body_broken b)
    ∷ []

-- ---- an answer, or a plan, for a record: `long` is how long it has to be, and the output has to be n long
abbrev pub bytes_rows : Record → ℕ → List ℕ → ℕ → List (ℕ × Bool)
bytes_rows r long bytes out =
    (7, one_of (not_long bytes long ∷ not (eqb out r.n) ∷ []))
    ∷ (8, some (over 1) bytes)
    ∷ []

-- "A reduced answer is r long, a full plan n."
abbrev pub answer_rows : Record → List ℕ → ℕ → List (ℕ × Bool)
answer_rows r answer out = bytes_rows r (length (remaining_of (states_of r))) answer out

abbrev pub plan_rows : Record → List ℕ → ℕ → List (ℕ × Bool)
plan_rows r plan out = bytes_rows r r.n plan out

unfoldable pub read_refusal : List ℕ → ℕ
read_refusal b = first_row (block_rows b)

unfoldable pub grow_refusal : Record → List ℕ → ℕ → ℕ
grow_refusal r answer out = first_row ((12, broken r) ∷ answer_rows r answer out)

unfoldable pub project_refusal : Record → List ℕ → ℕ → ℕ
project_refusal r plan out = first_row ((12, broken r) ∷ plan_rows r plan out)

-- ---- the same straight from a block
unfoldable pub grow_block_refusal : List ℕ → List ℕ → ℕ → ℕ
grow_block_refusal b answer out = first_row (block_rows b ++ answer_rows (record_in b) answer out)

unfoldable pub project_block_refusal : List ℕ → List ℕ → ℕ → ℕ
project_block_refusal b plan out = first_row (block_rows b ++ plan_rows (record_in b) plan out)
