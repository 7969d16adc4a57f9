-- The vendors' calls: 01's, on numbers and lists alone. A reduction's record goes into a block and its counts into a list.
-- Assumes nothing.
use Rattle.std.specs.Prelude.{◌≡◌, not, List, [], ◌∷◌, ◌++◌, ℕ, eqb, length, ℤ}
use Rattle.std.proofs.Common.{sym, ◌∙◌}
use Rattle.whole.specs.Words.{one_if}
use Rattle.rules.specs.Objective.{Objective}
use Rattle.rules.specs.Record.{record_in, block_of}
use Rattle.rules.specs.Refuse.{first_row, reduce_rows, block_rows}
use Rattle.rules.specs.Call.{unless, reduction, linear_after, edges_after}
use Rattle.rules.specs.declared.Reduction.{Reduction}
use Rattle.back.specs.Calls.{Answers, one_result}

-- the table, for outputs that are l, e, b and c long: the list of counts is one of row 2's lengths, the block has a row of its own
unfoldable pub into_refusal : Objective → ℕ → ℕ → ℕ → ℕ → ℕ
into_refusal o l e b c = first_row (reduce_rows o l e (not (eqb c 14)) ++ (9, not (eqb b 512)) ∷ [])

-- the counts in their order, then takes, blocks, units, and 1 for a run that is complete
abbrev pub count_list : Reduction → List ℕ
count_list r =
    r.counts.eliminated
    ∷ r.counts.degree_three_eliminated
    ∷ r.counts.degree_three_skipped
    ∷ r.counts.contracted
    ∷ r.counts.weak_contractions
    ∷ r.counts.additional_fixed
    ∷ r.counts.remaining
    ∷ r.counts.passes
    ∷ r.counts.blocks_eliminated
    ∷ r.counts.block_variables
    ∷ r.takes
    ∷ r.blocks
    ∷ r.units
    ∷ one_if r.complete
    ∷ []

-- balecreak_reduce with outputs that hold l, e, b and c, where the table gives k: its number, and what they hold after
pub record GivesInto (k : ℕ) (o : Objective) (l e : List ℤ) (b c : List ℕ) (number : ℕ) (l' e' : List ℤ) (b' c' : List ℕ) : Type 0 where
  pub number_is : number ≡ k
  pub linear_is : l' ≡ unless k (linear_after o l e) l
  pub edges_is : e' ≡ unless k (edges_after o l e) e
  pub block_is : b' ≡ unless k (block_of (reduction o).«record») b
  pub counts_is : c' ≡ unless k (count_list (reduction o)) c

abbrev pub ReducedInto : Objective → List ℤ → List ℤ → List ℕ → List ℕ → ℕ → List ℤ → List ℤ → List ℕ → List ℕ → Type 0
ReducedInto o l e b c = GivesInto (into_refusal o (length l) (length e) (length b) (length c)) o l e b c

-- any two results that meet it are equal
pub into_one : {k : ℕ} {o : Objective} {l e : List ℤ} {b c : List ℕ} {m n : ℕ} {l' l'' e' e'' : List ℤ} {b' b'' c' c'' : List ℕ}
    → GivesInto k o l e b c m l' e' b' c' → GivesInto k o l e b c n l'' e'' b'' c'' → (m ≡ n) × (l' ≡ l'') × (e' ≡ e'') × (b' ≡ b'') × (c' ≡ c'')
into_one x y =
    (x.number_is ∙ sym y.number_is, x.linear_is ∙ sym y.linear_is, x.edges_is ∙ sym y.edges_is, x.block_is ∙ sym y.block_is, x.counts_is ∙ sym y.counts_is)

-- ---- balecreak_copy of the block b, with an output that holds `out`: the record that is read is written anew
-- the output is to be a block too: row 9 for either length
unfoldable pub copy_refusal : List ℕ → ℕ → ℕ
copy_refusal b out = first_row ((9, not (eqb out 512)) ∷ block_rows b)

abbrev pub Copied : List ℕ → List ℕ → ℕ → List ℕ → Type 0
Copied b out = Answers (copy_refusal b (length out)) (block_of (record_in b)) out

-- any two results that meet it are equal
pub copied_one : (b out : List ℕ) {m n : ℕ} {x y : List ℕ} → Copied b out m x → Copied b out n y → (m ≡ n) × (x ≡ y)
copied_one b out = one_result
