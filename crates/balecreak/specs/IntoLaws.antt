-- What a vendor's reduction gives, refused or run.
-- Assumes nothing.
use Rattle.std.specs.Prelude.{◌≡◌, Bool, cond, List, [], ◌∷◌, ℕ, zero, suc, eqb, length, ℤ}
use Rattle.std.proofs.Math.Path.{refl, ap}
use Rattle.std.proofs.Common.{sym, ◌∙◌}
use Rattle.std.proofs.Math.Bool.{not}
use Rattle.whole.specs.Tests.{same_eqb}
use Rattle.rules.specs.Objective.{Objective}
use Rattle.rules.specs.Record.{block_of}
use Rattle.rules.specs.Refuse.{first_row, reduce_rows, reduce_refusal}
use Rattle.rules.specs.Call.{unless, reduction}
use Rattle.accepted_laws.specs.Answers.{answered_value}
use Rattle.rules.specs.declared.Reduction.{Reduction}
use Rattle.accepted_laws.specs.Accept.{Accepted, accept_rows}
use Rattle.accepted_laws.specs.Rows.{rows_below, both_passed, rows_off}
use Rattle.reduce.specs.Gives.{Done}
use Rattle.reduce.specs.GivesLaws.{gives_done}
use Rattle.balecreak.specs.Calls.{count_list, into_refusal, GivesInto, ReducedInto}

-- no row holds, with outputs that are l, e, b and c long
pub record Passed (o : Objective) (l e b c : ℕ) : Type 0 where
  pub accepted : Accepted o l e
  pub reduces : reduce_refusal o l e ≡ 0
  pub block : b ≡ 512
  pub counts : c ≡ 14

module _ (o : Objective) (l e b c : ℕ) where
  -- the number, as it is asked: reduce's rows, then the block's
  pub into_number : (above below : ℕ) → above ≡ first_row (reduce_rows o l e (not (eqb c 14))) → below ≡ cond (not (eqb b 512)) 9 0 → unless above below above ≡ into_refusal o l e b c
  unfolding into_refusal first_row
  into_number above below p q = rows_below (reduce_rows o l e (not (eqb c 14))) ((9, not (eqb b 512)) ∷ []) refl p q

  pub into_passed : into_refusal o l e b c ≡ 0 → Passed o l e b c
  unfolding into_refusal reduce_refusal
  into_passed z =
      let p = both_passed (reduce_rows o l e (not (eqb c 14))) ((9, not (eqb b 512)) ∷ []) refl z in
      let a = accept_rows o l e (not (eqb c 14)) p.0 in
      record {
        accepted = a.0;
        reduces = ap (λ (t : Bool). first_row (reduce_rows o l e t)) (sym a.1) ∙ p.0;
        block = same_eqb b 512 (rows_off _ refl p.1).0;
        counts = same_eqb c 14 a.1;
      }

module _ (o : Objective) (l e : List ℤ) (b c : List ℕ) where
  -- a row holds
  pub refused_into : (number : ℕ) → number ≡ into_refusal o (length l) (length e) (length b) (length c) → (number ≡ 0 → ⊥) → ReducedInto o l e b c number l e b c
  refused_into number i h = by (into_refusal o (length l) (length e) (length b) (length c)) i
    where
      by : (k : ℕ) → number ≡ k → GivesInto k o l e b c number l e b c
      by zero i = absurd (h i)
      by (suc k) i = record { number_is = i; linear_is = refl; edges_is = refl; block_is = refl; counts_is = refl }

  -- none does
  pub accepted_into : (r : Reduction) (l' e' : List ℤ) (b' c' : List ℕ) → into_refusal o (length l) (length e) (length b) (length c) ≡ 0 → Done o r l' e' → b' ≡ block_of r.«record» → c' ≡ count_list r → ReducedInto o l e b c 0 l' e' b' c'
  accepted_into r l' e' b' c' z d p q =
      let g = gives_done o l e r l' e' (sym (into_passed o (length l) (length e) (length b) (length c) z).reduces) d in
      let h : r ≡ reduction o = answered_value g.reduction refl in
      rw z record {
        number_is = refl;
        linear_is = g.linear;
        edges_is = g.edges;
        block_is = p ∙ ap (λ (r : Reduction). block_of r.«record») h;
        counts_is = q ∙ ap count_list h;
      }
