-- What is known of an objective that is not refused.
-- Assumes nothing.
use Rattle.std.specs.Prelude.{◌≡◌, refl, Bool, false, List, ℕ, ◌+◌, ◌<◌, ◌≤◌, ltb, leb, length, get_or}
use Rattle.std.proofs.Common.{ltb-false, leb-false}
use Rattle.whole.specs.Words.{some}
use Rattle.whole.specs.Tests.{same_eqb}
use Rattle.whole.specs.Members.{some_false, in_at}
use Rattle.rules.specs.Objective.{Objective, objective, weight_of}
use Rattle.rules.specs.Refuse.{first_row, bad_lengths, bad_index, bad_lent, bad_fixing, too_heavy, reduce_rows, reduce_refusal}
use Rattle.accepted_laws.specs.Rows.{rows_off, tests_off}

-- of the objective alone
pub record Fit (o : Objective) : Type 0 where
  pub small : o.n ≤ 64
  pub weights : length o.weights ≡ o.n
  pub fixings : length o.fixings ≡ o.n
  pub seconds : length o.seconds ≡ length o.firsts
  pub term_weights : length o.term_weights ≡ length o.firsts
  pub few : length o.firsts ≤ 4096
  pub first_below : (k : ℕ) → k < length o.firsts → get_or o.firsts k 0 < o.n
  pub second_below : (k : ℕ) → k < length o.seconds → get_or o.seconds k 0 < o.n
  pub bytes : (k : ℕ) → k < length o.fixings → get_or o.fixings k 0 ≤ 2
  pub light : weight_of o.weights + weight_of o.term_weights ≤ 1099511627776

pub record Accepted (o : Objective) (l e : ℕ) : Type 0 where
  pub fit : Fit o
  pub out_linear : l ≡ 64
  pub out_edges : e ≡ 4096
  pub switches : o.switches ≤ 15

-- it does not look at the switches and the budget
pub fit_any : (o : Objective) (sw b : ℕ) → Fit o → Fit (objective o.n o.weights o.firsts o.seconds o.term_weights o.fixings sw b)
fit_any o sw b f = record {
  small = f.small;
  weights = f.weights;
  fixings = f.fixings;
  seconds = f.seconds;
  term_weights = f.term_weights;
  few = f.few;
  first_below = f.first_below;
  second_below = f.second_below;
  bytes = f.bytes;
  light = f.light;
}

-- no element passes
none : (p : ℕ → Bool) (l : List ℕ) → some p l ≡ false → (k : ℕ) → k < length l → p (get_or l k 0) ≡ false
none p l e k h = some_false p (get_or l k 0) l e (in_at l k h)

-- no row of the table holds, nor another length of the caller's
pub accept_rows : (o : Objective) (l e : ℕ) (others : Bool) → first_row (reduce_rows o l e others) ≡ 0 → Accepted o l e × (others ≡ false)
unfolding bad_lengths bad_index bad_lent bad_fixing too_heavy
accept_rows o l e others h =
    let r = rows_off (reduce_rows o l e others) refl h in
    let t = tests_off _ r.1.0 in
    let u = tests_off _ t.1.1.1.1.0 in
    let i = tests_off _ r.1.1.0 in (
      record {
        fit = record {
          small = ltb-false 64 o.n r.0;
          weights = same_eqb (length o.weights) o.n t.0;
          fixings = same_eqb (length o.fixings) o.n u.0;
          seconds = same_eqb (length o.seconds) (length o.firsts) t.1.0;
          term_weights = same_eqb (length o.term_weights) (length o.firsts) t.1.1.0;
          few = ltb-false 4096 (length o.firsts) t.1.1.1.0;
          first_below = λ k s. leb-false o.n (get_or o.firsts k 0) (none (leb o.n) o.firsts i.0 k s);
          second_below = λ k s. leb-false o.n (get_or o.seconds k 0) (none (leb o.n) o.seconds i.1.0 k s);
          bytes = λ k s. ltb-false 2 (get_or o.fixings k 0) (none (ltb 2) o.fixings r.1.1.1.0 k s);
          light = ltb-false 1099511627776 (weight_of o.weights + weight_of o.term_weights) r.1.1.1.1.1.0;
        };
        out_linear = same_eqb l 64 u.1.0;
        out_edges = same_eqb e 4096 u.1.1.0;
        switches = ltb-false 15 o.switches r.1.1.1.1.0;
      },
      u.1.1.1.0,
    )

pub accept : (o : Objective) (l e : ℕ) → reduce_refusal o l e ≡ 0 → Accepted o l e
unfolding reduce_refusal
accept o l e h = (accept_rows o l e false h).0
