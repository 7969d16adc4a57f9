-- Demand 3 through a record's block: what is written is read again, and grows back and projects as the record itself.
-- Assumes nothing.
use Rattle.std.specs.Prelude.{◌≡◌, Bool, true, false, List, ◌∷◌, ◌++◌, map, length, replicate, ℤ}
use Rattle.std.proofs.Common.{sym, ◌∙◌, subst, arith, length-append}
use Rattle.std.proofs.Math.Path.{ap, ap₂}
use Prim.Native.Nat.{ℕ, ◌-◌}
use Rattle.std.proofs.lemmas.List.{length-replicate, length-map}
use Rattle.whole.specs.Tests.{not_on, eqb_same}
use Rattle.rules.specs.Objective.{Objective}
use Rattle.rules.specs.Outcome.{outcome_of, outcome}
use Rattle.rules.specs.Record.{no_step, hold, hold_all, record_of, record_in, block_of, sound, broken}
use Rattle.rules.specs.Refuse.{first_row, block_rows, answer_rows, plan_rows, read_refusal, reduce_refusal, write_refusal, grow_refusal, project_refusal, grow_block_refusal, project_block_refusal}
use Rattle.rules.specs.Call.{unless, reduction, grown, projected, block_after, plan_after, answer_after, block_plan_after, block_answer_after}
use Rattle.rules.specs.declared.Record.{Record}
use Rattle.rules.specs.declared.Reduction.{Reduction}
use Rattle.accepted_laws.specs.Accept.{Fit, accept}
use Rattle.accepted_laws.specs.Rows.{no_row, no_number, block_passed}
use Rattle.sound_laws.specs.SoundStart.{states_from}
use Rattle.run_laws.specs.StepLaws.{steps_few}
use Rattle.record_laws.specs.Fields.{Held}
use Rattle.record_laws.specs.RoundTrip as trip
use Rattle.demand_laws.specs.Demands.{ByBlock}
use Rattle.demand_laws.specs.RunEnds.{end_steps, end_fine, end_taken}
use Rattle.run_record_laws.proofs.ByCalls.{run_record_sound, reply_is}

-- ---- of any record that is not broken
module _ (r : Record) (h : Held r) (s : sound r ≡ true) where
  unbroken : broken r ≡ false
  unbroken = not_on s

  same : record_in (block_of r) ≡ r
  same = trip.read_written r h unbroken

  written_fine : (b : List ℕ) → length b ≡ 512 → write_refusal r (length b) ≡ 0
  unfolding write_refusal
  written_fine b l = no_number _ (eqb_same (length b) 512 l, (unbroken, tt))

  block_is : (b : List ℕ) → length b ≡ 512 → block_after r b ≡ block_of r
  unfolding block_after
  block_is b l = ap (λ (k : ℕ). unless k (block_of r) b) (written_fine b l)

  read_is : (read_refusal (block_of r) ≡ 0) × (record_in (block_of r) ≡ r)
  read_is = (trip.reads r h unbroken, same)

  -- the block's rows pass, and the record that is read is r
  below : (rows : Record → List (ℕ × Bool)) → first_row (block_rows (block_of r) ++ rows (record_in (block_of r))) ≡ first_row ((12, broken r) ∷ rows r)
  below rows = block_passed (block_of r) (rows (record_in (block_of r))) (trip.reads r h unbroken) ∙ ap (λ (q : Record). first_row (rows q)) same ∙ sym (no_row 12 (rows r) unbroken)

  grown_number_is : (answer : List ℕ) (out : ℕ) → grow_block_refusal (block_of r) answer out ≡ grow_refusal r answer out
  unfolding grow_block_refusal grow_refusal
  grown_number_is answer out = below (λ q. answer_rows q answer out)

  grown_is : (answer out : List ℕ) → block_plan_after (block_of r) answer out ≡ plan_after r answer out
  unfolding block_plan_after plan_after
  grown_is answer out = ap₂ (λ (k : ℕ) (q : Record). unless k (grown q answer) out) (grown_number_is answer (length out)) same

  projected_number_is : (plan : List ℕ) (out : ℕ) → project_block_refusal (block_of r) plan out ≡ project_refusal r plan out
  unfolding project_block_refusal project_refusal
  projected_number_is plan out = below (λ q. plan_rows q plan out)

  projected_is : (plan out : List ℕ) → block_answer_after (block_of r) plan out ≡ answer_after r plan out
  unfolding block_answer_after answer_after
  projected_is plan out = ap₂ (λ (k : ℕ) (q : Record). unless k (projected q plan) out) (projected_number_is plan (length out)) same

-- ---- a reduction's record has all its places
run_record_held : (o : Objective) → Fit o → Held (record_of o.n (outcome o).constant (outcome o).states (outcome o).steps)
unfolding outcome outcome_of hold_all
run_record_held o fit = record {
  states = (end_fine o fit).shaped.states_long;
  steps = omega (
    arith,
    length-append (map hold (end_steps o)) (replicate (64 - length (end_steps o)) no_step),
    length-map (end_steps o) hold,
    length-replicate (64 - length (end_steps o)) no_step,
    steps_few o.n (states_from o.n o.fixings) (end_steps o) (end_taken o fit),
    fit.small,
  );
}

-- ---- through the calls
pub by_block : (o : Objective) (l e : List ℤ) (b : List ℕ) → reduce_refusal o (length l) (length e) ≡ 0 → length b ≡ 512 → ByBlock o b
by_block o l e b accepted long =
    let fit = (accept o (length l) (length e) accepted).fit in
    let is : (reduction o).«record» ≡ record_of o.n (outcome o).constant (outcome o).states (outcome o).steps = ap (λ (r : Reduction). r.«record») (reply_is o) in
    let h : Held (reduction o).«record» = subst Held (sym is) (run_record_held o fit) in
    let s : sound (reduction o).«record» ≡ true = ap sound is ∙ run_record_sound o fit in
    let r : Record = (reduction o).«record» in
    let is_Block = block_is r h s b long in
    record {
      written = written_fine r h s b long;
      read = subst (λ (c : List ℕ). (read_refusal c ≡ 0) × (record_in c ≡ r)) (sym is_Block) (read_is r h s);
      grown_number = λ answer out. ap (λ (c : List ℕ). grow_block_refusal c answer out) is_Block ∙ grown_number_is r h s answer out;
      grown = λ answer out. ap (λ (c : List ℕ). block_plan_after c answer out) is_Block ∙ grown_is r h s answer out;
      projected_number = λ plan out. ap (λ (c : List ℕ). project_block_refusal c plan out) is_Block ∙ projected_number_is r h s plan out;
      projected = λ plan out. ap (λ (c : List ℕ). block_answer_after c plan out) is_Block ∙ projected_is r h s plan out;
    }
