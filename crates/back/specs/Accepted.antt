-- When a call is not refused, and what its caller has then: the answer grown back, the plan projected.
-- Assumes nothing.
use Rattle.std.specs.Prelude.{◌≡◌, false, List, ℕ, length}
use Rattle.std.proofs.Common.{ap, ◌∙◌}
use Rattle.whole.specs.Words.{some}
use Rattle.rules.specs.Back.{remaining_of}
use Rattle.rules.specs.Record.{broken, record_in, states_of}
use Rattle.rules.specs.Refuse.{first_row, over, bytes_rows, read_refusal, grow_refusal, project_refusal, grow_block_refusal, project_block_refusal}
use Rattle.rules.specs.Call.{unless, grown, projected, plan_after, answer_after, block_plan_after, block_answer_after}
use Rattle.rules.specs.declared.Record.{Record}
use Rattle.back.specs.Calls.{Answers, GrownBack, Projected, GrownBackBlock, ProjectedBlock}
use Rattle.accepted_laws.specs.Rows.{no_row, block_passed, bytes_fine}

-- the bytes are as long as they have to be and each is 0 or 1, and the output is n long
pub record GoodBytes (r : Record) (long : ℕ) (bytes slice : List ℕ) : Type 0 where
  pub bytes_long : length bytes ≡ long
  pub slice_long : length slice ≡ r.n
  pub bits : some (over 1) bytes ≡ false

-- "A reduced answer is r long, a full plan n."
abbrev pub FineAnswer : Record → List ℕ → List ℕ → Type 0
FineAnswer r = GoodBytes r (length (remaining_of (states_of r)))

abbrev pub FinePlan : Record → List ℕ → List ℕ → Type 0
FinePlan r = GoodBytes r r.n

-- the number is 0, and the slice holds x
at_zero : (k : ℕ) (x y : List ℕ) (number : ℕ) (exit : List ℕ) → k ≡ 0 → Answers k x y number exit → (number ≡ 0) × (exit ≡ x)
at_zero k x y number exit e g = (g.number_is ∙ e, g.slice_is ∙ ap (λ (m : ℕ). unless m x y) e)

passed : {r : Record} {long : ℕ} {bytes slice : List ℕ} → GoodBytes r long bytes slice → first_row (bytes_rows r long bytes (length slice)) ≡ 0
passed {r} {long} {bytes} {slice} f = bytes_fine r long bytes (length slice) f.bytes_long f.slice_long f.bits

module _ (r : Record) (bytes slice : List ℕ) (number : ℕ) (exit : List ℕ) (sound : broken r ≡ false) where
  pub grows_back : FineAnswer r bytes slice → GrownBack r bytes slice number exit → (number ≡ 0) × (exit ≡ grown r bytes)
  unfolding grow_refusal plan_after
  grows_back f g = at_zero (grow_refusal r bytes (length slice)) (grown r bytes) slice number exit (no_row 12 _ sound ∙ passed f) g

  pub projects : FinePlan r bytes slice → Projected r bytes slice number exit → (number ≡ 0) × (exit ≡ projected r bytes)
  unfolding project_refusal answer_after
  projects f g = at_zero (project_refusal r bytes (length slice)) (projected r bytes) slice number exit (no_row 12 _ sound ∙ passed f) g

module _ (b bytes slice : List ℕ) (number : ℕ) (exit : List ℕ) (read : read_refusal b ≡ 0) where
  pub grows_back_block : FineAnswer (record_in b) bytes slice → GrownBackBlock b bytes slice number exit → (number ≡ 0) × (exit ≡ grown (record_in b) bytes)
  unfolding grow_block_refusal block_plan_after
  grows_back_block f g = at_zero (grow_block_refusal b bytes (length slice)) (grown (record_in b) bytes) slice number exit (block_passed b _ read ∙ passed f) g

  pub projects_block : FinePlan (record_in b) bytes slice → ProjectedBlock b bytes slice number exit → (number ≡ 0) × (exit ≡ projected (record_in b) bytes)
  unfolding project_block_refusal block_answer_after
  projects_block f g = at_zero (project_block_refusal b bytes (length slice)) (projected (record_in b) bytes) slice number exit (block_passed b _ read ∙ passed f) g
