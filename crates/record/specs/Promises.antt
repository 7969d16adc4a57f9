-- What the public calls promise, and that no two results keep the same promise.
-- Assumes nothing.
use Rattle.std.specs.Prelude.{◌≡◌, ℕ, List, length, Result}
use Rattle.std.proofs.Common.{sym, ◌∙◌}
use Rattle.rules.specs.Record.{record_in}
use Rattle.rules.specs.Refuse.{read_refusal, write_refusal}
use Rattle.rules.specs.Call.{block_after, Answered}
use Rattle.rules.specs.declared.Record.{Record}
use Rattle.rules.specs.declared.refusal.Refusal.{Refusal}
use Rattle.accepted_laws.specs.Answers.{answered_one}

-- write_record of r into an output that holds `out`: the answer, and what the output holds after
abbrev pub Writes : Record → List ℕ → ℕ → List ℕ → Type 0
Writes r out answer after = (answer ≡ write_refusal r (length out)) × (after ≡ block_after r out)

-- read_record of the block b
abbrev pub Reads : List ℕ → Result Record Refusal → Type 0
Reads b = Answered (read_refusal b) (record_in b)

pub writes_one : (r : Record) (out : List ℕ) (a b : ℕ) (x y : List ℕ) → Writes r out a x → Writes r out b y → (a ≡ b) × (x ≡ y)
writes_one r out a b x y h k = (h.0 ∙ sym k.0, h.1 ∙ sym k.1)

pub reads_one : (b : List ℕ) (r s : Result Record Refusal) → Reads b r → Reads b s → r ≡ s
reads_one b r s h k = answered_one r s h k
