-- A body's row, asked as two: of the bytes that no field holds, then of the record.
-- Assumes nothing.
use Rattle.std.proofs.Common.{◌≡◌, ℕ, Bool, true, false, cond, ◌&&◌, arith}
use mathlib.Core.Bool.{not}
use Rattle.rules.specs.Numbers.{number_of}
use Rattle.rules.specs.declared.refusal.Refusal.{Refusal}
use Rattle.accepted_laws.specs.Answers.{numbered_row}

pub zeros_stop : (r : Refusal) (z s : Bool) → number_of r ≡ cond (not z) 12 0 → number_of r ≡ cond (not (z && s)) 12 0
zeros_stop r true s n = absurd (numbered_row r n)
zeros_stop r false s n = n

pub body_next : (n : ℕ) (z s : Bool) → ◌≡◌ {A = ℕ} 0 (cond (not z) 12 0) → n ≡ cond (not s) 12 0 → n ≡ cond (not (z && s)) 12 0
body_next n true s z e = e
body_next n false s z e = absurd (omega arith)
