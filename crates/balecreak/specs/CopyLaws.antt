-- What a copy gives, from what was read; and that it is the block again, byte for byte.
-- Assumes nothing.
use Rattle.std.specs.Prelude.{◌≡◌, not, List, [], ℕ, eqb, length, Result, Ok, Err}
use Rattle.std.proofs.Math.Path.{refl}
use Rattle.std.proofs.Common.{sym, ◌∙◌, arith, eq-eqb, ne_eqb}
use Rattle.rules.specs.Record.{record_in, block_of}
use Rattle.rules.specs.Refuse.{first_row, read_refusal}
use Rattle.rules.specs.Numbers.{number_of}
use Rattle.rules.specs.Call.{Answered}
use Rattle.rules.specs.declared.Record.{Record}
use Rattle.rules.specs.declared.refusal.Refusal.{Refusal}
use Rattle.record_laws.specs.Bytes.{Bytes}
use Rattle.record_laws.specs.RoundTrip.{is_readable, written_read}
use Rattle.back.specs.Calls.{done}
use Rattle.back.specs.RefusalLaws.{answers_refused, answers_accepted, of_unread, of_read}
use Rattle.balecreak.specs.Calls.{copy_refusal, Copied}
use Rattle.whole.specs.Tests.{row_off}

-- ---- by what was read
module _ (b out : List ℕ) where
  pub copy_short : (length out ≡ 512 → ⊥) → Copied b out 9 out
  unfolding copy_refusal first_row
  copy_short h = rw (ne_eqb (length out) 512 h) (answers_refused 9 9 (block_of (record_in b)) out refl (λ z. omega arith))

  module _ (long : length out ≡ 512) (read : Result Record Refusal) (is : Answered (read_refusal b) (record_in b) read) where
    pub copy_unread : (r : Refusal) → read ≡ Err r → Copied b out (number_of r) out
    unfolding copy_refusal first_row
    copy_unread r e = rw (eq-eqb (length out) 512 long) (of_unread (λ r. []) block_of out b read is r e)

    pub copy_read : (v : Record) (exit : List ℕ) → read ≡ Ok v → exit ≡ block_of v → Copied b out 0 exit
    unfolding copy_refusal first_row
    copy_read v exit z e = rw (eq-eqb (length out) 512 long) (of_read (λ r. []) block_of out b read is v z (answers_accepted 0 (block_of v) out exit refl e))

-- ---- a copy that is not refused is the block itself; a lent slice of bytes is `Bytes`
pub copied_same : (b out exit : List ℕ) → Bytes b → Copied b out 0 exit → exit ≡ b
unfolding copy_refusal read_refusal first_row
copied_same b out exit h g =
    let k = (row_off 9 (not (eqb (length out) 512)) (read_refusal b) (λ z. omega arith) (sym g.number_is)).1 in
    done (copy_refusal b (length out)) (block_of (record_in b)) out exit g ∙ written_read b h (is_readable b k).long k
