-- 01, the program: what it writes for a text.
-- Assumes nothing.
use Rattle.std.specs.Prelude.{List, ℕ}
use Rattle.rules.specs.Refuse.{reduce_refusal}
use Rattle.rules.specs.Outcome.{outcome}
use Rattle.rules.specs.Call.{unless}
use Rattle.rules.specs.ReadText.{Input, refused, given, input}
use Rattle.rules.specs.WriteText.{written, written_refusal}

-- "then the table": the program lends outputs of the right lengths
unfoldable pub reply : Input → List ℕ
reply (refused k) = written_refusal k
reply (given o) = unless (reduce_refusal o 64 4096) (written (outcome o)) (written_refusal (reduce_refusal o 64 4096))

unfoldable pub program : List ℕ → List ℕ
program text = reply (input text)
