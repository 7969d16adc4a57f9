-- What a reader's answer says, as the definitions have it: a value, and what is left of the text. Assumes nothing.
use Rattle.std.specs.Prelude.{ℕ, List, Option, Some, None}
use Rattle.std.specs.Borrow.{Bor}
use Rattle.rules.specs.ReadText.{Read, got, bad}

abbrev pub seen : {A : Type 0} → Option (A × Bor (List ℕ)) → Read A
seen (Some r) = got r.0 r.1.now
seen None = bad
