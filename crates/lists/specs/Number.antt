-- A field read as a number.
use Rattle.std.specs.Prelude.{◌≡◌, ℕ, List, [], ◌∷◌, Option, MatchOption, Result, Ok, Err, nat_eq, false}
use Rattle.std.specs.List.{starts_with}
use Rattle.std.specs.Str.{IsUtf8}

-- What `parse` gives for the field's text; none where that has an error, and for a plus or what is no text.
abbrev pub Reads : {T E : Type 0} → (List ℕ → Result T E → Type 0) → List ℕ → Option T → Type 0
Reads {T} {E} gives field r =
    MatchOption r (IsUtf8 field → starts_with nat_eq field (43 ∷ []) ≡ false → (e : E) × gives field (Err e)) (λ value. gives field (Ok value))
