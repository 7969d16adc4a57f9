-- 01, "0 or 1 fixed, 2 remaining, 3 eliminated": the mark of each byte, and what the rules ask of a byte, asked of its mark.
-- Assumes nothing.
use Rattle.std.specs.Prelude.{ℕ, Bool, true, false, cond, leb, eqb, Option, Some, None}
use Rattle.broken.specs.declared.mark.Mark.{Mark}
use Rattle.broken.specs.declared.mark.Mark.TheVariants.{Fixed, Remaining, Eliminated}

abbrev pub mark_of : ℕ → Option Mark
mark_of b = cond (leb b 1) (Some (Fixed b)) (cond (eqb b 2) (Some Remaining) (cond (eqb b 3) (Some Eliminated) None))

-- "states are 0 to 3"
abbrev pub known : Option Mark → Bool
known (Some m) = true
known None = false

abbrev pub fixed : Option Mark → Bool
fixed (Some (Fixed v)) = true
fixed (Some Remaining) = false
fixed (Some Eliminated) = false
fixed None = false

abbrev pub eliminated : Option Mark → Bool
eliminated (Some (Fixed v)) = false
eliminated (Some Remaining) = false
eliminated (Some Eliminated) = true
eliminated None = false
