use Rattle.whole.specs.Cmp.{zero_not, zero_is}
use Rattle.whole.specs.Words.{bit, is_zero_z}
use Rattle.whole.specs.Masks.{bit_or_lem, bit_less, bit_shifted}
use Rattle.std.proofs.Common.{◌≡◌, Bool, true, false, cond, not, ◌&&◌, ◌||◌, ℕ, ◌*◌, ◌%◌, ◌^◌, eqb, refl, sym, ap, ◌∙◌}
use Rattle.graph.proofs.shown.marked.Goals as goal

put : (a b z : Bool) → z ≡ true → (a || b) ≡ cond b z a
put true true z e = sym e
put true false z e = refl
put false true z e = sym e
put false false z e = refl

taken : (a b z : Bool) → z ≡ false → (a && not b) ≡ cond b z a
taken true true z e = sym e
taken true false z e = refl
taken false true z e = sym e
taken false false z e = refl

pub returns-then-w-ne0 : goal.returns-then-w-ne0
returns-then-w-ne0 c k h =
    let a = c.args in
    bit_or_lem a.m (1 * 2 ^ a.j % 2 ^ 64) k ∙ ap (λ (b : Bool). bit a.m k || b) (bit_shifted a.j k c.requires)
    ∙ put (bit a.m k) (eqb k a.j) (not (is_zero_z a.w)) (zero_not a.w c.if-w-ne0.true)

pub returns : goal.returns
returns c k h =
    let a = c.args in
    ap (λ (x : ℕ). bit x k) c.without.ensures
    ∙ bit_less a.m (1 * 2 ^ a.j % 2 ^ 64) k ∙ ap (λ (b : Bool). bit a.m k && not b) (bit_shifted a.j k c.requires)
    ∙ taken (bit a.m k) (eqb k a.j) (not (is_zero_z a.w)) (zero_is a.w c.ranges.w.sfits c.if-w-ne0.false)
