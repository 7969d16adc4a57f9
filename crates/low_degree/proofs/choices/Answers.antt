use native.Mathlib.Nat.{zero-add, sub-zero, two-pow-succ}
use Rattle.std.specs.Int.{w64}
use Rattle.std.specs.Int.Signed.{lt_z}
use Rattle.std.proofs.Common.{rules, SFits, arith, ◌≡◌, ◌<◌, ◌≤◌, ◌^◌, length, get_or, take, pos, ℕ, ◌+◌, refl, ℤ, sym, ap, ◌∙◌, add-one}
use Rattle.std.proofs.Math.Pow.{pow_mono}
use Rattle.std.proofs.lemmas.List.{get_or-take, length-take-le}
use Rattle.whole.specs.Ints.{rd}
use Rattle.low_degree.specs.Table.{choice_bits}
use Rattle.low_degree.proofs.Laws.{chosen_at, bits_more, bits_same, bits_end}
use Rattle.low_degree.proofs.choices.Goals as goal
use Rattle.low_degree.proofs.choices.Goals.{then-chooses, else-chooses}

pub loop-m-init : goal.loop-m-init
loop-m-init c = (omega arith, omega arith, rw (zero-add, sub-zero) refl)

pub overflow_add-bits : goal.overflow_add-bits
overflow_add-bits c =
    let l = c.loop-m in
    let long : length c.args.deltas ≡ 8 = search rules in
    let last : length (take c.args.masks c.args.deltas) ≡ c.args.masks = length-take-le c.args.masks c.args.deltas (omega arith) in
    let few : 2 ^ l.m ≤ 2 ^ 7 = pow_mono {j = 7} (omega arith) in
    record { fits = omega arith }

pub loop-m-preserved : goal.loop-m-preserved
loop-m-preserved c =
    let l = c.loop-m in
    let n = c.args.masks in
    let d = c.args.deltas in
    let f = chosen_at d in
    let long : length d ≡ 8 = search rules in
    let last : length (take n d) ≡ n = length-take-le n d (omega arith) in
    let fits : SFits w64 (get_or (take n d) l.m (pos 0)) = search rules in
    let below : l.m < n = omega arith in
    let test : c.chooses.result ≡ f l.m = c.chooses.ensures ∙ ap (λ (z : ℤ). lt_z z (pos 0)) (rd fits ∙ get_or-take n d l.m (pos 0) below) in
    let few : 2 ^ l.m ≤ 2 ^ 7 = pow_mono {j = 7} (omega arith) in
    let twice : 2 ^ (l.m + 1) ≡ 2 ^ l.m + 2 ^ l.m = ap (λ (k : ℕ). 2 ^ k) (add-one l.m) ∙ two-pow-succ l.m in
    elim c.if-chooses.branch [
      | then-chooses w ↦ rw w.bits-is (omega arith, omega arith, omega (arith, bits_more f l.m n below (sym test ∙ w.if-chooses.true)))
      | else-chooses w ↦ rw w.bits-is (omega arith, omega arith, omega (arith, bits_same f l.m n below (sym test ∙ w.if-chooses.false)))
    ]

pub returns : goal.returns
unfolding choice_bits
returns c =
    let l = c.loop-m in
    let long : length c.args.deltas ≡ 8 = search rules in
    let last : length (take c.args.masks c.args.deltas) ≡ c.args.masks = length-take-le c.args.masks c.args.deltas (omega arith) in
    omega (arith, l.invariant.2, bits_end (chosen_at c.args.deltas) l.m c.args.masks (omega arith))
