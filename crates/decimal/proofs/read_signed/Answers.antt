use Rattle.std.proofs.Common.{◌≡◌, ◌^◌, ◌-◌, true, false, ◌∷◌, [], take, drop, eqb, ap, pos, neg_ℤ, to_z, of_z, w64, rules}
use Rattle.std.specs.Cmp.Lexicographic.{pointwise}
use Rattle.rules.specs.ReadText.{turned}
use Rattle.decimal.specs.ReadLaws.{minus_first, minus_none}
use Rattle.decimal.proofs.read_signed.Goals as goal

-- that the byte is the minus is found, and not named by the test, so that another byte in the test loses the fact itself
pub returns-in_err-v : goal.returns-in_err-v
returns-in_err-v c =
    let h : pointwise eqb (take 1 c.args.text.now) (45 ∷ []) ≡ true = search rules in
    let m : c.unsigned_abs.result ≡ 2 ^ 63 = search rules in
    let s : c.in-Some.rest.now ≡ drop 1 c.args.text.now = search rules in
    rw (c.from_residual.ensures, minus_first c.args.end c.args.text.now h) (ap (turned (λ v. neg_ℤ (pos v))) (rw (m, s) at c.in_err-v.ensures.reads))

pub returns-in_ok-v : goal.returns-in_ok-v
returns-in_ok-v c =
    let h : pointwise eqb (take 1 c.args.text.now) (45 ∷ []) ≡ true = search rules in
    let m : c.unsigned_abs.result ≡ 2 ^ 63 = search rules in
    let s : c.in-Some.rest.now ≡ drop 1 c.args.text.now = search rules in
    let e : to_z w64 (of_z w64 c.cast_signed.result) ≡ neg_ℤ (pos c.in_ok-v.v) = search rules in
    rw (e, minus_first c.args.end c.args.text.now h) (ap (turned (λ v. neg_ℤ (pos v))) (rw (m, s) at c.in_ok-v.ensures.reads))

pub returns-in_err-v-2 : goal.returns-in_err-v-2
returns-in_err-v-2 c =
    let h : pointwise eqb (take 1 c.args.text.now) (45 ∷ []) ≡ false = search rules in
    let m : c.unsigned_abs-in_default.result ≡ 2 ^ 63 - 1 = search rules in
    rw (c.from_residual-in_err-v-2.ensures, minus_none c.args.end c.args.text.now h) (ap (turned pos) (rw m at c.in_err-v-2.ensures.reads))

pub returns-in_ok-v-2 : goal.returns-in_ok-v-2
returns-in_ok-v-2 c =
    let h : pointwise eqb (take 1 c.args.text.now) (45 ∷ []) ≡ false = search rules in
    let m : c.unsigned_abs-in_default.result ≡ 2 ^ 63 - 1 = search rules in
    let e : to_z w64 (of_z w64 c.cast_signed-in_default.result) ≡ pos c.in_ok-v-2.v = search rules in
    rw (e, minus_none c.args.end c.args.text.now h) (ap (turned pos) (rw m at c.in_ok-v-2.ensures.reads))
