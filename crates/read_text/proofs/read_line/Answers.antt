use Rattle.std.proofs.Common.{◌≡◌, refl, ℕ, ◌+◌, ◌-◌, true, false, eqb, Option, Some, None, List, [], ◌∷◌, length, take, drop, sym, MatchOption, arith, rules, Bor}
use Rattle.std.proofs.lemmas.List.{nil_from_length}
use Rattle.std.specs.Cmp.Lexicographic.{pointwise}
use Rattle.rules.specs.ReadText.{ender, empty}
use Rattle.read_text.specs.Seen.{seen_line}
use Rattle.read_text.specs.LineLaws.{newline_first, newline_none, line_none, ender_last, ender_more, so_far_none, so_far_bad, so_far_more, so_far_all}
use Rattle.read_text.proofs.read_line.Given.{Over}
use Rattle.read_text.proofs.read_line.Goals.{Joined-i-last, then-i-last, else-i-last}
use Rattle.read_text.proofs.read_line.Goals as goal

-- a text with its newline taken off
stripped : {A : Type 0} (t : List ℕ) (o : Option (Bor (List ℕ))) → MatchOption o (pointwise eqb (take 1 t) (10 ∷ []) ≡ false) (λ x. (pointwise eqb (take 1 t) (10 ∷ []) ≡ true) × (x.now ≡ drop 1 t) × (length x.now + 1 ≡ length t)) → seen_line {A = List A} [] o ≡ empty t
stripped t None h = sym (newline_none t h)
stripped t (Some x) h = rw (h.1) (sym (newline_first t h.0))

ended : (g : Over) (c : Joined-i-last g) → c.if-i-last.end ≡ ender (length c.args.out.now - c.loop-i.i - 1)
ended g c = elim c.if-i-last.branch [
  | then-i-last w ↦ rw w.end-is (ender_last _ (omega arith))
  | else-i-last w ↦ rw w.end-is (ender_more _ (omega (arith, w.if-i-last.false)))
]

pub returns-then-is_empty : goal.returns-then-is_empty
returns-then-is_empty g c =
    let e : length c.args.out.now ≡ 0 = search rules in
    rw (line_none g.T.Field.one (length c.args.out.now) c.args.text.now e, nil_from_length c.args.out.now e) (stripped c.args.text.now c.strip_prefix.result c.strip_prefix.ensures.cases)

pub loop-i-init : goal.loop-i-init
loop-i-init g c = so_far_none g.T.Field.one (length c.args.out.now) c.args.text.now c.args.out.now refl (search rules)

pub returns-in_err-x : goal.returns-in_err-x
returns-in_err-x g c =
    rw c.from_residual.ensures (so_far_bad g.T.Field.one (length c.args.out.now) c.args.text.now c.loop-i.invariant c.if-i-last.end (omega arith) (ended g (goal.at.returns-in_err-x g c).Joined-i-last) c.in_err-x.ensures)

pub loop-i-preserved : goal.loop-i-preserved
loop-i-preserved g c =
    so_far_more g.T.Field.one (length c.args.out.now) c.args.text.now c.loop-i.invariant c.if-i-last.end (omega arith) (ended g (goal.at.loop-i-preserved g c).Joined-i-last) c.in_ok-x.x c.in_ok-x.after.now c.in_ok-x.ensures

pub returns : goal.returns
returns g c = so_far_all g.T.Field.one (length c.args.out.now) c.args.text.now c.loop-i.invariant (omega arith)
