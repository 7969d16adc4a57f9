use Rattle.std.proofs.Common.{◌≡◌, sym, ◌∙◌, arith, rules, true, cond, leb, eqb, ℕ, get_or, take, bit_or, ◌+◌, ◌^◌, Some, None}
use mathlib.Core.Bool.{not}
use Rattle.std.specs.Int.Bits.{or_zero_r}
use Rattle.std.proofs.lemmas.List.Folds.{list_all_more}
use Rattle.whole.specs.Masks.{single_is, bit_none}
use Rattle.broken.specs.Marks.{fixed, eliminated}
use Rattle.broken.specs.Masks.{is_unfixed, is_eliminated, all_known, Picks}
use Rattle.broken.proofs.MarkLaws.{known_is, fixed_is, eliminated_is}
use Rattle.broken.proofs.Ranges.{one_fails, picked}
use Rattle.broken.proofs.states_of.Goals as goal
use Rattle.broken.proofs.states_of.Goals.{in-Fixed, in-Remaining, in-Eliminated}

pub loop-i-init : goal.loop-i-init
loop-i-init c = search (rules, bit_none)

pub returns-in_err-mark_of : goal.returns-in_err-mark_of
returns-in_err-mark_of c =
    let b = get_or c.args.states.now c.loop-i.i 0 in
    rw c.from_residual.ensures (one_fails (λ s. leb s 3) c.args.states.now c.loop-i.i (omega arith) (sym (known_is b None c.in_err-mark_of.ensures)))

pub loop-i-preserved : goal.loop-i-preserved
loop-i-preserved c =
    let l = c.loop-i in
    let ss = c.args.states.now in
    let b = get_or ss l.i 0 in
    let m = c.in_ok-mark_of.ensures in
    let k : leb b 3 ≡ true = sym (known_is b (Some c.in_ok-mark_of.field-0) m) in
    let a : all_known (take (l.i + 1) ss) ≡ true = list_all_more (λ s. leb s 3) ss l.i 0 (omega arith) ∙ rw (l.invariant.known, k) in
    let u : (x : ℕ) → x ≡ bit_or l.sorted.unfixed (cond (not (fixed (Some c.in_ok-mark_of.field-0))) (2 ^ l.i) 0) → Picks x (is_unfixed ss (l.i + 1)) =
    λ x h. picked (λ j. leb 2 (get_or ss j 0)) l.i l.sorted.unfixed x _ (fixed_is b (Some c.in_ok-mark_of.field-0) m) h l.invariant.unfixed in
    let e : (x : ℕ) → x ≡ bit_or l.sorted.eliminated (cond (eliminated (Some c.in_ok-mark_of.field-0)) (2 ^ l.i) 0) → Picks x (is_eliminated ss (l.i + 1)) =
    λ x h. picked (λ j. eqb (get_or ss j 0) 3) l.i l.sorted.eliminated x _ (eliminated_is b (Some c.in_ok-mark_of.field-0) m) h l.invariant.eliminated in
    let one = single_is l.i (omega arith) in
    record {
      known = a;
      unfixed = u c.match-branch-2.sorted.unfixed (elim c.match-branch-2.branch [
        | in-Fixed w ↦ rw (w.sorted-is, w.in-Fixed.is) (sym (or_zero_r l.sorted.unfixed))
        | in-Remaining w ↦ rw (w.sorted-is, w.in-Remaining.is, one)
        | in-Eliminated w ↦ rw (w.sorted-is, w.in-Eliminated.is, one)
      ]);
      eliminated = e c.match-branch-2.sorted.eliminated (elim c.match-branch-2.branch [
        | in-Fixed w ↦ rw (w.sorted-is, w.in-Fixed.is) (sym (or_zero_r l.sorted.eliminated))
        | in-Remaining w ↦ rw (w.sorted-is, w.in-Remaining.is) (sym (or_zero_r l.sorted.eliminated))
        | in-Eliminated w ↦ rw (w.sorted-is, w.in-Eliminated.is, one)
      ]);
    }
