use Rattle.std.proofs.Common.{refl, ap, sym, ◌∙◌, arith, ℕ, ◌<◌, List, ◌++◌, length, append-nil, length-set, true, false, ◌≡◌}
use Rattle.std.proofs.lemmas.Bool.Decides.{nat_tests}
use Rattle.std.proofs.Math.Nat.{sub-zero}
use Rattle.whole.specs.Lists.{below_set}
use Rattle.outputs.specs.Out.{rest}
use Rattle.outputs.specs.OutLaws.{zero_at, those_same, those-end, list_grown}
use Rattle.outputs.specs.Listing.{listing_begin, listing_same, listing_more}
use Rattle.outputs.proofs.still_there.Invariants.{two}
use Rattle.outputs.proofs.still_there.Goals as goal
use Rattle.outputs.proofs.still_there.Goals.{then-is_active, else-is_active}

pub loop-i-init : goal.loop-i-init
loop-i-init c = record {
  few = omega arith;
  long = refl;
  each = zero_at 64;
  listing = listing_begin;
  all = rw sub-zero;
}

pub loop-i-preserved : goal.loop-i-preserved
loop-i-preserved c =
    let l = c.loop-i in
    let v = l.invariant in
    let n = c.args.n in
    let ss = c.args.states.now in
    let room : l.r.len < length l.r.list = omega arith in
    let low : l.i < 64 = omega arith in
    elim c.if-is_active.branch [
      | then-is_active w ↦ let on : two ss l.i ≡ true = grind (arith, nat_tests) in rw w.r-is record {
        few = omega arith;
        long = length-set l.r.list l.r.len l.i ∙ v.long;
        each = below_set 64 l.r.list l.r.len l.i room low v.each;
        listing = listing_more l.i l.r.list l.r.places l.r.len v.listing v.long v.few low;
        all = list_grown (two ss) n l.i l.r.list l.r.len _ room c.loop-i-test.true on v.all;
      }
      | else-is_active w ↦ let off : two ss l.i ≡ false = grind (arith, nat_tests) in rw w.r-is record {
        few = omega arith;
        long = v.long;
        each = v.each;
        listing = listing_same l.i l.r.list l.r.places l.r.len v.listing;
        all = ap (λ (t : List ℕ). rest l.r ++ t) (sym (those_same (two ss) n l.i c.loop-i-test.true off)) ∙ v.all;
      }
    ]

pub returns : goal.returns
returns c =
    let l = c.loop-i in
    let v = l.invariant in
    let a = c.args in
    let none_left = those-end (two a.states.now) a.n l.i c.loop-i-test.false in
    (sym (append-nil _) ∙ ap (λ (t : List ℕ). rest l.r ++ t) (sym none_left) ∙ v.all, record { few = omega arith; long = v.long; each = v.each }, v.listing.turned)
