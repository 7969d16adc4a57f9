use Rattle.std.proofs.Common.{◌≡◌, sym, ap, ap₂, ◌∙◌, arith, Bool, true, false, ◌&&◌, ℕ, ◌+◌, ◌-◌, ◌<◌, add-one, bit_or, get_or, take, length-take, get_or-take}
use native.Mathlib.Nat.{sub-zero}
use Rattle.whole.specs.Words.{bit, from, upto, mem, all}
use Rattle.whole.specs.Masks.{without}
use Rattle.rules.specs.Record.{no_step, step_at, decided, step_fine}
use Rattle.rules.specs.declared.Step.{Step}
use Rattle.rules.specs.declared.Record.{Record}
use Rattle.broken.specs.Masks.{alone, step_asked}
use Rattle.broken.proofs.Decided.{decided_none, decided_more, low_decision, step_asked_lem, all_stepped}
use Rattle.broken.proofs.Ranges.{all_turn, all_over}
use Rattle.broken.proofs.steps_fine.Goals as goal
use Rattle.broken.proofs.steps_fine.Goals.{After-step_fine}

goes_on : (r : Record) (k : ℕ) (b : Bool) → k < r.count → all (step_fine r) (upto r.count) ≡ all (step_fine r) (from k (r.count - k)) → step_fine r k ≡ b → all (step_fine r) (upto r.count) ≡ (b && all (step_fine r) (from (k + 1) (r.count - (k + 1))))
goes_on r k b h so e = so ∙ all_turn (step_fine r) k r.count h ∙ ap (λ (t : Bool). t && all (step_fine r) (from (k + 1) (r.count - (k + 1)))) e

module _ (c : After-step_fine) where
  -- the step that the walk has come to
  here : get_or (take c.args.r.count c.args.r.steps) c.loop-s.s-index no_step ≡ step_at c.args.r c.loop-s.s-index
  here = get_or-take c.args.r.count c.args.r.steps c.loop-s.s-index no_step (omega (arith, length-take c.args.r.count c.args.r.steps))

  its_mask : c.only.result ≡ alone (step_at c.args.r c.loop-s.s-index).decision
  its_mask = c.only.ensures ∙ ap (λ (s : Step). alone s.decision) here

  -- its tests, as the masks show them
  told : c.step_fine.result ≡ step_fine c.args.r c.loop-s.s-index
  told =
      c.step_fine.ensures ∙ ap (step_asked c.without-due.result c.without-free.result) here
      ∙ ap₂ (λ (x y : ℕ). step_asked x y (step_at c.args.r c.loop-s.s-index)) c.without-due.ensures (c.without-free.ensures ∙ ap (λ (x : ℕ). without c.args.unfixed (bit_or c.loop-s.decided x)) its_mask)
      ∙ step_asked_lem c.args.r c.loop-s.s-index c.loop-s.decided c.loop-s.invariant.decided c.requires

pub loop-s-init : goal.loop-s-init
loop-s-init c = record { fine = rw sub-zero; decided = decided_none c.args.r }

pub returns-then-not-step_fine : goal.returns-then-not-step_fine
returns-then-not-step_fine c =
    let t = told (goal.at.returns-then-not-step_fine c).After-step_fine in
    sym (rw (goes_on c.args.r c.loop-s.s-index false (omega arith) c.loop-s.invariant.fine (sym t ∙ c.if-not-step_fine.true)))

pub loop-s-preserved : goal.loop-s-preserved
loop-s-preserved c =
    let r = c.args.r in
    let l = c.loop-s in
    let a = (goal.at.loop-s-preserved c).After-step_fine in
    let fine : step_fine r l.s-index ≡ true = sym (told a) ∙ c.if-not-step_fine.false in
    let low = low_decision r l.s-index l.decided l.invariant.decided c.requires fine in
    record {
      fine = goes_on r l.s-index true (omega arith) l.invariant.fine fine;
      decided = λ j. ap (λ (x : ℕ). bit (bit_or l.decided x) j) (its_mask a) ∙ decided_more r l.s-index l.decided l.invariant.decided low j ∙ ap (λ (n : ℕ). mem j (decided r n)) (sym (add-one l.s-index));
    }

pub returns : goal.returns
returns c =
    let l = c.loop-s in
    let r = c.args.r in
    let last : l.s-index ≡ r.count = omega (arith, length-take c.args.r.count c.args.r.steps) in
    let fine : all (step_fine r) (upto r.count) ≡ true = l.invariant.fine ∙ all_over (step_fine r) l.s-index r.count (omega arith) in
    rw fine (all_stepped r l.s-index l.decided l.invariant.decided c.requires c.without.result c.without.ensures (omega arith) last)
