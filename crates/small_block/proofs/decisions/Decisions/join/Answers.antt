use Rattle.std.proofs.Common.{◌<◌, ◌++◌, List, ℕ, length, sym, ap, ◌∙◌, arith, length-append, length-set, length-take-le, take}
use Rattle.whole.specs.Masks.{these}
use Rattle.whole.specs.Stores.{store_more}
use Rattle.small_block.proofs.decisions.Decisions.join.Goals as goal
use Rattle.small_block.proofs.decisions.Decisions.join.Goals.{In-Some}

-- there is room for one more
room : (c : In-Some) → c.loop-j.self-inside.count < 64
room c =
    let b = c.loop-j.self-inside in
    omega (
      arith,
      c.requires,
      ap length c.loop-j.invariant.joined,
      length-append (take b.count b.order) (these c.loop-j.j-iterator.0),
      length-take-le b.count b.order (omega (arith, c.loop-j.invariant.few, c.loop-j.invariant.long)),
      ap length c.in-Some.ensures.steps,
      length-append (take c.self.inside.count c.self.inside.order) (these c.args.new),
      ap length c.self.view_is,
    )

pub bounds-self-inside-self-inside : goal.bounds-self-inside-self-inside
bounds-self-inside-self-inside c = room c.before

pub loop-j-preserved : goal.loop-j-preserved
loop-j-preserved c =
    let l = c.loop-j in
    let b = l.self-inside in
    let has : b.count < 64 = room c.before.before in
    record {
      can = tt;
      ends = tt;
      few = omega arith;
      long = length-set b.order b.count c.in-Some.j ∙ l.invariant.long;
      joined =
          store_more b.order b.count c.in-Some.j (these c.next.new.self.0) (omega (arith, l.invariant.long))
          ∙ ap (λ (xs : List ℕ). take b.count b.order ++ xs) (sym c.in-Some.ensures.steps) ∙ l.invariant.joined;
    }
