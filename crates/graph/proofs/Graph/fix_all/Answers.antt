use Rattle.std.proofs.Common.{arith, ◌+◌, ◌<◌, ◌≤◌, length, drop, sym, ap, ◌∙◌}
use Rattle.std.proofs.lemmas.Bool.{lt-ltb, le-ltb}
use Rattle.rules.specs.Fixing.{fix_all}
use Rattle.graph.proofs.Laws.{fix_more, fix_same, fix_end}
use Rattle.graph.proofs.Graph.fix_all.Goals as goal
use Rattle.graph.proofs.Graph.fix_all.Goals.{then-v-lt2, else-v-lt2}

pub loop-i-preserved : goal.loop-i-preserved
loop-i-preserved c =
    let l = c.loop-i in
    let vs = c.args.fixings.now in
    let in_range : l.i < length vs = omega arith in
    elim c.if-v-lt2.branch [
      | then-v-lt2 w ↦
          let r = w.fix.ensures in
          rw w.self-is (omega (arith, r.1, l.invariant.0), l.invariant.1 ∙ fix_more vs l.i l.self in_range (lt-ltb _ _ w.if-v-lt2.true) ∙ ap (fix_all (l.i + 1) (drop (l.i + 1) vs)) (sym r.0))
      | else-v-lt2 w ↦ rw w.self-is (l.invariant.0, l.invariant.1 ∙ fix_same vs l.i l.self in_range (le-ltb _ _ w.if-v-lt2.false))
    ]

pub returns : goal.returns
returns c =
    let l = c.loop-i in
    let vs = c.args.fixings.now in
    let past : length vs ≤ l.i = omega arith in
    (sym (l.invariant.1 ∙ fix_end vs l.i l.self past), l.invariant.0)
