use Rattle.std.proofs.Common.{◌∙◌, ap, arith, pos, ℕ, ◌*◌, ◌+◌, ◌-◌, ◌≡◌, take, drop}
use Rattle.rules.specs.Graph.{Graph, edge}
use Rattle.whole.specs.Words.{tab}
use Rattle.graph.proofs.Rows.{cut_tab}
use Rattle.graph.proofs.Graph.row.Goals as goal

pub returns : goal.returns
returns c =
    let g = c.self.inside in
    let i = c.args.i in
    let long : 64 * i + 64 - 64 * i ≡ 64 = omega arith in
    c.copy_from_slice.ensures.after
    ∙ ap (λ (k : ℕ). take k (drop (64 * i) g.edges)) long
    ∙ cut_tab (pos 0) (64 * i) 64 g.edges (omega (arith, c.self.told.1))
    ∙ ap (λ (x : Graph). tab (λ j. edge x i j) 64) c.self.view_is
