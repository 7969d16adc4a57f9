use Rattle.std.proofs.Common.{rules, sym, ap₂, ◌∙◌, ℤ}
use Rattle.dominant_edge.proofs.Finding.{by_size}
use Rattle.dominant_edge.proofs.edge_bounds.Goals as goal

pub returns : goal.returns
returns c =
    ap₂ (λ (x y : ℤ). record { lo = x; hi = y }) (search rules) (search rules) ∙ sym (by_size c.args.bounds c.args.w)
