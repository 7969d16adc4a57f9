use Rattle.std.proofs.Common.{drop}
use Rattle.rules.specs.WriteText.{edge_lines}
use Rattle.decimal.specs.Puts.{Left}
use Rattle.write_text.proofs.put_edges.Given as goal

abbrev pub invariant-loop-k : goal.invariant-loop-k
invariant-loop-k l = Left l.initial.page (edge_lines 0 l.edges) l.page (edge_lines l.k (drop l.k l.edges))
