use Rattle.std.proofs.Common.{ap, ◌∙◌, arith}
use Rattle.rules.specs.Graph.{bare, add_terms, graph_of}
use Rattle.rules.specs.Fixing.{fix_all, start}
use Rattle.rules.specs.Given.{of_lists}
use Rattle.graph.proofs.Start.{bare_sums, termed_mass}
use Rattle.graph.proofs.Graph.begin.Goals as goal

pub add_terms-requires : goal.add_terms-requires
unfolding bare
add_terms-requires c = let f = c.requires.0 in rw c.requires.1 (f.first_below, f.second_below, bare_sums (of_lists c.args.o) f)

pub fix_all-requires : goal.fix_all-requires
fix_all-requires c =
    let o = of_lists c.args.o in
    let f = c.requires.0 in
    (omega (arith, f.fixings, f.small), termed_mass o c.add_terms.new.self (c.add_terms.ensures.0 ∙ ap (add_terms o.firsts o.seconds o.term_weights) c.requires.1) c.add_terms.ensures.1)

pub returns : goal.returns
unfolding start graph_of bare
returns c =
    let o = of_lists c.args.o in
    let r = c.fix_all.ensures in
    let begun = r.0 ∙ ap (fix_all 0 o.fixings) (c.add_terms.ensures.0 ∙ ap (add_terms o.firsts o.seconds o.term_weights) c.requires.1) in
    (begun, r.1, λ switches budget. begun)
