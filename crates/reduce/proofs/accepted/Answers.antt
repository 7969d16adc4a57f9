-- `reduce::accepted` meets its contract: the run that it made is the objective's, and what is written and reported is its end. Assumes nothing.
use Rattle.std.proofs.Common.{rules, subst, is_ok, ◌≡◌, ◌∙◌}
use Rattle.whole.specs.Words.{tab}
use Rattle.rules.specs.Given.{of_lists}
use Rattle.rules.specs.Run as rule
use Rattle.rules.specs.declared.Options.{Options}
use Rattle.run.specs.Course.{Ends}
use Rattle.outputs.specs.Out.{rest, active_of, linear_at, edge_at}
use Rattle.outputs.specs.RestLaws.{actives_are, length_rest, linear_out_lem, edges_out}
use Rattle.reduce.specs.GivesLaws.{ended_at, end_steps_lem, end_blocks, end_units, run_done}
use Rattle.reduce.proofs.accepted.Goals as goal
use Rattle.reduce.proofs.accepted.Goals.{After-run-reached}

-- where the run ended
ends : (c : After-run-reached) → Ends (rule.ended (of_lists c.args.o)) (is_ok c.run-reached.result.1) c.run-reached.new.g c.run-reached.result.0
ends c =
    let o = of_lists c.args.o in
    let r = c.run-reached in
    let asks : Options → Type 0 = λ x. Ends (rule.run o.budget x (rule.begin x c.begin.new.self)) (is_ok r.result.1) r.new.g r.result.0 in
    ended_at o c.begin.new.self r.new.g (is_ok r.result.1) r.result.0 c.begin.ensures.0 (subst asks c.from.ensures r.ensures)

pub report-requires : goal.report-requires
report-requires c =
    let o = of_lists c.args.o in
    let r = c.run-reached in
    let e = ends (goal.at.report-requires c).After-run-reached in (
      end_steps_lem o c.requires.fit (is_ok r.result.1) r.new.g r.result.0 e,
      end_blocks o c.requires.fit (is_ok r.result.1) r.new.g r.result.0 e,
      end_units o c.requires.fit (is_ok r.result.1) r.new.g r.result.0 e,
    )

pub returns : goal.returns
returns c =
    let r = c.run-reached in
    let g = r.new.g in
    let m = c.still_there-rest.result in
    let ok = c.still_there-rest.ensures.1 in
    let there : rest m ≡ active_of g.states g.n = search rules in
    let linear : c.write_linear.new.linear ≡ tab (linear_at g.linear m.list m.len) 64 = search rules in
    let edges : c.write_edges.new.edges ≡ tab (edge_at g.edges m.list m.len) 4096 = search rules in
    run_done (of_lists c.args.o) c.requires.fit (is_ok r.result.1) g r.result.0 (ends (goal.at.returns c).After-run-reached) (rest m) (there ∙ actives_are g) c.report.result c.write_linear.new.linear c.write_edges.new.edges
    (rw (length_rest m ok, ← c.is_ok.ensures.value) c.report.ensures)
    (linear ∙ linear_out_lem m ok g.linear) (edges ∙ edges_out m ok g.edges)
