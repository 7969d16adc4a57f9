-- From where the code's run ended to what the call gives.
-- Assumes nothing.
use Rattle.std.specs.Prelude.{◌≡◌, Bool, List, map, ℕ, ◌+◌, ◌<◌, ◌≤◌, length, ℤ, Result, Ok, Err}
use Rattle.std.proofs.Common.{ap, ◌∙◌, subst, arith}
use Rattle.std.proofs.lemmas.List.{length-map}
use Rattle.whole.specs.Words.{upto}
use Rattle.rules.specs.Objective.{Objective}
use Rattle.rules.specs.Graph.{Graph, actives}
use Rattle.rules.specs.Fixing.{start}
use Rattle.rules.specs.Run as rule
use Rattle.rules.specs.Outcome.{linear_out, edge_out, outcome_of, outcome}
use Rattle.rules.specs.Record.{hold, hold_all}
use Rattle.rules.specs.Refuse.{reduce_refusal}
use Rattle.rules.specs.Numbers.{number_of, answer_of}
use Rattle.rules.specs.Call.{reported, reduction, linear_after, edges_after}
use Rattle.rules.specs.Options.{asked}
use Rattle.rules.specs.declared.Reduction.{Reduction}
use Rattle.rules.specs.declared.refusal.Refusal.{Refusal}
use Rattle.accepted_laws.specs.Accept.{Fit}
use Rattle.accepted_laws.specs.Answers.{unless_kept, unless_done}
use Rattle.sound_laws.proofs.SoundEnded.{ended_n}
use Rattle.run_laws.proofs.RunEnds.{ended_few}
use Rattle.run_laws.specs.InOrder.{Room}
use Rattle.run_laws.proofs.InOrderLaws.{ended_room}
use Rattle.outputs.specs.Out.{linear_of, cell_of}
use Rattle.outputs.specs.OutLaws.{linear_of_lem, edges_of}
use Rattle.run.specs.Course.{Ends}
use Rattle.run.specs.declared.Reached.{Reached}
use Rattle.reduce.specs.Gives.{Gives, Done, report_from}

-- the run that the code made is the run of the objective
pub ended_at : (o : Objective) (h g : Graph) (done : Bool) (at : Reached) → h ≡ start o → Ends (rule.run o.budget (asked o) (rule.begin (asked o) h)) done g at → Ends (rule.ended o) done g at
unfolding rule.ended
ended_at o h g done at e k = subst (λ (x : Graph). Ends (rule.run o.budget (asked o) (rule.begin (asked o) x)) done g at) e k

module _ (o : Objective) (fit : Fit o) (done : Bool) (g : Graph) (at : Reached) (k : Ends (rule.ended o) done g at) where
  room : Room (rule.ended o).state
  room = ended_room o fit

  made : length at.steps ≡ length (rule.ended o).state.steps
  made = ap length k.holds.steps ∙ length-map (rule.ended o).state.steps hold

  pub end_steps_lem : length at.steps ≤ 64
  end_steps_lem = omega (arith, made, room.steps)

  pub end_blocks : at.state.blocks ≤ 32
  end_blocks = omega (arith, k.holds.blocks, room.blocks)

  pub end_units : at.state.takes + at.state.blocks < 4294967296
  end_units = omega (arith, k.holds.takes, k.holds.blocks, ended_few o fit)

  module _ (rs : List ℕ) (is : rs ≡ actives g) where
    remaining : length rs ≡ length (actives (rule.ended o).state.graph)
    remaining = ap length is ∙ ap (λ (x : Graph). length (actives x)) k.holds.graph

    reports : report_from g at (length rs) done ≡ reported o.n (outcome o)
    unfolding outcome outcome_of hold_all
    reports =
        let n : g.n ≡ o.n = ap (λ (x : Graph). x.n) k.holds.graph ∙ ended_n o fit in
        let c = ap (λ (x : Graph). x.constant) k.holds.graph in
        let ss = ap (λ (x : Graph). x.states) k.holds.graph in
        cc (n, c, ss, remaining, made, k.holds.steps, k.holds.takes, k.holds.blocks, k.complete, k.holds.counted)

    pub run_done : (z : Reduction) (l' e' : List ℤ) → z ≡ report_from g at (length rs) done → l' ≡ linear_of g.linear rs → e' ≡ map (cell_of g.edges rs) (upto 4096) → Done o z l' e'
    unfolding outcome outcome_of
    run_done z l' e' p q s = record {
      reduction = p ∙ reports;
      linear = q ∙ linear_of_lem g rs is ∙ ap linear_out k.holds.graph;
      edges = s ∙ edges_of g rs is ∙ ap edge_out k.holds.graph;
    }

-- the number that is given is the refusal's
pub answer_is : {o : Objective} {l e : List ℤ} {r : Result Reduction Refusal} {l' e' : List ℤ} → Gives o l e r l' e' → answer_of r ≡ reduce_refusal o (length l) (length e)
answer_is g = g.reduction.number_is

module _ (o : Objective) (l e : List ℤ) where
  pub gives_refused : (k : Refusal) → number_of k ≡ reduce_refusal o (length l) (length e) → Gives o l e (Err k) l e
  unfolding linear_after edges_after
  gives_refused k n = record {
    reduction = record { number_is = n; value_is = tt };
    linear = unless_kept (reduce_refusal o (length l) (length e)) k (outcome o).linear l n;
    edges = unless_kept (reduce_refusal o (length l) (length e)) k (outcome o).edges e n;
  }

  pub gives_done : (z : Reduction) (l' e' : List ℤ) → 0 ≡ reduce_refusal o (length l) (length e) → Done o z l' e' → Gives o l e (Ok z) l' e'
  unfolding reduction linear_after edges_after
  gives_done z l' e' n d = record {
    reduction = record { number_is = n; value_is = d.reduction };
    linear = d.linear ∙ unless_done (reduce_refusal o (length l) (length e)) (outcome o).linear l n;
    edges = d.edges ∙ unless_done (reduce_refusal o (length l) (length e)) (outcome o).edges e n;
  }
