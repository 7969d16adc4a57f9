use Rattle.std.proofs.Common.{◌≡◌, ℕ, Bool, ◌&&◌, leb, eqb, leb-true, eqb-true, sym, ap, ◌∙◌}
use Rattle.std.proofs.lemmas.Bool.{eqb-false}
use Rattle.whole.specs.Tests.{and-true}
use Rattle.rules.specs.Options.{low_degree, degree_three}
use Rattle.rules.specs.declared.Options.{Options}
use Rattle.rules.specs.Graph.{Graph, degree}
use Rattle.graph.specs.Near.{near_at}
use Rattle.graph.specs.NearLaws.{near_count}
use Rattle.graph.specs.declared.Near.{Near}
use Rattle.dominant_edge.specs.AnswerLaws.{answer_none, answer_at}
use Rattle.take.specs.Ways.{dominant_if}
use Rattle.take.specs.WaysLaws.{way_inactive, way_low, way_into, way_three, way_idle, found_inside}
use Rattle.take.proofs.way.decide.Goals as goal

-- i's degree in the graph is the count of its neighbours
module _ (o : Options) (g : Graph) (i : ℕ) (near : Near) (e : near ≡ near_at g i) where
  by_low : {t : Bool} → (low_degree o && leb near.count 2) ≡ t → (low_degree o && leb (degree g i) 2) ≡ t
  by_low h = ap (λ (d : ℕ). low_degree o && leb d 2) (sym (near_count g i near e)) ∙ h

  by_three : {t : Bool} → (low_degree o && degree_three o && eqb near.count 3) ≡ t → (low_degree o && degree_three o && eqb (degree g i) 3) ≡ t
  by_three h = ap (λ (d : ℕ). low_degree o && degree_three o && eqb d 3) (sym (near_count g i near e)) ∙ h

pub returns-then-not-is_active : goal.returns-then-not-is_active
returns-then-not-is_active c = λ e.
    let a = c.args in
    record { is = way_inactive a.options a.g.now a.i (eqb-false _ 2 (sym c.is_active.ensures ∙ c.if-not-is_active.true)); fitting = tt }

pub returns-then-is_low : goal.returns-then-is_low
returns-then-is_low c = λ e.
    let a = c.args in
    let low = sym c.is_low.ensures ∙ c.if-is_low.true in
    record {
      is = way_low a.options a.g.now a.i (eqb-true _ 2 (sym c.is_active.ensures ∙ c.if-not-is_active.false)) (by_low a.options a.g.now a.i a.near e low);
      fitting = leb-true a.near.count 2 (and-true (low_degree a.options) (leb a.near.count 2) low).1;
    }

pub returns-in-Some : goal.returns-in-Some
returns-in-Some c = λ e.
    let a = c.args in
    let high = by_low a.options a.g.now a.i a.near e (sym c.is_low.ensures ∙ c.if-is_low.false) in
    let w = answer_at a.g.now a.i (dominant_if a.options a.g.now a.i) c.in-Some.j c.in-Some.weak (sym c.in-Some.is ∙ c.dominant_if.ensures) in
    record {
      is = way_into a.options a.g.now a.i (eqb-true _ 2 (sym c.is_active.ensures ∙ c.if-not-is_active.false)) high _ w.0;
      fitting = (found_inside a.options a.g.now a.i _ w.0, w.1);
    }

pub returns-then-is_three : goal.returns-then-is_three
returns-then-is_three c = λ e.
    let a = c.args in
    let high = by_low a.options a.g.now a.i a.near e (sym c.is_low.ensures ∙ c.if-is_low.false) in
    let nobody = answer_none a.g.now a.i (dominant_if a.options a.g.now a.i) (sym c.in_default.is ∙ c.dominant_if.ensures) in
    let three = sym c.is_three.ensures ∙ c.if-is_three.true in
    record {
      is = way_three a.options a.g.now a.i (eqb-true _ 2 (sym c.is_active.ensures ∙ c.if-not-is_active.false)) high nobody (by_three a.options a.g.now a.i a.near e three);
      fitting = eqb-true a.near.count 3 (and-true (low_degree a.options && degree_three a.options) (eqb a.near.count 3) three).1;
    }

pub returns : goal.returns
returns c = λ e.
    let a = c.args in
    let high = by_low a.options a.g.now a.i a.near e (sym c.is_low.ensures ∙ c.if-is_low.false) in
    let nobody = answer_none a.g.now a.i (dominant_if a.options a.g.now a.i) (sym c.in_default.is ∙ c.dominant_if.ensures) in
    record {
      is = way_idle a.options a.g.now a.i (eqb-true _ 2 (sym c.is_active.ensures ∙ c.if-not-is_active.false)) high nobody (by_three a.options a.g.now a.i a.near e (sym c.is_three.ensures ∙ c.if-is_three.false));
      fitting = tt;
    }
