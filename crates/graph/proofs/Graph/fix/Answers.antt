use Rattle.std.specs.Int.{w64}
use Rattle.std.proofs.Common.{to_z, of_z, arith, ◌≡◌, ◌≤◌, ◌+◌, ◌*◌, List, ◌∷◌, refl, ℕ, ℤ, pos, get_or, ap, ◌∙◌, subst}
use Rattle.whole.specs.Lists.{tab_at}
use Rattle.whole.specs.Masks.{these}
use Rattle.rules.specs.Graph.{Graph, lin, edge, add_constant}
use Rattle.rules.specs.Fixing as rule
use Rattle.accepted_laws.specs.Mass.{weight_at}
use Rattle.graph.specs.MaskLaws.{these_head}
use Rattle.graph.proofs.Fixing.{Spreading, dropped_mass, fix_sum, spread_begin, spread_fits, spread_turn, spread_end}
use Rattle.graph.proofs.Laws.{mass_read}
use Rattle.graph.proofs.Graph.fix.Goals as goal
use Rattle.graph.proofs.Graph.fix.Goals.{After-self, In-Some}

pub returns-then-v-eq0 : goal.returns-then-v-eq0
unfolding rule.fix
returns-then-v-eq0 c = rw (c.if-v-eq0.true, c.drop_to.ensures) (refl, dropped_mass 0 c.args.i c.args.self.now)

-- what is read of the fields
module _ (c : After-self) where
  weight : to_z w64 (of_z w64 (get_or c.self.inside.linear c.args.i (pos 0))) ≡ lin c.args.self.now c.args.i
  weight =
      let g = c.args.self.now in
      ap (λ (x : Graph). to_z w64 (of_z w64 (lin x c.args.i))) c.self.view_is ∙ mass_read (lin g c.args.i) (omega (arith, c.requires.2, weight_at g.linear c.args.i))

-- and of the row
row_is : (c : In-Some) → to_z w64 (of_z w64 (get_or c.row-row.result c.in-Some.j (pos 0))) ≡ edge c.args.self.now c.args.i c.in-Some.j
row_is c =
    let j = c.in-Some.j in
    let g = c.args.self.now in
    let f : ℕ → ℤ = λ j. edge g c.args.i j in
    ap (λ (z : ℤ). to_z w64 (of_z w64 z))
    (ap (λ (l : List ℤ). get_or l j (pos 0)) c.row-row.ensures ∙ tab_at f 64 j (pos 0) (these_head c.loop-j.j-iterator.0 j (these c.next.new.self.0) c.in-Some.ensures.steps))
    ∙ mass_read (f j) (omega (arith, c.requires.2, weight_at g.edges (64 * c.args.i + j)))

pub add_constant-requires : goal.add_constant-requires
add_constant-requires c = rw (weight (goal.at.add_constant-requires c).After-self, c.drop_to-2.ensures) (fix_sum 1 c.args.i c.args.self.now c.requires.2)

small : (c : After-self) → c.args.self.now.n ≤ 64
small c = subst (λ (x : Graph). x.n ≤ 64) c.self.view_is c.self.invariant.0

pub loop-j-init : goal.loop-j-init
loop-j-init c =
    let s = (goal.at.loop-j-init c).After-self in
    let begun = c.add_constant.ensures ∙ ap (λ (z : ℤ). add_constant z c.drop_to-2.new.self) (weight s) ∙ ap (add_constant (lin c.args.self.now c.args.i)) c.drop_to-2.ensures in
    rw c.into_iter-j-iterator.ensures.into_iter_gives
    (spread_begin c.args.i c.args.self.now c.add_constant.new.self (these c.mask-near.result) begun c.mask-near.ensures c.requires.0 (small s))

-- what the turn finds, with this neighbour first
turn : (c : In-Some) → Spreading c.args.i c.args.self.now c.loop-j.self (c.in-Some.j ∷ these c.next.new.self.0)
turn c = subst (Spreading c.args.i c.args.self.now c.loop-j.self) c.in-Some.ensures.steps c.loop-j.invariant

pub add_linear-requires : goal.add_linear-requires
add_linear-requires c =
    let t = (goal.at.add_linear-requires c).In-Some in
    let j = c.in-Some.j in
    (these_head c.loop-j.j-iterator.0 j (these c.next.new.self.0) c.in-Some.ensures.steps, spread_fits c.args.i c.args.self.now c.loop-j.self j (these c.next.new.self.0) (turn t) _ (row_is t) c.requires.2)

pub loop-j-preserved : goal.loop-j-preserved
loop-j-preserved c =
    let t = (goal.at.loop-j-preserved c).In-Some in
    spread_turn c.args.i c.args.self.now c.loop-j.self c.in-Some.j (these c.next.new.self.0) (turn t) _ (row_is t) c.add_linear.new.self c.add_linear.ensures

pub returns : goal.returns
returns c =
    let one : c.args.v ≡ 1 = omega (arith, c.requires.1, c.if-v-eq0.false) in
    rw one (spread_end c.args.i c.args.self.now c.loop-j.self (subst (Spreading c.args.i c.args.self.now c.loop-j.self) c.in-None.ensures.steps.0 c.loop-j.invariant))
