use Rattle.rules.specs.Counts.{one_eliminated, one_three, one_contracted}
use Rattle.rules.specs.DegreeThree.{cubic, eliminate3}
use Rattle.rules.specs.DominantEdge.{weak, contract, contract_step}
use Rattle.rules.specs.Eliminate.{eliminate, step_of}
use Rattle.rules.specs.Graph.{Graph}
use Rattle.rules.specs.Run as run
use Rattle.rules.specs.declared.Step.{Step}
use Rattle.rules.specs.declared.Options.{Options}
use Rattle.graph.specs.declared.Near.{Near}
use Rattle.state.specs.Counting.{counts}
use Rattle.state.specs.declared.Did.TheVariants.{Nothing}
use Rattle.take.specs.Effects.{Leaves}
use Rattle.take.specs.EffectsLaws.{stepping, staying, idling}
use Rattle.take.specs.Ways.{way_of, Decides}
use Rattle.take.specs.declared.Taken.{Taken}
use Rattle.take.specs.declared.way.Way.{Way}
use Rattle.take.specs.declared.way.Way.TheVariants.{Inactive, Low, Into, Three, Idle}
use Rattle.std.proofs.Common.{◌≡◌, ◌⊎◌, inl, inr, ℕ, Bool, true, false, cond, Option, Some, None, refl, sym, ap, ◌∙◌}
use Rattle.std.proofs.Math.Path.{subst}
use Rattle.take.proofs.take.Goals as goal

-- what it leaves by the way that was told
told : (v : Way) (o : Options) (i : ℕ) (near : Near) (g g' : Graph) (r : Taken) → Decides v o g i near → Leaves (way_of v g i) i g r g' → Leaves (run.way o g i) i g r g'
told v o i near g g' r d h = subst (λ (x : run.Way). Leaves x i g r g') (sym d.is) h

pub returns-in-Inactive : goal.returns-in-Inactive
unfolding run.go
returns-in-Inactive c = by c.in-Inactive.is (c.decide.ensures c.neighbours-near.ensures)
  where
    by : {v : Way} {o : Options} {i : ℕ} {near : Near} {g : Graph} → (v ≡ Inactive) ⊎ (v ≡ Idle) → Decides v o g i near → Leaves (run.way o g i) i g (record { did = Nothing; made = None }) g
    by {v} {o} {i} {near} {g} (inl e) d = told Inactive o i near g g _ (subst (λ (x : Way). Decides x o g i near) e d) (idling run.inactive i g _ (λ opt S. refl) refl)
    by {v} {o} {i} {near} {g} (inr e) d = told Idle o i near g g _ (subst (λ (x : Way). Decides x o g i near) e d) (idling run.idle i g _ (λ opt S. refl) refl)

pub returns-in-Low : goal.returns-in-Low
unfolding run.go
returns-in-Low c =
    let a = c.args in
    let i = a.i in
    let g = a.g.now in
    let r = c.with.ensures in
    told Low a.options i c.neighbours-near.result g _ _ (c.in-Low.ensures c.neighbours-near.ensures)
    (stepping run.low i g _ _ (eliminate i) (λ x. step_of x i) (λ x. one_eliminated) (λ opt S. refl) _ (ap (λ (x : Taken). x.made) r) c.eliminate-step.ensures.0 c.eliminate-step.ensures.1 (ap (λ (x : Taken). counts x.did) r) c.mask-before.ensures)

pub returns-in-Into : goal.returns-in-Into
unfolding run.go
returns-in-Into c =
    let a = c.args in
    let i = a.i in
    let j = c.in-Into.j in
    let g = a.g.now in
    let r = c.with-in-Into.ensures in
    let d = c.in-Into.ensures c.neighbours-near.ensures in
    told (Into j c.in-Into.weak) a.options i c.neighbours-near.result g _ _ d
    (stepping (run.into j) i g _ _ (contract i j) (λ x. contract_step i j x) (λ x. one_contracted (weak x i j)) (λ opt S. refl) _ (ap (λ (x : Taken). x.made) r) c.contract-step.ensures.0 c.contract-step.ensures.1
    (ap (λ (x : Taken). counts x.did) r ∙ ap (λ (t : Bool). one_contracted t) d.fitting.1) c.mask-before.ensures)

-- what it leaves by the third way, once it is known whether the term is cubic
tried : (g : Graph) (i : ℕ) (t : Bool) → cubic g i ≡ t → (r : Taken) (g' : Graph) → Leaves (cond t run.failed run.three) i g r g' → Leaves (way_of Three g i) i g r g'
tried g i t seen r g' h = subst (λ (b : Bool). Leaves (cond b run.failed run.three) i g r g') (sym seen) h

module _ (g : Graph) (i : ℕ) (r : Option Step) (s : Step) (is : r ≡ cond (cubic g i) None (Some s)) where
  cubic_none : r ≡ None → cubic g i ≡ true
  cubic_none e = go (cubic g i) (sym e ∙ is)
    where
      go : (t : Bool) → None ≡ cond t None (Some s) → t ≡ true
      go true h = refl
      go false h = absurd (cc)

  cubic_some : (x : Step) → r ≡ Some x → (cubic g i ≡ false) × (x ≡ s)
  cubic_some x e = go (cubic g i) (sym e ∙ is)
    where
      go : (t : Bool) → Some x ≡ cond t None (Some s) → (t ≡ false) × (x ≡ s)
      go true h = absurd (cc)
      go false h = (refl, cc)

pub returns-in-Some : goal.returns-in-Some
unfolding run.go
returns-in-Some c =
    let i = c.args.i in
    let g = c.args.g.now in
    let e = c.eliminate_three.ensures in
    let z = cubic_some g i _ _ e.0 c.in-Some.step c.in-Some.is in
    let left = e.1 ∙ ap (λ (b : Bool). cond b g (eliminate3 i g)) z.0 in
    let r = c.with-in-Some.ensures in
    told Three c.args.options i c.neighbours-near.result g _ _ (c.in-Three.ensures c.neighbours-near.ensures)
    (tried g i false z.0 _ _ (stepping run.three i g _ _ (eliminate3 i) (λ x. step_of x i) (λ x. one_three) (λ opt S. refl) _ (ap (λ (x : Taken). x.made) r) left z.1 (ap (λ (x : Taken). counts x.did) r) c.mask-before.ensures))

pub returns-in-None : goal.returns-in-None
unfolding run.go run.skipped
returns-in-None c =
    let i = c.args.i in
    let g = c.args.g.now in
    let e = c.eliminate_three.ensures in
    let z = cubic_none g i _ _ e.0 c.in-None.is in
    let left = e.1 ∙ ap (λ (b : Bool). cond b g (eliminate3 i g)) z in
    told Three c.args.options i c.neighbours-near.result g _ _ (c.in-Three.ensures c.neighbours-near.ensures)
    (tried g i true z _ _ (staying run.failed i g _ _ (λ opt S. refl) refl left))
