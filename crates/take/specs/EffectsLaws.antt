-- A take that makes a step, and one that makes none.
-- Assumes nothing.
use Rattle.std.specs.Prelude.{◌≡◌, refl, List, Some, None, ℕ, ◌≤◌, get_or}
use Rattle.std.proofs.Common.{sym, ap, ap₂, ◌∙◌, subst, add-zero}
use Rattle.whole.specs.Masks.{these}
use Rattle.rules.specs.Graph.{Graph, neighbours}
use Rattle.rules.specs.Counts.{nothing_counted, plus}
use Rattle.rules.specs.Eliminate as rule
use Rattle.rules.specs.Record.{hold}
use Rattle.rules.specs.Run as run
use Rattle.rules.specs.declared.Options.{Options}
use Rattle.rules.specs.declared.Tally.{Tally}
use Rattle.graph.specs.Shows.{Shows}
use Rattle.graph.specs.ShowsLaws as graph
use Rattle.state.specs.Counting.{counts}
use Rattle.state.specs.declared.Did.TheVariants.{Nothing}
use Rattle.take.specs.Effects.{Ready, recounted, Stepped, Leaves}
use Rattle.take.specs.declared.Made.{Made}
use Rattle.take.specs.declared.Taken.{Taken}

-- the mask of i shows its neighbours
pub mask_around : (g : Graph) (masks : List ℕ) (i : ℕ) → Ready g i → g.n ≤ 64 → Shows g.n g.edges masks → these (get_or masks i 0) ≡ neighbours g i
mask_around g masks i r few s = graph.shown_neighbours g.n g.edges masks s few g.constant g.linear g.states i r.below

module _ (v : run.Way) (i : ℕ) (g g' : Graph) (r : Taken) where
  -- the graph changes, and a step is made
  pub stepping : (change : Graph → Graph) (make : Graph → rule.Step) (count : Graph → Tally)
      → ((opt : Options) (S : run.State) → run.go v opt i S ≡ run.reduced opt S i (change S.graph) (make S.graph) (count S.graph))
      → (made : Made) → r.made ≡ Some made → g' ≡ change g → made.step ≡ hold (make g) → counts r.did ≡ count g → these made.near ≡ neighbours g i → Leaves v i g r g'
  stepping change make count way made is left step c near = record {
    no = λ off. absurd (cc);
    yes = λ made' is'.
        let same : made ≡ made' = cc in
        subst (Stepped v i g g' (counts r.did)) same (
          make g,
          (step, (near, λ opt S h. way opt S ∙ ap (λ (x : Graph). run.reduced opt S i (change x) (make x) (count x)) h ∙ ap₂ (λ (x : Graph) (t : Tally). run.reduced opt S i x (make g) t) (sym left) (sym c))),
        );
  }

  -- no step is made, and the graph is as it was
  pub staying : ((opt : Options) (S : run.State) → run.go v opt i S ≡ recounted S S.graph (counts r.did)) → r.made ≡ None → g' ≡ g → Leaves v i g r g'
  staying way off left = record {
    no = λ _ opt S h. way opt S ∙ ap (λ (x : Graph). recounted S x (counts r.did)) (h ∙ sym left);
    yes = λ made on. absurd (cc);
  }

-- nothing is counted
none_counted : (t : Tally) → t ≡ plus t nothing_counted
unfolding plus
none_counted t = rw (add-zero t.eliminated, add-zero t.three, add-zero t.skipped, add-zero t.contracted, add-zero t.weakly, add-zero t.in_blocks)

nothing_done : (S : run.State) → S ≡ recounted S S.graph nothing_counted
nothing_done S = ap (λ (t : Tally). run.state S.graph S.queue S.steps t S.takes S.blocks) (none_counted S.counted)

-- a way that does nothing: all is as it was
pub idling : (v : run.Way) (i : ℕ) (g : Graph) (r : Taken) → ((opt : Options) (S : run.State) → run.go v opt i S ≡ S) → r ≡ record { did = Nothing; made = None } → Leaves v i g r g
idling v i g r way is = subst (λ (x : Taken). Leaves v i g x g) (sym is) (staying v i g g _ (λ opt S. way opt S ∙ nothing_done S) refl refl)
