-- Each reduction is sound: eliminate at degree at most 2, degree three not refused, contracting into a dominant neighbour, a block that the search found.
-- Assumes nothing.
use Rattle.std.specs.Prelude.{◌≡◌, Bool, not, ◌&&◌, List, [], ◌∷◌, ◌≢◌, ℕ, suc, ◌+◌, ◌*◌, ◌<◌, ◌≤◌, ◌^◌, eqb, set, ◌≤ℤ◌}
use Rattle.std.proofs.Math.Path.{refl, sym, ap}
use Rattle.std.proofs.Common.{◌∙◌}
use Rattle.std.proofs.Math.Bool.{true, false, cond}
use native.Mathlib.Omega.{arith}
use Rattle.std.proofs.Math.ListN.{length}
use Rattle.whole.specs.Words.{is_zero_z, mem, some, all, bit, one_if}
use Rattle.whole.specs.Pigeon.{Apart, none, one}
use Rattle.whole.specs.Members.{in_head, in_single, in_tail, out_cons, differ, apart_below}
use Rattle.rules.specs.Graph.{Graph, edge, neighbours, degree}
use Rattle.rules.specs.Eliminate.{Step, chooses, step_of, eliminate}
use Rattle.rules.specs.DegreeThree.{cubic, eliminate3}
use Rattle.rules.specs.DominantEdge.{positive, dominates, contract, contract_step}
use Rattle.rules.specs.SmallBlock.{boundary, best_mask, block_steps, eliminate_block, find_block, members}
use Rattle.rules.specs.Record.{ascending}
use Rattle.cost_laws.specs.CostLaws.{cost}
use Rattle.cost_laws.specs.EliminateLaws.{mask_at, AtMostTwo}
use Rattle.cost_laws.specs.ReduceLaws.{ReducedBy, Absorbed, absorbed_reduces, absorbed_never_more, eliminate_absorbed}
use Rattle.cost_laws.specs.DegreeThreeLaws.{Triple, triple_of}
use Rattle.cost_laws.proofs.ThreeAbsorbed.{three_absorbed}
use Rattle.cost_laws.specs.DominantLaws.{contract_choice, contract_reduces}
use Rattle.cost_laws.proofs.ContractBest.{contract_never_more}
use Rattle.cost_laws.specs.BlockCost.{mask_below, boundary_outside, pair_of}
use Rattle.cost_laws.specs.Found.{SmallBlock, found_block, found_live, found_least}
use Rattle.cost_laws.specs.Neat.{neat_tidy, boundary_live}
use Rattle.cost_laws.specs.BlockSteps.{choice_is, played_back}
use Rattle.cost_laws.proofs.BlockPlan.{block_grown_back}
use Rattle.cost_laws.specs.Growth.{neighbours_apart}
use Rattle.cost_laws.specs.Stands.{Fine, Alive, Stands, marked, alive_other, neighbours_alive, eliminate_stands, three_stands, contract_stands, block_stands}
use Rattle.objective_laws.specs.FixLaws.{reduced_plan, set_at}
use Rattle.cost_laws.specs.BlockCost.{cost_ext}
use Rattle.sound_laws.specs.Sound.{StepTaken, Steps, decisions, Sound}
use Rattle.sound_laws.specs.Ascending.{ascending_upto, bits_below}

-- ---- one decision, by one step whose choice is that of the reduction
module _ (g : Graph) (f : Fine g) (s : Step) (t : StepTaken g.n g.states s) where
  one_sound : {g' : Graph} {c : (ℕ → Bool) → Bool} → Stands g.n (set g.states s.decision 3) g' → ReducedBy s.decision c g g'
      → ((x : ℕ → Bool) → bit s.choices (mask_at x s.near) ≡ c x) → ((x : ℕ → Bool) → cost g' x ≤ℤ cost g x) → Sound g (s ∷ []) g'
  unfolding marked played_back
  one_sound {g'} {c} w r h never = record {
    taken = (t, tt);
    stands = w;
    exact = λ x.
        cost_ext g (played_back (s ∷ []) x) (set_at s.decision (c x) x) (λ k. ap (λ (b : Bool). cond (eqb k s.decision) b (x k)) (h x))
        ∙ sym (reduced_plan g s.decision f.shaped t.decision.0 r x);
    never = never;
  }

neighbours_ascend : (g : Graph) (i : ℕ) → ascending (neighbours g i) ≡ true
unfolding neighbours
neighbours_ascend g i = ascending_upto (λ j. not (is_zero_z (edge g i j))) g.n

module _ (g : Graph) (f : Fine g) (i : ℕ) (a : Alive g.n g.states i) where
  -- the step of Eliminate, of degree at most 3
  step_taken : degree g i ≤ 3 → StepTaken g.n g.states (step_of g i)
  unfolding step_of
  step_taken h = record {
    decision = a;
    near = neighbours_alive g f 3 i a.0;
    ascends = neighbours_ascend g i;
    few = h;
    choices = bits_below (chooses g i) (2 ^ length (neighbours g i));
  }

  absorbed_sound : {g' : Graph} → degree g i ≤ 3 → Stands g.n (set g.states i 3) g' → Absorbed i g g' → Sound g (step_of g i ∷ []) g'
  unfolding step_of
  absorbed_sound {g'} h w p =
      one_sound g f (step_of g i) (step_taken h) w (absorbed_reduces g g' i f.shaped a.0 p)
      (λ x. choice_is (chooses g i) (2 ^ length (neighbours g i)) (mask_at x (neighbours g i)) (mask_below x (neighbours g i)))
      (absorbed_never_more g g' i f.shaped a.0 p)

  pub eliminate_sound : degree g i ≤ 2 → Sound g (step_of g i ∷ []) (eliminate i g)
  eliminate_sound h =
      let p : AtMostTwo g.n (neighbours g i) = pair_of (neighbours_apart g i) h in
      absorbed_sound (omega arith) (eliminate_stands g f i a.0 p) (eliminate_absorbed g i f.shaped a.0 p)

  pub three_sound : degree g i ≡ 3 → cubic g i ≡ false → Sound g (step_of g i ∷ []) (eliminate3 i g)
  three_sound h c =
      let p : Triple g.n (neighbours g i) = triple_of (neighbours_apart g i) h in
      absorbed_sound (omega arith) (three_stands g f i a.0 p) (three_absorbed g i f.shaped a.0 p c)

  module _ (j : ℕ) (m : mem j (neighbours g i) ≡ true) where
    contract_taken : StepTaken g.n g.states (contract_step i j g)
    unfolding contract_step mem ascending all
    contract_taken = record {
      decision = a;
      near = λ k h. rw (in_single k j h) (neighbours_alive g f 3 i a.0 j m);
      ascends = refl;
      few = omega arith;
      choices = small (positive g i j);
    }
      where
        small : (b : Bool) → cond b 1 2 < 2 ^ 2 ^ 1
        small true = omega arith
        small false = omega arith

    -- "choices are (1,0) or (0,1) over the neighbour j"
    contract_choice_lem : (x : ℕ → Bool) → bit (contract_step i j g).choices (mask_at x (j ∷ [])) ≡ contract_choice g i j x
    unfolding contract_step mask_at
    contract_choice_lem x = go (positive g i j) (x j)
      where
        go : (p b : Bool) → bit (cond p 1 2) (one_if b + 2 * 0) ≡ cond p (not b) b
        go true true = refl
        go true false = refl
        go false true = refl
        go false false = refl

    pub contract_sound : dominates g i j ≡ true → Sound g (contract_step i j g ∷ []) (contract i j g)
    unfolding contract_step
    contract_sound h =
        one_sound g f (contract_step i j g) contract_taken (contract_stands g f i a.0 j m) (contract_reduces g i j f.shaped a.0 m) contract_choice_lem
        (contract_never_more g i j f.shaped a.0 m h)

-- ---- a block
pub block_decisions : (g : Graph) (b : List ℕ) (p : ℕ) (is : List ℕ) → decisions (block_steps g b p is) ≡ is
unfolding block_steps
block_decisions g b p [] = refl
block_decisions g b p (i ∷ is) = ap (λ (l : List ℕ). i ∷ l) (block_decisions g b (suc p) is)

boundary_ascends : (g : Graph) (b : List ℕ) → ascending (boundary g b) ≡ true
unfolding boundary
boundary_ascends g b = ascending_upto (λ j. not (mem j b) && some (λ i. not (is_zero_z (edge g i j))) b) g.n

module _ (g : Graph) (b : List ℕ) (narrow : length (boundary g b) ≤ 2) where
  block_taken : (p : ℕ) {is : List ℕ} (ss : List ℕ) → Apart g.n is → ((k : ℕ) → mem k is ≡ true → Alive g.n ss k)
      → ((j : ℕ) → mem j (boundary g b) ≡ true → Alive g.n ss j) → ((j : ℕ) → mem j (boundary g b) ≡ true → mem j is ≡ false)
      → Steps g.n ss (block_steps g b p is)
  unfolding block_steps
  block_taken p ss none live around out = tt
  block_taken p ss (one {x = i} {xs = is} l m a) live around out =
      let off : (j : ℕ) → mem j (boundary g b) ≡ true → j ≢ i = λ j t. (out_cons j i is (out j t)).0 in
      let near : (j : ℕ) → mem j (boundary g b) ≡ true → Alive g.n (set ss i 3) j = λ j t. alive_other ss 3 i j (around j t) (off j t) in (
        record {
          decision = live i (in_head i is);
          near = near;
          ascends = boundary_ascends g b;
          few = omega arith;
          choices = bits_below (λ f. bit (best_mask g b f) p) (2 ^ length (boundary g b));
        },
        block_taken (suc p) (set ss i 3) a (λ k t. alive_other ss 3 i k (live k (in_tail k i is t)) (differ is t m)) near (λ j t. (out_cons j i is (out j t)).1),
      )

pub block_sound : (g : Graph) → Fine g → (b : List ℕ) → find_block g ≡ members b → Sound g (block_steps g b 0 b) (eliminate_block b g)
block_sound g f b e =
    let w : SmallBlock g b = found_block g b f.shaped e in
    record {
      taken = block_taken g b w.narrow 0 g.states w.apart
          (λ k m. (apart_below k w.apart m, found_live g b f.shaped e (neat_tidy g f.shaped f.neat) k m))
          (boundary_live g b f.shaped f.neat w.apart) (boundary_outside g b);
      stands = rw (block_decisions g b 0 b) (block_stands g f b e);
      exact = λ x. sym (block_grown_back g b f.shaped e x);
      never = found_least g b f.shaped e;
    }
