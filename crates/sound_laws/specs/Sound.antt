-- The relation of a reduction: from a graph, by steps of growing back, to the graph that is left. It composes, so it holds of a whole run.
-- Assumes nothing.
use Rattle.std.specs.Prelude.{◌≡◌, refl, Bool, true, cond, List, [], ◌∷◌, ◌++◌, map, ℕ, ◌<◌, ◌≤◌, ◌^◌, eqb, length, set, ◌≤ℤ◌}
use Rattle.std.proofs.Common.{ap, ap₂}
use Rattle.std.specs.Int.Signed.{≤ℤ_refl}
use Rattle.whole.specs.Words.{mem, bit}
use Rattle.rules.specs.Graph.{Graph}
use Rattle.rules.specs.Eliminate.{Step}
use Rattle.rules.specs.Record.{ascending}
use Rattle.cost_laws.specs.CostLaws.{cost}
use Rattle.cost_laws.specs.BlockCost.{mask_ext}
use Rattle.cost_laws.specs.BlockSteps.{played_back}
use Rattle.cost_laws.specs.Stands.{Fine, Alive, Stands, stands_here, marked}

-- a step taken among n decisions in the states ss: its decision is active, and each of its neighbours still is once the decision has left
pub record StepTaken (n : ℕ) (ss : List ℕ) (s : Step) : Type 0 where
  pub decision : Alive n ss s.decision
  pub near : (j : ℕ) → mem j s.near ≡ true → Alive n (set ss s.decision 3) j
  pub ascends : ascending s.near ≡ true
  pub few : length s.near ≤ 3
  pub choices : s.choices < 2 ^ 2 ^ length s.near

-- one after the other
abbrev pub Steps : ℕ → List ℕ → List Step → Type 0
Steps n ss [] = Unit
Steps n ss (s ∷ rest) = StepTaken n ss s × Steps n (set ss s.decision 3) rest

-- the decisions that steps eliminate
abbrev pub decisions : List Step → List ℕ
decisions steps = map (λ s. s.decision) steps

pub record Sound (g : Graph) (steps : List Step) (g' : Graph) : Type 0 where
  pub taken : Steps g.n g.states steps
  -- the steps' decisions have left, and no other
  pub stands : Stands g.n (marked (decisions steps) g.states) g'
  -- (E) playing the steps backwards makes the reduced cost true
  pub exact : (x : ℕ → Bool) → cost g (played_back steps x) ≡ cost g' x
  -- (O) and no plan is made worse
  pub never : (x : ℕ → Bool) → cost g' x ≤ℤ cost g x

-- ---- nothing done
pub sound_none : (g : Graph) → Fine g → Sound g [] g
unfolding marked played_back
sound_none g f = record { taken = tt; stands = stands_here g f; exact = λ x. refl; never = λ x. ≤ℤ_refl (cost g x) }

-- ---- one after the other
pub marked_append : (b c ss : List ℕ) → marked (b ++ c) ss ≡ marked c (marked b ss)
unfolding marked
marked_append [] c ss = refl
marked_append (i ∷ b) c ss = marked_append b c (set ss i 3)

pub decisions_append : (a b : List Step) → decisions (a ++ b) ≡ decisions a ++ decisions b
decisions_append [] b = refl
decisions_append (s ∷ a) b = ap (λ (l : List ℕ). s.decision ∷ l) (decisions_append a b)

pub steps_append : (n : ℕ) (ss : List ℕ) (a b : List Step) → Steps n ss a → Steps n (marked (decisions a) ss) b → Steps n ss (a ++ b)
unfolding marked
steps_append n ss [] b p q = q
steps_append n ss (s ∷ a) b p q = (p.0, steps_append n (set ss s.decision 3) a b p.1 q)

pub played_append : (a b : List Step) (x : ℕ → Bool) (k : ℕ) → played_back (a ++ b) x k ≡ played_back a (played_back b x) k
unfolding played_back
played_append [] b x k = refl
played_append (s ∷ a) b x k =
    let rest : (j : ℕ) → played_back (a ++ b) x j ≡ played_back a (played_back b x) j = played_append a b x in
    ap₂ (λ (m : ℕ) (v : Bool). cond (eqb k s.decision) (bit s.choices m) v)
    (mask_ext (played_back (a ++ b) x) (played_back a (played_back b x)) s.near (λ j t. rest j)) (rest k)
