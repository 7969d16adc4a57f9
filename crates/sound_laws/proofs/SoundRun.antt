-- Every run is sound, at every budget and switch set: by one induction on the budget.
-- Assumes nothing.
use Rattle.std.specs.Prelude.{◌≡◌, Bool, not, ◌&&◌, ℕ, ◌≤◌}
use Rattle.std.proofs.Math.Path.{refl, subst}
use Rattle.std.proofs.Math.Bool.{true, false, cond}
use mathlib.Core.List.{List, [], ◌∷◌}
use Rattle.std.proofs.Math.Dec.{leb, eqb}
use Rattle.std.proofs.Common.{leb-true, eqb-true}
use Rattle.whole.specs.Words.{mem}
use Rattle.whole.specs.Tests.{and-true}
use Rattle.whole.specs.Members.{in_head, in_tail}
use Rattle.rules.specs.Graph.{Graph, active, neighbours, degree}
use Rattle.rules.specs.DegreeThree.{cubic}
use Rattle.rules.specs.DominantEdge.{Found, nothing, at, first, dominant, dominates}
use Rattle.rules.specs.SmallBlock.{Block, none, members, find_block}
use Rattle.rules.specs.Options.{low_degree, degree_three, dominant_edge, small_block}
use Rattle.rules.specs.declared.Options.{Options}
use Rattle.rules.specs.Run.{State, Way, inactive, low, into, three, failed, idle, or_three, way, reduced, skipped, go, take_front, blocked, Next, over, due, due_block, due_at, run}
use Rattle.cost_laws.specs.Stands.{Fine}
use Rattle.sound_laws.proofs.SoundThen.{sound_then}
use Rattle.sound_laws.proofs.SoundReductions.{eliminate_sound, three_sound, contract_sound, block_sound}
use Rattle.cost_laws.specs.RunLaws.{run_keeps}
use Rattle.sound_laws.specs.SoundRun.{Reached}

-- ---- what a take finds out before it reduces
abbrev Due : Graph → ℕ → Way → Type 0
Due g i inactive = Unit
Due g i low = (active g i ≡ true) × (degree g i ≤ 2)
Due g i (into j) = (active g i ≡ true) × ((mem j (neighbours g i) ≡ true) × (dominates g i j ≡ true))
Due g i three = (active g i ≡ true) × ((degree g i ≡ 3) × (cubic g i ≡ false))
Due g i failed = Unit
Due g i idle = Unit

-- "the first that passes" is one of them, and passes
First : (ℕ → Bool) → List ℕ → Found → Type 0
First p xs nothing = Unit
First p xs (at j) = (mem j xs ≡ true) × (p j ≡ true)

first_is : (p : ℕ → Bool) (xs : List ℕ) → First p xs (first p xs)
unfolding first First
first_is p [] = tt
first_is p (x ∷ xs) = test (p x) refl (first p xs) (first_is p xs)
  where
    later : (w : Found) → First p xs w → First p (x ∷ xs) w
    later nothing h = tt
    later (at j) h = (in_tail j x xs h.0, h.1)

    test : (b : Bool) → p x ≡ b → (w : Found) → First p xs w → First p (x ∷ xs) (cond b (at x) w)
    test true e w h = (in_head x xs, e)
    test false e w h = later w h

module _ (opt : Options) (g : Graph) (i : ℕ) where
  or_three_due : active g i ≡ true → (w : Found) → First (dominates g i) (neighbours g i) w → Due g i (or_three opt g i w)
  unfolding or_three First
  or_three_due a (at j) h = (a, h)
  or_three_due a nothing h = test (low_degree opt && degree_three opt && eqb (degree g i) 3) refl (cubic g i) refl
    where
      test : (b : Bool) → (low_degree opt && degree_three opt && eqb (degree g i) 3) ≡ b → (c : Bool) → cubic g i ≡ c → Due g i (cond b (cond c failed three) idle)
      test true e true c = tt
      test true e false c = (a, (eqb-true (degree g i) 3 (and-true (low_degree opt && degree_three opt) (eqb (degree g i) 3) e).1, c))
      test false e c d = tt

  way_due : Due g i (way opt g i)
  unfolding way dominant First
  way_due = test (active g i) refl (low_degree opt && leb (degree g i) 2) refl
    where
      found : (b : Bool) → First (dominates g i) (neighbours g i) (cond b (first (dominates g i) (neighbours g i)) nothing)
      found true = first_is (dominates g i) (neighbours g i)
      found false = tt

      test : (b : Bool) → active g i ≡ b → (c : Bool) → (low_degree opt && leb (degree g i) 2) ≡ c
          → Due g i (cond (not b) inactive (cond c low (or_three opt g i (cond (dominant_edge opt) (dominant g i) nothing))))
      test false e c d = tt
      test true e true d = (e, leb-true (degree g i) 2 (and-true (low_degree opt) (leb (degree g i) 2) d).1)
      test true e false d = or_three_due e (cond (dominant_edge opt) (dominant g i) nothing) (found (dominant_edge opt))

-- ---- the run
module _ (g₀ : Graph) where
  go_sound : (w : Way) (opt : Options) (i : ℕ) (s : State) → Due s.graph i w → Reached g₀ s → Reached g₀ (go w opt i s)
  unfolding go reduced skipped
  go_sound inactive opt i s d r = r
  go_sound low opt i s d r = let f : Fine s.graph = r.stands.fine in sound_then r (eliminate_sound s.graph f i (f.inside i d.0, d.0) d.1)
  go_sound (into j) opt i s d r = let f : Fine s.graph = r.stands.fine in sound_then r (contract_sound s.graph f i (f.inside i d.0, d.0) j d.1.0 d.1.1)
  go_sound three opt i s d r = let f : Fine s.graph = r.stands.fine in sound_then r (three_sound s.graph f i (f.inside i d.0, d.0) d.1.0 d.1.1)
  go_sound failed opt i s d r = r
  go_sound idle opt i s d r = r

  -- what is due is reached
  After : Next → Type 0
  After over = Unit
  After (due t) = Reached g₀ t

  block_after_lem : (opt : Options) (s : State) (b : Block) → ((m : List ℕ) → b ≡ members m → find_block s.graph ≡ members m) → Reached g₀ s → After (due_block opt s b)
  unfolding After due_block blocked
  block_after_lem opt s none h r = tt
  block_after_lem opt s (members b) h r = sound_then r (block_sound s.graph r.stands.fine b (h b refl))

  due_after : (opt : Options) (s : State) (q : List ℕ) → Reached g₀ s → After (due_at opt s q)
  unfolding After due_at take_front
  due_after opt s [] r = block_after_lem opt s (cond (small_block opt) (find_block s.graph) none) (λ m e. which (small_block opt) m e) r
    where
      which : (b : Bool) (m : List ℕ) → cond b (find_block s.graph) none ≡ members m → find_block s.graph ≡ members m
      which true m e = e
      which false m e = cc
  due_after opt s (i ∷ q) r = go_sound (way opt s.graph i) opt i (take_front q s) (way_due opt s.graph i) r

  -- "Soundness of the run at EVERY budget and switch set"
  pub run_sound : (budget : ℕ) (opt : Options) (s : State) → Reached g₀ s → Reached g₀ (run budget opt s).state
  unfolding After
  run_sound b opt s r = run_keeps opt (Reached g₀) (λ a t e q. subst After e (due_after opt a a.queue q)) b s r
