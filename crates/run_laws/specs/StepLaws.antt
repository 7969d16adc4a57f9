-- Each step of a run eliminates another decision below n: so there are at most n steps.
-- Assumes nothing.
use Rattle.std.specs.Prelude.{◌≡◌, refl, true, false, List, [], ◌∷◌, ◌≢◌, ℕ, zero, suc, ◌<◌, ◌≤◌, eqb, length, get_or, set}
use Rattle.std.proofs.Common.{sym, ap, ◌∙◌, arith, get_or-set_other}
use Rattle.std.proofs.lemmas.List.{length-map}
use Rattle.whole.specs.Words.{mem}
use Rattle.whole.specs.Pigeon.{Apart, none, one, pigeon}
use Rattle.whole.specs.Tests.{clash, refuse}
use Rattle.whole.specs.Members.{in_cons}
use Rattle.rules.specs.Graph.{Graph}
use Rattle.rules.specs.Eliminate.{Step}
use Rattle.rules.specs.SmallBlock.{block_steps}
use Rattle.cost_laws.specs.Stands.{Alive}
use Rattle.sound_laws.specs.Sound.{Steps, decisions}
use Rattle.sound_laws.proofs.SoundReductions.{block_decisions}

-- what has been eliminated is not active
gone_state : (ss : List ℕ) (i : ℕ) → eqb (get_or (set ss i 3) i 0) 2 ≡ false
gone_state [] i = refl
gone_state (x ∷ ss) zero = refl
gone_state (x ∷ ss) (suc i) = gone_state ss i

-- one that is active after i has left is another, and was active before
pub still_alive : {n : ℕ} (ss : List ℕ) (i k : ℕ) → Alive n (set ss i 3) k → (k ≢ i) × Alive n ss k
still_alive {n} ss i k a = (other, (a.0, ap (λ (z : ℕ). eqb z 2) (sym (get_or-set_other ss i k 3 0 other)) ∙ a.1))
  where
    other : k ≢ i
    other e = clash a.1 (ap (λ (j : ℕ). eqb (get_or (set ss i 3) j 0) 2) e ∙ gone_state ss i)

pub steps_alive : (n : ℕ) (ss : List ℕ) (steps : List Step) → Steps n ss steps → (k : ℕ) → mem k (decisions steps) ≡ true → Alive n ss k
unfolding mem
steps_alive n ss [] t k m = clash m refl
steps_alive n ss (s ∷ steps) t k m = in_cons k s.decision (decisions steps) m
    (λ e. (ap_lt e t.0.decision.0, ap (λ (j : ℕ). eqb (get_or ss j 0) 2) e ∙ t.0.decision.1))
    (λ r. (still_alive ss s.decision k (steps_alive n (set ss s.decision 3) steps t.1 k r)).1)
  where
    ap_lt : k ≡ s.decision → s.decision < n → k < n
    ap_lt e l = omega arith

pub steps_apart : (n : ℕ) (ss : List ℕ) (steps : List Step) → Steps n ss steps → Apart n (decisions steps)
steps_apart n ss [] t = none
steps_apart n ss (s ∷ steps) t = one t.0.decision.0
    (refuse (mem s.decision (decisions steps)) (λ m. (still_alive ss s.decision s.decision (steps_alive n (set ss s.decision 3) steps t.1 s.decision m)).0 refl))
    (steps_apart n (set ss s.decision 3) steps t.1)

pub steps_few : (n : ℕ) (ss : List ℕ) (steps : List Step) → Steps n ss steps → length steps ≤ n
steps_few n ss steps t = rw (length-map steps (λ s. s.decision)) at (pigeon n (steps_apart n ss steps t))

-- "one step per member"
pub block_steps_length : (g : Graph) (b : List ℕ) (k : ℕ) (is : List ℕ) → length (block_steps g b k is) ≡ length is
block_steps_length g b k is = sym (length-map (block_steps g b k is) (λ s. s.decision)) ∙ ap length (block_decisions g b k is)
