-- Growing back and projecting, on lists of 0 and 1: putting in, playing steps, and taking the remaining entries out again.
-- Assumes nothing.
use Rattle.std.specs.Prelude.{◌≡◌, Bool, true, false, ◌≢◌, set, take}
use Rattle.std.proofs.Math.Path.{refl, sym, ap, ap₂}
use Rattle.std.proofs.Common.{◌∙◌, arith, not-suc-le-zero, length-set, get_or-set_other, take_at, eqb-true}
use Rattle.std.proofs.Math.Bool.{cond}
use mathlib.Core.List.{List, [], ◌∷◌, map, tail}
use Prim.Native.Nat.{ℕ, zero, suc, ◌+◌, ◌*◌, ◌<◌, ◌≤◌}
use Rattle.std.proofs.Math.Decide.{ℕ_discrete, dec_lt}
use Rattle.std.proofs.Math.Dec.{eqb}
use Rattle.std.proofs.Math.ListN.{length, get_or}
use Rattle.std.proofs.lemmas.List.{length-map}
use Rattle.std.proofs.Math.Seq.{get_or-set_same, set_out}
use Rattle.std.proofs.lemmas.Bool.{eqb-false}
use Rattle.whole.specs.Words.{from, mem, those, bit, one_if}
use Rattle.whole.specs.Tests.{cases, at_most_one}
use Rattle.whole.specs.Members.{in_head, in_tail, out_cons}
use Rattle.whole.specs.Lists.{map_at}
use Rattle.rules.specs.Eliminate.{Step}
use Rattle.rules.specs.Back.{place, mask_of, play, play_all, remaining_of, project}
use Rattle.cost_laws.specs.EliminateLaws.{mask_at}
use Rattle.cost_laws.specs.BlockCost.{mask_ext}
use Rattle.cost_laws.specs.BlockSteps.{played_back}
use Rattle.sound_laws.specs.Sound.{decisions}
use Rattle.demand_laws.specs.Demands.{is_one}

-- ---- lists
get_d_tail : (xs : List ℕ) (k : ℕ) → get_or (tail xs) k 0 ≡ get_or xs (suc k) 0
get_d_tail [] k = refl
get_d_tail (x ∷ xs) k = refl

-- each 0 or 1
abbrev pub Bits : List ℕ → Type 0
Bits xs = (i : ℕ) → get_or xs i 0 ≤ 1

-- ---- the remaining decisions, one state at a time
those_suc : (p : ℕ → Bool) (k c : ℕ) → those p (from (suc k) c) ≡ map suc (those (λ i. p (suc i)) (from k c))
unfolding those from
those_suc p k zero = refl
those_suc p k (suc c) = go (p (suc k)) (those_suc p (suc k) c)
  where
    go : (b : Bool) → those p (from (suc (suc k)) c) ≡ map suc (those (λ i. p (suc i)) (from (suc k) c))
        → cond b (suc k ∷ those p (from (suc (suc k)) c)) (those p (from (suc (suc k)) c)) ≡ map suc (cond b (k ∷ those (λ i. p (suc i)) (from (suc k) c)) (those (λ i. p (suc i)) (from (suc k) c)))
    go true r = ap (λ (l : List ℕ). suc k ∷ l) r
    go false r = r

remaining_cons : (s : ℕ) (ss : List ℕ) → remaining_of (s ∷ ss) ≡ cond (eqb s 2) (0 ∷ map suc (remaining_of ss)) (map suc (remaining_of ss))
unfolding remaining_of those from
remaining_cons s ss = ap (λ (l : List ℕ). cond (eqb s 2) (0 ∷ l) l) (those_suc (λ i. eqb (get_or (s ∷ ss) i 0) 2) 0 (length ss))

-- ---- putting in
pub place_length : (ss answer : List ℕ) → length (place ss answer) ≡ length ss
unfolding place
place_length [] answer = refl
place_length (s ∷ ss) answer = go (eqb s 2) (place_length ss (tail answer)) (place_length ss answer)
  where
    go : (b : Bool) → length (place ss (tail answer)) ≡ length ss → length (place ss answer) ≡ length ss
        → length (cond b (get_or answer 0 0 ∷ place ss (tail answer)) (cond (eqb s 1) 1 0 ∷ place ss answer)) ≡ suc (length ss)
    go true p q = ap suc p
    go false p q = ap suc q

pub place_bits : (ss answer : List ℕ) → Bits answer → Bits (place ss answer)
unfolding place
place_bits [] answer h i = omega arith
place_bits (s ∷ ss) answer h i = go (eqb s 2) i (place_bits ss (tail answer) (λ k. rw (get_d_tail answer k) (h (suc k)))) (place_bits ss answer h)
  where
    one_or_none : (b : Bool) → cond b 1 0 ≤ 1
    one_or_none true = at_most_one true
    one_or_none false = at_most_one false

    go : (b : Bool) (i : ℕ) → Bits (place ss (tail answer)) → Bits (place ss answer)
        → get_or (cond b (get_or answer 0 0 ∷ place ss (tail answer)) (cond (eqb s 1) 1 0 ∷ place ss answer)) i 0 ≤ 1
    go true zero p q = h 0
    go true (suc i) p q = p i
    go false zero p q = one_or_none (eqb s 1)
    go false (suc i) p q = q i

-- a fixed decision has its value
pub place_fixed : (ss answer : List ℕ) (i : ℕ) → i < length ss → get_or ss i 0 < 2 → get_or (place ss answer) i 0 ≡ get_or ss i 0
unfolding place
place_fixed [] answer i l h = absurd (not-suc-le-zero l)
place_fixed (s ∷ ss) answer i l h = go (eqb s 2) refl i l h (λ k a b. place_fixed ss (tail answer) k a b) (λ k a b. place_fixed ss answer k a b)
  where
    value : (b : Bool) → eqb s 1 ≡ b → s < 2 → cond b 1 0 ≡ s
    value true e h = sym (eqb-true s 1 e)
    value false e h = let d : s ≢ 1 = eqb-false s 1 e in omega arith

    go : (b : Bool) → eqb s 2 ≡ b → (i : ℕ) → i < suc (length ss) → get_or (s ∷ ss) i 0 < 2
        → ((k : ℕ) → k < length ss → get_or ss k 0 < 2 → get_or (place ss (tail answer)) k 0 ≡ get_or ss k 0)
        → ((k : ℕ) → k < length ss → get_or ss k 0 < 2 → get_or (place ss answer) k 0 ≡ get_or ss k 0)
        → get_or (cond b (get_or answer 0 0 ∷ place ss (tail answer)) (cond (eqb s 1) 1 0 ∷ place ss answer)) i 0 ≡ get_or (s ∷ ss) i 0
    go true e zero l h p q = absurd (two (eqb-true s 2 e) h)
      where
        two : s ≡ 2 → s < 2 → ⊥
        two e h = omega arith
    go true e (suc i) l h p q = p i (omega arith) h
    go false e zero l h p q = value (eqb s 1) refl h
    go false e (suc i) l h p q = q i (omega arith) h

-- the remaining decisions have the answer's values, in order
pub place_remaining : (ss answer : List ℕ) (k : ℕ) → k < length (remaining_of ss) → get_or (place ss answer) (get_or (remaining_of ss) k 0) 0 ≡ get_or answer k 0
unfolding place remaining_of those from
place_remaining [] answer k l = absurd (not-suc-le-zero l)
place_remaining (s ∷ ss) answer k l =
    go (eqb s 2) (remaining_cons s ss) k l (λ j h. place_remaining ss (tail answer) j h) (λ j h. place_remaining ss answer j h)
  where
    later : (v : ℕ) (rest : List ℕ) (j : ℕ) → j < length (remaining_of ss) → get_or (v ∷ rest) (get_or (map suc (remaining_of ss)) j 0) 0 ≡ get_or rest (get_or (remaining_of ss) j 0) 0
    later v rest j h = ap (λ (m : ℕ). get_or (v ∷ rest) m 0) (map_at suc (remaining_of ss) j 0 0 h)

    go : (b : Bool) → remaining_of (s ∷ ss) ≡ cond b (0 ∷ map suc (remaining_of ss)) (map suc (remaining_of ss)) → (k : ℕ) → k < length (remaining_of (s ∷ ss))
        → ((j : ℕ) → j < length (remaining_of ss) → get_or (place ss (tail answer)) (get_or (remaining_of ss) j 0) 0 ≡ get_or (tail answer) j 0)
        → ((j : ℕ) → j < length (remaining_of ss) → get_or (place ss answer) (get_or (remaining_of ss) j 0) 0 ≡ get_or answer j 0)
        → get_or (cond b (get_or answer 0 0 ∷ place ss (tail answer)) (cond (eqb s 1) 1 0 ∷ place ss answer)) (get_or (remaining_of (s ∷ ss)) k 0) 0 ≡ get_or answer k 0
    go true e zero l p q = ap (λ (m : List ℕ). get_or (get_or answer 0 0 ∷ place ss (tail answer)) (get_or m 0 0) 0) e
    go true e (suc j) l p q =
        let h : j < length (remaining_of ss) = omega (arith, ap length e, length-map (remaining_of ss) suc) in
        ap (λ (m : List ℕ). get_or (get_or answer 0 0 ∷ place ss (tail answer)) (get_or m (suc j) 0) 0) e
        ∙ later (get_or answer 0 0) (place ss (tail answer)) j h ∙ p j h ∙ get_d_tail answer j
    go false e j l p q =
        let h : j < length (remaining_of ss) = omega (arith, ap length e, length-map (remaining_of ss) suc) in
        ap (λ (m : List ℕ). get_or (cond (eqb s 1) 1 0 ∷ place ss answer) (get_or m j 0) 0) e ∙ later (cond (eqb s 1) 1 0) (place ss answer) j h ∙ q j h

-- ---- playing steps
bit_value : (b : Bool) → eqb (one_if b) 1 ≡ b
bit_value true = refl
bit_value false = refl

value_bit : (v : ℕ) → v ≤ 1 → v ≡ one_if (eqb v 1)
value_bit zero h = refl
value_bit (suc zero) h = refl
value_bit (suc (suc v)) h = absurd (omega arith)

pub play_length : (steps : List Step) (x : List ℕ) → length (play_all steps x) ≡ length x
unfolding play_all play
play_length [] x = refl
play_length (s ∷ ss) x = length-set (play_all ss x) s.decision _ ∙ play_length ss x

-- what no step decides stays
pub play_other : (steps : List Step) (x : List ℕ) (i : ℕ) → mem i (decisions steps) ≡ false → get_or (play_all steps x) i 0 ≡ get_or x i 0
unfolding play_all play
play_other [] x i h = refl
play_other (s ∷ ss) x i h = let p = out_cons i s.decision (decisions ss) h in get_or-set_other (play_all ss x) s.decision i _ 0 p.0 ∙ play_other ss x i p.1

module _ (x : List ℕ) (h : Bits x) where
  mask_of_lem : (js : List ℕ) → mask_of x js ≡ mask_at (is_one x) js
  unfolding mask_of mask_at
  mask_of_lem [] = refl
  mask_of_lem (j ∷ js) = ap₂ (λ (a b : ℕ). a + 2 * b) (value_bit (get_or x j 0) (h j)) (mask_of_lem js)

  play_bits : (s : Step) → Bits (play s x)
  unfolding play
  play_bits s i = by (ℕ_discrete i s.decision) (bit s.choices (mask_of x s.near))
    where
      by : Dec (i ≡ s.decision) → (b : Bool) → get_or (set x s.decision (one_if b)) i 0 ≤ 1
      by (no d) b = rw (get_or-set_other x s.decision i (one_if b) 0 d) (h i)
      by (yes e) b = inside (dec_lt i (length x))
        where
          inside : Dec (i < length x) → get_or (set x s.decision (one_if b)) i 0 ≤ 1
          inside (yes l) = rw (← e, get_or-set_same x i (one_if b) 0 l) (at_most_one b)
          inside (no l) = rw (set_out x s.decision (one_if b) (omega arith)) (h i)

  play_is : (s : Step) → s.decision < length x → (k : ℕ) → is_one (play s x) k ≡ cond (eqb k s.decision) (bit s.choices (mask_at (is_one x) s.near)) (is_one x k)
  unfolding play
  play_is s l k = cases (eqb k s.decision)
      (λ e. ap (λ (m : ℕ). eqb (get_or (set x s.decision v) m 0) 1) (eqb-true k s.decision e)
      ∙ ap (λ (m : ℕ). eqb m 1) (get_or-set_same x s.decision v 0 l)
      ∙ bit_value (bit s.choices (mask_of x s.near)) ∙ ap (bit s.choices) (mask_of_lem s.near)
      ∙ sym (ap (λ (b : Bool). cond b (bit s.choices (mask_at (is_one x) s.near)) (is_one x k)) e))
      (λ e. ap (λ (m : ℕ). eqb m 1) (get_or-set_other x s.decision k v 0 (eqb-false k s.decision e))
      ∙ sym (ap (λ (b : Bool). cond b (bit s.choices (mask_at (is_one x) s.near)) (is_one x k)) e))
    where
      v : ℕ
      v = one_if (bit s.choices (mask_of x s.near))

pub play_all_bits : (steps : List Step) (x : List ℕ) → Bits x → Bits (play_all steps x)
unfolding play_all
play_all_bits [] x h = h
play_all_bits (s ∷ ss) x h = play_bits (play_all ss x) (play_all_bits ss x h) s

-- "then the steps last to first", as the relation of a reduction plays them
pub play_all_is : (steps : List Step) (x : List ℕ) → Bits x → ((d : ℕ) → mem d (decisions steps) ≡ true → d < length x) → (k : ℕ) → is_one (play_all steps x) k ≡ played_back steps (is_one x) k
unfolding play_all played_back
play_all_is [] x h l k = refl
play_all_is (s ∷ ss) x h l k =
    let rest : (j : ℕ) → is_one (play_all ss x) j ≡ played_back ss (is_one x) j = play_all_is ss x h (λ d m. l d (in_tail d s.decision (decisions ss) m)) in
    play_is (play_all ss x) (play_all_bits ss x h) s (rw (play_length ss x) (l s.decision (in_head s.decision (decisions ss)))) k
    ∙ ap₂ (λ (m : ℕ) (v : Bool). cond (eqb k s.decision) (bit s.choices m) v) (mask_ext (is_one (play_all ss x)) (played_back ss (is_one x)) s.near (λ j t. rest j)) (rest k)

-- ---- projecting
pub project_front : (ss plan : List ℕ) → take (length (remaining_of ss)) (project ss plan) ≡ map (λ i. get_or plan i 0) (remaining_of ss)
unfolding project
project_front ss plan = take_at (map (λ i. get_or plan i 0) (remaining_of ss)) _ (length (remaining_of ss)) (length-map (remaining_of ss) (λ i. get_or plan i 0))
