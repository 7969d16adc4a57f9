-- What an unbroken record keeps: n and the number of steps are at most 64, and every neighbour of a step is below n,
-- so that the first n entries of a plan play alone.
-- Assumes nothing.
use Rattle.std.specs.Prelude.{◌≡◌, Bool, true, false, length, get_or, set, take, drop}
use Rattle.std.proofs.Math.Path.{refl, sym, ap}
use Rattle.std.proofs.Common.{◌∙◌, arith, length-take, drop-cons, get_or-take}
use mathlib.Core.List.{List, [], ◌∷◌, map}
use Prim.Native.Nat.{ℕ, zero, suc, ◌+◌, ◌<◌, ◌≤◌}
use Rattle.std.proofs.Math.Decide.{dec_lt}
use Rattle.std.proofs.Math.Dec.{ltb}
use Rattle.std.proofs.Math.Seq.{take-set-lt, set_out}
use Rattle.std.proofs.lemmas.List.{take-set-le}
use borrow.Author.Tests.{leb-true, ltb-true, not-false}
use Rattle.whole.specs.Words.{from, all, all_of, bit, one_if}
use Rattle.whole.specs.Tests.{and-true}
use Rattle.whole.specs.Members.{all_of_lem, all_in}
use Rattle.rules.specs.Eliminate as rule
use Rattle.rules.specs.Back.{place, mask_of, play, play_all, grow_back}
use Rattle.rules.specs.Record.{played, near_of, no_step, step_at, near_fine, step_fine, steps_of, states_of, sound, broken}
use Rattle.rules.specs.Call.{grown}
use Rattle.rules.specs.declared.Record.{Record}

-- one test of a row of tests that all hold
each : (ts : List Bool) (k : ℕ) → all_of ts ≡ true → get_or ts k true ≡ true
unfolding all_of
each [] k e = refl
each (t ∷ ts) zero e = (and-true t (all_of ts) e).0
each (t ∷ ts) (suc k) e = each ts k (and-true t (all_of ts) e).1

all_weaken : (p q : ℕ → Bool) (xs : List ℕ) → ((j : ℕ) → p j ≡ true → q j ≡ true) → all p xs ≡ true → all q xs ≡ true
all_weaken p q xs w e = all_of_lem q xs (λ k m. w k (all_in p xs e k m))

-- each neighbour of each step is below n
abbrev pub NearWithin : ℕ → List rule.Step → Type 0
NearWithin n [] = Unit {0}
NearWithin n (s ∷ ss) = (all (λ j. ltb j n) s.near ≡ true) × NearWithin n ss

-- ---- the first n entries play alone
module _ (n : ℕ) where
  mask_front : (x js : List ℕ) → all (λ j. ltb j n) js ≡ true → mask_of (take n x) js ≡ mask_of x js
  unfolding mask_of all
  mask_front x [] e = refl
  mask_front x (j ∷ js) e =
      let h = and-true (ltb j n) (all (λ j. ltb j n) js) e in
      rw (get_or-take n x j 0 (ltb-true j n h.0), mask_front x js h.1)

  set_front : (x : List ℕ) (d v : ℕ) → set (take n x) d v ≡ take n (set x d v)
  set_front x d v = by (dec_lt d n)
    where
      by : Dec (d < n) → set (take n x) d v ≡ take n (set x d v)
      by (yes h) = sym (take-set-lt n x d v h)
      by (no h) = set_out (take n x) d v (omega (arith, length-take n x)) ∙ sym (take-set-le n x d v (omega arith))

  pub front_plays : (steps : List rule.Step) (x : List ℕ) → NearWithin n steps → take n (play_all steps x) ≡ play_all steps (take n x)
  unfolding play play_all
  front_plays [] x w = refl
  front_plays (s ∷ ss) x w =
      let y = play_all ss x in
      let m = mask_front y s.near w.0 in
      sym (set_front y s.decision (one_if (bit s.choices (mask_of y s.near)))) ∙ rw (← front_plays ss x w.1, m)

-- ---- an unbroken record
module _ (r : Record) (h : broken r ≡ false) where
  pub few_decisions : r.n ≤ 64
  unfolding sound
  few_decisions = leb-true r.n 64 (each _ 0 (not-false _ h))

  pub few_steps : r.count ≤ 64
  unfolding sound
  few_steps = leb-true r.count 64 (each _ 1 (not-false _ h))

  near_below : (k : ℕ) → step_fine r k ≡ true → all (λ j. ltb j r.n) (near_of (step_at r k)) ≡ true
  unfolding step_fine
  near_below k e = all_weaken (near_fine r k) (λ j. ltb j r.n) (near_of (step_at r k)) (λ j f. (and-true _ _ (and-true _ _ f).0).0) (each _ 5 e)

  steps_within : (c a : ℕ) → a + c ≤ length r.steps → all (step_fine r) (from a c) ≡ true → NearWithin r.n (map played (take c (drop a r.steps)))
  unfolding all from
  steps_within zero a l e = tt
  steps_within (suc c) a l e =
      let t = and-true (step_fine r a) (all (step_fine r) (from (suc a) c)) e in
      rw (drop-cons r.steps a no_step (omega arith)) (near_below a t.0, steps_within c (suc a) (omega arith) t.1)

  pub record_within : length r.steps ≡ 64 → NearWithin r.n (steps_of r)
  unfolding steps_of sound
  record_within l = steps_within r.count 0 (omega (arith, few_steps)) (each _ 5 (not-false _ h))

  -- the front of what is put in and played in 64 entries is the answer grown back
  pub grown_front : length r.steps ≡ 64 → (answer placed full : List ℕ) → take r.n placed ≡ place (take r.n r.states) answer → full ≡ play_all (map played (take r.count r.steps)) placed → take r.n full ≡ grown r answer
  unfolding grow_back states_of steps_of
  grown_front l answer placed full p f = ap (take r.n) f ∙ front_plays r.n (steps_of r) placed (record_within l) ∙ ap (play_all (steps_of r)) p
