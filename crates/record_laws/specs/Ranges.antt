-- Stretches of a list: zeros, and steps of six bytes, read and written.
-- Assumes nothing.
use Rattle.std.specs.Prelude.{◌≡◌, refl, true, List, [], ◌∷◌, ◌++◌, map, ℕ, zero, suc, ◌+◌, ◌*◌, ◌≤◌, eqb, length, get_or, take, drop, replicate}
use Rattle.std.proofs.Common.{sym, ap, ◌∙◌, append_assoc, arith, add-zero, add-suc, add-one, drop-cons, drop-drop, get_or-drop, take-add, eqb-true, eq-eqb}
use Rattle.whole.specs.Words.{from, all}
use Rattle.whole.specs.Tests.{and-true}
use Rattle.rules.specs.Record.{step_in, step_bytes, steps_bytes}
use Rattle.rules.specs.declared.Step.{Step}

-- what stands at a place and after it
pub drop_at_place : (l : List ℕ) (a x : ℕ) (r : List ℕ) → drop a l ≡ x ∷ r → (get_or l a 0 ≡ x) × (drop (suc a) l ≡ r)
drop_at_place l a x r e =
    (ap (λ (i : ℕ). get_or l i 0) (sym (add-zero a)) ∙ sym (get_or-drop a l 0 0) ∙ ap (λ (m : List ℕ). get_or m 0 0) e, ap (λ (i : ℕ). drop i l) (sym (add-one a)) ∙ sym (drop-drop 1 a l) ∙ ap (drop 1) e)

-- ---- zeros
pub zeros_read : (c a : ℕ) (l r : List ℕ) → drop a l ≡ replicate c 0 ++ r → all (λ k. eqb (get_or l k 0) 0) (from a c) ≡ true
unfolding all from
zeros_read zero a l r e = refl
zeros_read (suc c) a l r e =
    let h = drop_at_place l a 0 (replicate c 0 ++ r) e in
    rw (eq-eqb (get_or l a 0) 0 h.0) (zeros_read c (suc a) l r h.1)

pub zeros_stand : (c a : ℕ) (l : List ℕ) → a + c ≤ length l → all (λ k. eqb (get_or l k 0) 0) (from a c) ≡ true → take c (drop a l) ≡ replicate c 0
unfolding all from
zeros_stand zero a l h e = refl
zeros_stand (suc c) a l h e =
    let t = and-true (eqb (get_or l a 0) 0) (all (λ k. eqb (get_or l k 0) 0) (from (suc a) c)) e in
    rw (drop-cons l a 0 (omega arith), eqb-true (get_or l a 0) 0 t.0, zeros_stand c (suc a) l (omega arith) t.1)

-- ---- steps
-- the k-th step from a place on
abbrev pub steps_from : List ℕ → ℕ → ℕ → Step
steps_from l at k = step_in l (at + 6 * k)

six : (l : List ℕ) (i : ℕ) (s : Step) (r : List ℕ) → drop i l ≡ step_bytes s ++ r → step_in l i ≡ s
six l i s r e =
    let at : (j : ℕ) → get_or l (i + j) 0 ≡ get_or (step_bytes s ++ r) j 0 = λ j. sym (get_or-drop i l j 0) ∙ ap (λ (m : List ℕ). get_or m j 0) e in
    let p0 : get_or l i 0 ≡ s.decision = ap (λ (k : ℕ). get_or l k 0) (sym (add-zero i)) ∙ at 0 in
    λ z. record { decision = p0 z; degree = at 1 z; first = at 2 z; second = at 3 z; third = at 4 z; choices = at 5 z }

pub steps_read : (ss : List Step) (k at : ℕ) (l r : List ℕ) → drop (at + 6 * k) l ≡ steps_bytes ss ++ r → map (steps_from l at) (from k (length ss)) ≡ ss
unfolding steps_bytes from
steps_read [] k at l r e = refl
steps_read (s ∷ ss) k at l r e =
    let i = at + 6 * k in
    let f : drop i l ≡ step_bytes s ++ (steps_bytes ss ++ r) = e ∙ append_assoc (step_bytes s) (steps_bytes ss) r in
    let j : i + 6 ≡ at + 6 * suc k = omega arith in
    let g : drop (at + 6 * suc k) l ≡ steps_bytes ss ++ r = ap (λ (n : ℕ). drop n l) (sym j) ∙ sym (drop-drop 6 i l) ∙ ap (drop 6) f in
    λ z. six l i s (steps_bytes ss ++ r) f z ∷ steps_read ss (suc k) at l r g z

-- a stretch, byte by byte
pub stretch : (n a i : ℕ) (l : List ℕ) → i + a + n ≤ length l → take n (drop (i + a) l) ≡ map (λ j. get_or l (i + j) 0) (from a n)
unfolding from
stretch zero a i l h = refl
stretch (suc n) a i l h =
    rw (drop-cons l (i + a) 0 (omega arith)) (ap (λ (r : List ℕ). get_or l (i + a) 0 ∷ r) (ap (λ (k : ℕ). take n (drop k l)) (sym (add-suc i a)) ∙ stretch n (suc a) i l (omega arith)))

sixth : (l : List ℕ) (i : ℕ) → i + 6 ≤ length l → take 6 (drop i l) ≡ step_bytes (step_in l i)
unfolding from
sixth l i h =
    rw (add-zero i) at (stretch 6 0 i l (omega arith))

pub steps_written : (c k at : ℕ) (l : List ℕ) → at + 6 * (k + c) ≤ length l → steps_bytes (map (steps_from l at) (from k c)) ≡ take (6 * c) (drop (at + 6 * k) l)
unfolding steps_bytes from
steps_written zero k at l h = refl
steps_written (suc c) k at l h =
    let i = at + 6 * k in
    let m : 6 * suc c ≡ 6 + 6 * c = omega arith in
    let j : at + 6 * suc k ≡ i + 6 = omega arith in
    rw (m, take-add 6 (6 * c) (drop i l), drop-drop 6 i l, sixth l i (omega arith), steps_written c (suc k) at l (omega arith), j)
