-- Statements over ℤ, which `simp ints` takes apart into statements over ℕ that `omega` reads. `simp ints (omega arith)` proves an equation, an order or a fit, `simp ints at h` turns a hypothesis.
--     Bal k l p q     the sum of l, and p, less q, is 0 (k is `eqs`) or at least 0 (k is `les`). The rules eat l from the front: a sum is two entries, a difference an entry and an opposite, a product of sums is multiplied out; whatever else stands there is an atom z, whose parts plus_part z and minus_part z go over to p and q. The atoms are not listed: a rule for an atom stands last in the set, and `simp` tries a set's rules in its order
--     ints            the set for `simp`
--     zarith          `arith`, with rules by which `omega` reads a hypothesis `a ≤ℤ b`, `a <ℤ b`, `a ≡ b`, `lt_z a b ≡ true`, .. between atoms as it stands
-- Assumes nothing.
use Rattle.std.specs.Prelude.{◌≡◌, refl, ◌↔◌, Bool, true, false, List, [], ◌∷◌, ℕ, ◌+◌, ◌*◌, ◌<◌, ◌≤◌, ◌^◌, T, ℤ, pos, negsuc, neg_ℤ, nat_abs, ◌+ℤ◌, ◌-ℤ◌, ◌*ℤ◌, ◌≤ℤ◌, ◌<ℤ◌}
use Rattle.std.proofs.Common.{sym, ◌∙◌, ap, subst, arith, to_z-of_z, lt-ltb, le-ltb, le-leb, ltb-true, ltb-false, leb-true, leb-false}
use Rattle.std.proofs.Math.IntN.{+ℤ_assoc, +ℤ_comm, *ℤ_comm, neg_ℤ-+ℤ, neg_ℤ-neg_ℤ}
use Rattle.std.specs.Int.Signed.{lt_z, le_z, non_neg, le_z_yes, lt_z_yes}
use Rattle.std.specs.Int.{Width}
use mir.Val.{Fits, SFits, bits, hbits, to_z, of_z}
use Rattle.std.proofs.lemmas.Bool.{lt-leb}
use Rattle.whole.specs.Parts.{plus_part, minus_part, nat_abs_parts, add_parts, plus_part_mul, minus_part_mul, plus_part_neg, minus_part_neg, ext}

pub data Kind : Type 0 where
  eqs les : Kind

abbrev pub Holds : Kind → ℕ → ℕ → Type 0
Holds eqs a b = a ≡ b
Holds les a b = a ≤ b

abbrev plus_parts : List ℤ → ℕ
plus_parts [] = 0
plus_parts (a ∷ r) = plus_part a + plus_parts r

abbrev minus_parts : List ℤ → ℕ
minus_parts [] = 0
minus_parts (a ∷ r) = minus_part a + minus_parts r

pub record Bal (k : Kind) (l : List ℤ) (p q : ℕ) : Type 0 where
  bal : Holds k (q + minus_parts l) (p + plus_parts l)

shift : (k : Kind) (x y x' y' : ℕ) → x + y' ≡ x' + y → Holds k x y → Holds k x' y'
shift eqs x y x' y' e h = omega arith
shift les x y x' y' e h = omega arith

-- two balances with the same difference
move : (k : Kind) (l l' : List ℤ) (p q p' q' : ℕ) → (q + minus_parts l) + (p' + plus_parts l') ≡ (q' + minus_parts l') + (p + plus_parts l) → Bal k l p q ↔ Bal k l' p' q'
move k l l' p q p' q' e = ((λ h. record { bal = shift k (q + minus_parts l) (p + plus_parts l) (q' + minus_parts l') (p' + plus_parts l') e h.bal }), (λ h. record { bal = shift k (q' + minus_parts l') (p' + plus_parts l') (q + minus_parts l) (p + plus_parts l) (omega arith) h.bal }))

module _ (k : Kind) where
  pub b_add : (a b : ℤ) (r : List ℤ) (p q : ℕ) → Bal k ((a +ℤ b) ∷ r) p q ↔ Bal k (a ∷ b ∷ r) p q
  b_add a b r p q = move k _ _ _ _ _ _ (omega (arith, add_parts a b))

  pub b_nadd : (a b : ℤ) (r : List ℤ) (p q : ℕ) → Bal k (neg_ℤ (a +ℤ b) ∷ r) p q ↔ Bal k (neg_ℤ a ∷ neg_ℤ b ∷ r) p q
  b_nadd a b r p q = move k _ _ _ _ _ _ (omega (arith, add_parts a b, plus_part_neg (a +ℤ b), minus_part_neg (a +ℤ b), plus_part_neg a, minus_part_neg a, plus_part_neg b, minus_part_neg b))

  pub b_nneg : (a : ℤ) (r : List ℤ) (p q : ℕ) → Bal k (neg_ℤ (neg_ℤ a) ∷ r) p q ↔ Bal k (a ∷ r) p q
  b_nneg a r p q = move k _ _ _ _ _ _ (omega (arith, plus_part_neg (neg_ℤ a), minus_part_neg (neg_ℤ a), plus_part_neg a, minus_part_neg a))

  pub b_neg : (a : ℤ) (r : List ℤ) (p q : ℕ) → Bal k (neg_ℤ a ∷ r) p q ↔ Bal k r (p + minus_part a) (q + plus_part a)
  b_neg a r p q = move k _ _ _ _ _ _ (omega (arith, plus_part_neg a, minus_part_neg a))

  pub b_at : (a : ℤ) (r : List ℤ) (p q : ℕ) → Bal k (a ∷ r) p q ↔ Bal k r (p + plus_part a) (q + minus_part a)
  b_at a r p q = move k _ _ _ _ _ _ (omega arith)

-- the end
pub b_eqs : (p q : ℕ) → Bal eqs [] p q ↔ (q ≡ p)
b_eqs p q = ((λ h. omega (arith, h.bal)), (λ h. record { bal = omega arith }))

pub b_les : (p q : ℕ) → Bal les [] p q ↔ (q ≤ p)
b_les p q = ((λ h. omega (arith, h.bal)), (λ h. record { bal = omega arith }))

-- ---- the product: sums are multiplied out
pub mul_addl : (a b c : ℤ) → (a +ℤ b) *ℤ c ≡ a *ℤ c +ℤ b *ℤ c
mul_addl a b c = ext _ _ (omega (arith, plus_part_mul (a +ℤ b) c, minus_part_mul (a +ℤ b) c, plus_part_mul a c, minus_part_mul a c, plus_part_mul b c, minus_part_mul b c, add_parts (a *ℤ c) (b *ℤ c), ap (λ (n : ℕ). n * plus_part c) (add_parts a b), ap (λ (n : ℕ). n * minus_part c) (add_parts a b)))

pub mul_addr : (a b c : ℤ) → a *ℤ (b +ℤ c) ≡ a *ℤ b +ℤ a *ℤ c
mul_addr a b c = ext _ _ (omega (arith, plus_part_mul a (b +ℤ c), minus_part_mul a (b +ℤ c), plus_part_mul a c, minus_part_mul a c, plus_part_mul a b, minus_part_mul a b, add_parts (a *ℤ b) (a *ℤ c), ap (λ (n : ℕ). n * plus_part a) (add_parts b c), ap (λ (n : ℕ). n * minus_part a) (add_parts b c)))

pub mul_negl : (a b : ℤ) → neg_ℤ a *ℤ b ≡ neg_ℤ (a *ℤ b)
mul_negl a b = ext _ _ (simp (plus_part_neg, minus_part_neg, plus_part_mul, minus_part_mul) (omega arith))

pub mul_negr : (a b : ℤ) → a *ℤ neg_ℤ b ≡ neg_ℤ (a *ℤ b)
mul_negr a b = ext _ _ (simp (plus_part_neg, minus_part_neg, plus_part_mul, minus_part_mul) (omega arith))

pub mul_assoc : (a b c : ℤ) → (a *ℤ b) *ℤ c ≡ a *ℤ (b *ℤ c)
mul_assoc a b c = ext _ _ (simp (plus_part_mul, minus_part_mul) (omega arith))

module _ (k : Kind) where
  pub b_ml : (a b c : ℤ) (r : List ℤ) (p q : ℕ) → Bal k (((a +ℤ b) *ℤ c) ∷ r) p q ↔ Bal k ((a *ℤ c) ∷ (b *ℤ c) ∷ r) p q
  b_ml a b c r p q = rw mul_addl (b_add k (a *ℤ c) (b *ℤ c) r p q)

  pub b_mr : (a b c : ℤ) (r : List ℤ) (p q : ℕ) → Bal k ((a *ℤ (b +ℤ c)) ∷ r) p q ↔ Bal k ((a *ℤ b) ∷ (a *ℤ c) ∷ r) p q
  b_mr a b c r p q = rw mul_addr (b_add k (a *ℤ b) (a *ℤ c) r p q)

  pub b_nml : (a b c : ℤ) (r : List ℤ) (p q : ℕ) → Bal k (neg_ℤ ((a +ℤ b) *ℤ c) ∷ r) p q ↔ Bal k (neg_ℤ (a *ℤ c) ∷ neg_ℤ (b *ℤ c) ∷ r) p q
  b_nml a b c r p q = rw mul_addl (b_nadd k (a *ℤ c) (b *ℤ c) r p q)

  pub b_nmr : (a b c : ℤ) (r : List ℤ) (p q : ℕ) → Bal k (neg_ℤ (a *ℤ (b +ℤ c)) ∷ r) p q ↔ Bal k (neg_ℤ (a *ℤ b) ∷ neg_ℤ (a *ℤ c) ∷ r) p q
  b_nmr a b c r p q = rw mul_addr (b_nadd k (a *ℤ b) (a *ℤ c) r p q)

-- ---- the statements
pub s_eq : (a b : ℤ) → (a ≡ b) ↔ Bal eqs (a ∷ neg_ℤ b ∷ []) 0 0
s_eq a b = (
  (λ h. record { bal = omega (arith, plus_part_neg b, minus_part_neg b, ap plus_part h, ap minus_part h) }),
  (λ h. ext a b (omega (arith, h.bal, plus_part_neg b, minus_part_neg b))),
)

-- the tests, on the parts
pub r_ltt : (a b : ℤ) → lt_z a b ≡ true → plus_part a + minus_part b < plus_part b + minus_part a
r_ltt (pos a) (pos b) e = omega (arith, ltb-true a b e)
r_ltt (pos a) (negsuc b) e = absurd (subst T (sym e) tt)
r_ltt (negsuc a) (pos b) e = omega arith
r_ltt (negsuc a) (negsuc b) e = omega (arith, ltb-true b a e)

pub r_ltf : (a b : ℤ) → lt_z a b ≡ false → plus_part b + minus_part a ≤ plus_part a + minus_part b
r_ltf (pos a) (pos b) e = omega (arith, ltb-false a b e)
r_ltf (pos a) (negsuc b) e = omega arith
r_ltf (negsuc a) (pos b) e = absurd (subst T e tt)
r_ltf (negsuc a) (negsuc b) e = omega (arith, ltb-false b a e)

pub r_let : (a b : ℤ) → le_z a b ≡ true → plus_part a + minus_part b ≤ plus_part b + minus_part a
r_let (pos a) (pos b) e = omega (arith, leb-true a b e)
r_let (pos a) (negsuc b) e = absurd (subst T (sym e) tt)
r_let (negsuc a) (pos b) e = omega arith
r_let (negsuc a) (negsuc b) e = omega (arith, leb-true b a e)

pub r_lef : (a b : ℤ) → le_z a b ≡ false → plus_part b + minus_part a < plus_part a + minus_part b
r_lef (pos a) (pos b) e = omega (arith, leb-false a b e)
r_lef (pos a) (negsuc b) e = omega arith
r_lef (negsuc a) (pos b) e = absurd (subst T e tt)
r_lef (negsuc a) (negsuc b) e = omega (arith, leb-false b a e)

-- and back
g_ltt : (a b : ℤ) → plus_part a + minus_part b < plus_part b + minus_part a → lt_z a b ≡ true
g_ltt (pos a) (pos b) h = lt-ltb a b (omega arith)
g_ltt (pos a) (negsuc b) h = absurd (omega arith)
g_ltt (negsuc a) (pos b) h = refl
g_ltt (negsuc a) (negsuc b) h = lt-ltb b a (omega arith)

g_ltf : (a b : ℤ) → plus_part b + minus_part a ≤ plus_part a + minus_part b → lt_z a b ≡ false
g_ltf (pos a) (pos b) h = le-ltb a b (omega arith)
g_ltf (pos a) (negsuc b) h = refl
g_ltf (negsuc a) (pos b) h = absurd (omega arith)
g_ltf (negsuc a) (negsuc b) h = le-ltb b a (omega arith)

g_let : (a b : ℤ) → plus_part a + minus_part b ≤ plus_part b + minus_part a → le_z a b ≡ true
g_let (pos a) (pos b) h = le-leb a b (omega arith)
g_let (pos a) (negsuc b) h = absurd (omega arith)
g_let (negsuc a) (pos b) h = refl
g_let (negsuc a) (negsuc b) h = le-leb b a (omega arith)

g_lef : (a b : ℤ) → plus_part b + minus_part a < plus_part a + minus_part b → le_z a b ≡ false
g_lef (pos a) (pos b) h = lt-leb a b (omega arith)
g_lef (pos a) (negsuc b) h = refl
g_lef (negsuc a) (pos b) h = absurd (omega arith)
g_lef (negsuc a) (negsuc b) h = lt-leb b a (omega arith)

is_true : (t : Bool) → T t → t ≡ true
is_true true h = refl
is_true false h = absurd h

of_true : (t : Bool) → t ≡ true → T t
of_true t e = subst T (sym e) tt

pub s_ltt : (a b : ℤ) → (lt_z a b ≡ true) ↔ Bal les (b ∷ neg_ℤ a ∷ []) 0 1
s_ltt a b = ((λ h. record { bal = omega (arith, r_ltt a b h, plus_part_neg a, minus_part_neg a) }), (λ h. g_ltt a b (omega (arith, h.bal, plus_part_neg a, minus_part_neg a))))

pub s_ltf : (a b : ℤ) → (lt_z a b ≡ false) ↔ Bal les (a ∷ neg_ℤ b ∷ []) 0 0
s_ltf a b = ((λ h. record { bal = omega (arith, r_ltf a b h, plus_part_neg b, minus_part_neg b) }), (λ h. g_ltf a b (omega (arith, h.bal, plus_part_neg b, minus_part_neg b))))

pub s_let : (a b : ℤ) → (le_z a b ≡ true) ↔ Bal les (b ∷ neg_ℤ a ∷ []) 0 0
s_let a b = ((λ h. record { bal = omega (arith, r_let a b h, plus_part_neg a, minus_part_neg a) }), (λ h. g_let a b (omega (arith, h.bal, plus_part_neg a, minus_part_neg a))))

pub s_lef : (a b : ℤ) → (le_z a b ≡ false) ↔ Bal les (a ∷ neg_ℤ b ∷ []) 0 1
s_lef a b = ((λ h. record { bal = omega (arith, r_lef a b h, plus_part_neg b, minus_part_neg b) }), (λ h. g_lef a b (omega (arith, h.bal, plus_part_neg b, minus_part_neg b))))

pub s_le : (a b : ℤ) → (a ≤ℤ b) ↔ Bal les (b ∷ neg_ℤ a ∷ []) 0 0
s_le a b = ((λ h. (s_let a b).0 (is_true (le_z a b) h.le)), (λ h. le_z_yes (of_true (le_z a b) ((s_let a b).1 h))))

pub s_lt : (a b : ℤ) → (a <ℤ b) ↔ Bal les (b ∷ neg_ℤ a ∷ []) 0 1
s_lt a b = ((λ h. (s_ltt a b).0 (is_true (lt_z a b) h.lt)), (λ h. lt_z_yes (of_true (lt_z a b) ((s_ltt a b).1 h))))

pub s_nn : (a : ℤ) → T (non_neg a) ↔ Bal les (a ∷ []) 0 0
s_nn (pos a) = ((λ h. record { bal = omega arith }), (λ h. tt))
s_nn (negsuc a) = ((λ h. absurd h), (λ h. absurd (omega (arith, h.bal))))

pub fit_hi : {w : Width} {z : ℤ} → SFits w z → plus_part z < 2 ^ hbits w
fit_hi {z = pos a} h = h.sfits
fit_hi {z = negsuc a} h = omega (arith, h.sfits)

pub fit_lo : {w : Width} {z : ℤ} → SFits w z → minus_part z ≤ 2 ^ hbits w
fit_lo {z = pos a} h = omega arith
fit_lo {z = negsuc a} h = h.sfits

fit_by : (w : Width) (z : ℤ) → plus_part z < 2 ^ hbits w + minus_part z → minus_part z ≤ 2 ^ hbits w + plus_part z → SFits w z
fit_by w (pos a) h k = record { sfits = omega arith }
fit_by w (negsuc a) h k = record { sfits = omega arith }

pub s_fit : (w : Width) (z : ℤ) → SFits w z ↔ (Bal les (z ∷ []) (2 ^ hbits w) 0 × Bal les (neg_ℤ z ∷ []) (2 ^ hbits w) 1)
s_fit w z = (
  (λ h. (record { bal = omega (arith, fit_lo h) }, record { bal = omega (arith, fit_hi h, plus_part_neg z, minus_part_neg z) })),
  (λ h. fit_by w z (omega (arith, h.1.bal, plus_part_neg z, minus_part_neg z)) (omega (arith, h.0.bal))),
)

-- a bound on |z|, in a goal: z and its opposite are at most b
abs_by : (z : ℤ) (b : ℕ) → plus_part z ≤ b + minus_part z → minus_part z ≤ b + plus_part z → plus_part z + minus_part z ≤ b
abs_by (pos a) b h k = omega arith
abs_by (negsuc a) b h k = omega arith

pub s_abs : (z : ℤ) (b : ℕ) → (plus_part z + minus_part z ≤ b) ↔ (Bal les (neg_ℤ z ∷ []) b 0 × Bal les (z ∷ []) b 0)
s_abs z b = (
  (λ h. (record { bal = omega (arith, plus_part_neg z, minus_part_neg z) }, record { bal = omega arith })),
  (λ h. abs_by z b (omega (arith, h.0.bal, plus_part_neg z, minus_part_neg z)) (omega (arith, h.1.bal))),
)

pub s_absl : (z : ℤ) (b : ℕ) → (plus_part z + minus_part z < b) ↔ (Bal les (neg_ℤ z ∷ []) b 1 × Bal les (z ∷ []) b 1)
s_absl (pos a) b = (
  (λ h. (record { bal = omega (arith, plus_part_neg (pos a), minus_part_neg (pos a)) }, record { bal = omega arith })),
  (λ h. omega (arith, h.0.bal, h.1.bal, plus_part_neg (pos a), minus_part_neg (pos a))),
)
s_absl (negsuc a) b = (
  (λ h. (record { bal = omega arith }, record { bal = omega arith })),
  (λ h. omega (arith, h.0.bal, h.1.bal)),
)

pub s_nabs : (z : ℤ) (b : ℕ) → (nat_abs z ≤ b) ↔ (Bal les (neg_ℤ z ∷ []) b 0 × Bal les (z ∷ []) b 0)
s_nabs z b = rw nat_abs_parts (s_abs z b)

pub s_nabsl : (z : ℤ) (b : ℕ) → (nat_abs z < b) ↔ (Bal les (neg_ℤ z ∷ []) b 1 × Bal les (z ∷ []) b 1)
s_nabsl z b = rw nat_abs_parts (s_absl z b)

pub s_ufit : (w : Width) (n : ℕ) → Fits w n ↔ (n < 2 ^ bits w)
s_ufit w n = ((λ h. h.fits), (λ h. record { fits = h }))

-- one of the two parts is 0: for `omega`, where the sign of an atom is known and a part is asked
pub plus_part_zero : (z : ℤ) → plus_part z ≤ minus_part z → plus_part z ≡ 0
plus_part_zero (pos a) h = omega arith
plus_part_zero (negsuc a) h = refl

pub minus_part_zero : (z : ℤ) → minus_part z ≤ plus_part z → minus_part z ≡ 0
minus_part_zero (pos a) h = refl
minus_part_zero (negsuc a) h = absurd (omega arith)

-- |x| of a negative x as the code has it, with no overflow at the least number: -(x + 1), and one more
pub abs_step : (x : ℤ) → lt_z x (pos 0) ≡ true → nat_abs (pos 0 -ℤ (x +ℤ pos 1)) + 1 ≡ nat_abs x
abs_step x h = omega (arith, nat_abs_parts x, nat_abs_parts (pos 0 -ℤ (x +ℤ pos 1)), add_parts x (pos 1), add_parts (pos 0) (neg_ℤ (x +ℤ pos 1)), plus_part_neg (x +ℤ pos 1), minus_part_neg (x +ℤ pos 1), r_ltt x (pos 0) h, plus_part_zero x (omega (arith, r_ltt x (pos 0) h)), minus_part_zero (pos 0 -ℤ (x +ℤ pos 1)) (omega (arith, add_parts x (pos 1), add_parts (pos 0) (neg_ℤ (x +ℤ pos 1)), plus_part_neg (x +ℤ pos 1), minus_part_neg (x +ℤ pos 1), r_ltt x (pos 0) h)))

-- the set for `simp`. The order counts
pub ruleset ints = (s_eq, s_le, s_lt, s_ltt, s_ltf, s_let, s_lef, s_nn, s_fit, s_abs, s_absl, s_nabs, s_nabsl, s_ufit, b_add, b_nadd, b_nneg, b_ml, b_mr, b_nml, b_nmr, mul_negl, mul_negr, b_neg, b_at, b_eqs, b_les, plus_part_mul, minus_part_mul, plus_part_neg, minus_part_neg)

-- the same with products for atoms
pub ruleset lins = (s_eq, s_le, s_lt, s_ltt, s_ltf, s_let, s_lef, s_nn, s_fit, s_abs, s_absl, s_nabs, s_nabsl, s_ufit, b_add, b_nadd, b_nneg, b_neg, b_at, b_eqs, b_les, plus_part_neg, minus_part_neg)

-- `ints` multiplies out a product of two at the top of a summand, and `omega` takes at most 64 monomials. Past that, multiply out and sort the products first, and take each for an atom: `simp (ring, ac) (simp lins (omega arith))`; `simp (ring, ac)` alone where nothing cancels
pub ruleset ring = (mul_assoc, mul_addl, mul_addr, mul_negl, mul_negr)

pub add_left_comm : (a b c : ℤ) → a +ℤ (b +ℤ c) ≡ b +ℤ (a +ℤ c)
add_left_comm a b c = (s_eq _ _).1 (simp (b_add, b_nadd, b_neg, b_at, b_eqs) (omega arith))

pub mul_left_comm : (a b c : ℤ) → a *ℤ (b *ℤ c) ≡ b *ℤ (a *ℤ c)
mul_left_comm a b c = ext _ _ (simp (plus_part_mul, minus_part_mul) (omega arith))

-- sums and products sorted: `simp (ring, ac)` proves an equation of any degree whose two sides have, multiplied out, the same summands. It cancels nothing
pub ruleset ac = (+ℤ_assoc, +ℤ_comm, add_left_comm, *ℤ_comm, mul_left_comm, neg_ℤ-+ℤ, neg_ℤ-neg_ℤ)

-- ---- rules for `omega`: hypotheses between atoms are read as they stand
pub r_eq : (a b : ℤ) → a ≡ b → plus_part a + minus_part b ≡ plus_part b + minus_part a
r_eq a b h = omega (arith, ap plus_part h, ap minus_part h)

pub r_le : (a b : ℤ) → a ≤ℤ b → plus_part a + minus_part b ≤ plus_part b + minus_part a
r_le a b h = r_let a b (is_true (le_z a b) h.le)

pub r_lt : (a b : ℤ) → a <ℤ b → plus_part a + minus_part b < plus_part b + minus_part a
r_lt a b h = r_ltt a b (is_true (lt_z a b) h.lt)

-- a local of the code holds bits, and its number reads as `to_z w (of_z w z)`, which is z where z fits. (`omega` applies the first rule alone that fits a hypothesis, so the bounds that a fit gives are listed: `fit_hi`, `fit_lo`)
pub r_rd : (w : Width) (z : ℤ) → SFits w z → plus_part (to_z w (of_z w z)) + minus_part z ≡ plus_part z + minus_part (to_z w (of_z w z))
r_rd w z h = r_eq _ _ (to_z-of_z h)

-- the number itself, for `rw`: `rw (rd (add-x c)) ..` where `add-x c` shows that the sum fits
pub rd : {w : Width} {z : ℤ} → SFits w z → to_z w (of_z w z) ≡ z
rd h = to_z-of_z h

-- two numbers with the same bits, as `a == b` tells of two signed numbers
pub bits_eq : {w : Width} {a b : ℤ} → SFits w a → SFits w b → of_z w a ≡ of_z w b → a ≡ b
bits_eq {w} f g e = sym (to_z-of_z f) ∙ ap (to_z w) e ∙ to_z-of_z g

pub ruleset zarith = (arith, r_eq, r_le, r_lt, r_ltt, r_ltf, r_let, r_lef, r_rd)
