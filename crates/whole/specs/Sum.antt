-- Sums of integers over a range: Σ< n f is f 0 + .. + f (n − 1). Their laws.
-- Assumes nothing.
use Rattle.std.specs.Prelude.{◌≡◌, refl, ◌≢◌, cond, ℕ, zero, suc, ◌<◌, eqb, ℤ, pos, ◌+ℤ◌, ◌-ℤ◌}
use Rattle.std.proofs.Common.{arith, eq-eqb, ne_eqb}
use Rattle.std.proofs.Math.Decide.{ℕ_discrete}
use Rattle.whole.specs.Ints.{ints}

unfoldable pub Σ< : ℕ → (ℕ → ℤ) → ℤ
Σ< zero f = pos 0
Σ< (suc n) f = Σ< n f +ℤ f n

pub Σ_cong : (n : ℕ) (f g : ℕ → ℤ) → ((i : ℕ) → i < n → f i ≡ g i) → Σ< n f ≡ Σ< n g
unfolding Σ<
Σ_cong zero f g h = refl
Σ_cong (suc n) f g h = let e : Σ< n f ≡ Σ< n g = Σ_cong n f g (λ i l. h i (omega arith)) in cc (h n (omega arith))

pub Σ_none : (n : ℕ) → Σ< n (λ i. pos 0) ≡ pos 0
unfolding Σ<
Σ_none zero = refl
Σ_none (suc n) = rw (Σ_none n)

-- one summand is another
pub Σ_change : (n k : ℕ) (f g : ℕ → ℤ) → k < n → ((i : ℕ) → i ≢ k → g i ≡ f i) → Σ< n g ≡ Σ< n f +ℤ (g k -ℤ f k)
unfolding Σ<
Σ_change zero k f g l h = absurd (omega arith)
Σ_change (suc n) k f g l h = by (ℕ_discrete n k) (λ k<n. Σ_change n k f g k<n h)
  where
    by : Dec (n ≡ k) → (k < n → Σ< n g ≡ Σ< n f +ℤ (g k -ℤ f k)) → Σ< n g +ℤ g n ≡ (Σ< n f +ℤ f n) +ℤ (g k -ℤ f k)
    by (yes e) r = rw (← e, Σ_cong n g f (λ i i<n. h i (omega arith))) (simp ints (omega arith))
    by (no e) r = rw (r (omega arith), h n e) (simp ints (omega arith))

-- a running sum: one summand has joined it, and none is left
pub sum_next : (x x' v n n' s : ℤ) → x' ≡ x +ℤ v → n ≡ v +ℤ n' → x +ℤ n ≡ s → x' +ℤ n' ≡ s
sum_next x x' v n n' s p q e = rw p (simp ints (omega (arith, simp ints at q, simp ints at e)))

pub sum_end : (x n y : ℤ) → n ≡ pos 0 → x +ℤ n ≡ y → x ≡ y
sum_end x n y p e = simp ints (omega (arith, simp ints at e, simp ints at p))

-- one summand split off: the rest has 0 in its place
abbrev pub but : ℕ → (ℕ → ℤ) → ℕ → ℤ
but k f i = cond (eqb i k) (pos 0) (f i)

pub but_same : (k : ℕ) (f : ℕ → ℤ) → but k f k ≡ pos 0
but_same k f = rw (eq-eqb k k refl)

pub but_other : (k : ℕ) (f : ℕ → ℤ) (i : ℕ) → i ≢ k → but k f i ≡ f i
but_other k f i h = rw (ne_eqb i k h)

pub Σ_split : (n k : ℕ) (f : ℕ → ℤ) → k < n → Σ< n f ≡ f k +ℤ Σ< n (but k f)
Σ_split n k f l = rw (Σ_change n k f (but k f) l (but_other k f), but_same) (simp ints (omega arith))
