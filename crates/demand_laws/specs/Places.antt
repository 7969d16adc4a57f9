-- Places in the list of those of 0, 1, .., n − 1 that pass a test, and sums over them: plain laws.
-- Assumes nothing.
use Rattle.std.specs.Prelude.{◌≡◌, Bool, false, ℤ, pos, ◌+ℤ◌}
use Rattle.std.proofs.Math.Path.{refl, ap}
use Rattle.std.proofs.Common.{sym, ap₂, ◌∙◌, not-suc-le-zero, zero-add}
use Rattle.std.proofs.Math.Bool.{true, cond}
use mathlib.Core.List.{List, [], ◌∷◌, ◌++◌, append-nil}
use Prim.Native.Nat.{ℕ, zero, suc, ◌+◌, ◌-◌, ◌<◌, ◌≤◌}
use native.Mathlib.Omega.{arith}
use Rattle.std.proofs.Math.Decide.{dec_lt}
use Rattle.std.proofs.Math.Numerals.{suc-eq-add-one}
use Rattle.std.proofs.Math.ListN.{length, get_or, length-append, get_or-append}
use Rattle.std.proofs.Math.Seq.{get_or_at}
use Rattle.std.proofs.Math.IntN.{+ℤ_idr}
use Rattle.whole.specs.Words.{from, upto, those}
use Rattle.whole.specs.Those.{those_append, from_append, those_last}
use Rattle.whole.specs.Members.{apart_at, apart_those, apart_upto}
use Rattle.whole.specs.Sum.{Σ<, Σ_cong}
use Rattle.cost_laws.specs.Cost.{when, when_zero, row_zero, row_cost, cost_of}

-- ---- those that pass
module _ (p : ℕ → Bool) where
  -- how many pass below m
  abbrev pub count : ℕ → ℕ
  count m = length (those p (upto m))

  one_more : (m : ℕ) → those p (upto (suc m)) ≡ those p (upto m) ++ cond (p m) (m ∷ []) []
  unfolding those
  one_more m = ap (λ (k : ℕ). those p (upto k)) (suc-eq-add-one m) ∙ those_last p m

  -- one that passes stands at the place that the count below it says
  pub place_of : (n m : ℕ) → m < n → p m ≡ true → get_or (those p (upto n)) (count m) 0 ≡ m
  unfolding those from
  place_of n m l h =
      let e : n ≡ m + suc (n - m - 1) = omega arith in
      ap (λ (k : ℕ). get_or (those p (upto k)) (count m) 0) e
      ∙ ap (λ (xs : List ℕ). get_or (those p xs) (count m) 0) (from_append 0 m (suc (n - m - 1)))
      ∙ ap (λ (xs : List ℕ). get_or xs (count m) 0) (those_append p (upto m) (from (0 + m) (suc (n - m - 1))))
      ∙ ap (λ (k : ℕ). get_or (those p (upto m) ++ cond (p k) (k ∷ those p (from (suc k) (n - m - 1))) (those p (from (suc k) (n - m - 1)))) (count m) 0) (zero-add m)
      ∙ ap (λ (b : Bool). get_or (those p (upto m) ++ cond b (m ∷ those p (from (suc m) (n - m - 1))) (those p (from (suc m) (n - m - 1)))) (count m) 0) h
      ∙ get_or_at (those p (upto m)) m (those p (from (suc m) (n - m - 1))) 0 (count m) refl

  -- and the count below the one at place k is k
  pub count_at : (n k : ℕ) → k < count n → count (get_or (those p (upto n)) k 0) ≡ k
  unfolding those from
  count_at zero k h = absurd (not-suc-le-zero h)
  count_at (suc n) k h = go (p n) (one_more n) (count_at n k)
    where
      go : (b : Bool) → those p (upto (suc n)) ≡ those p (upto n) ++ cond b (n ∷ []) [] → (k < count n → count (get_or (those p (upto n)) k 0) ≡ k)
          → count (get_or (those p (upto (suc n))) k 0) ≡ k
      go true e r = last (dec_lt k (count n))
        where
          long : count (suc n) ≡ count n + 1
          long = ap length e ∙ length-append (those p (upto n)) (n ∷ [])

          last : Dec (k < count n) → count (get_or (those p (upto (suc n))) k 0) ≡ k
          last (yes l) = ap (λ (xs : List ℕ). count (get_or xs k 0)) e ∙ ap count (get_or-append (those p (upto n)) (n ∷ []) 0 k l) ∙ r l
          last (no l) =
              let same : count n ≡ k = omega (arith, long) in
              ap (λ (xs : List ℕ). count (get_or xs k 0)) e ∙ ap count (get_or_at (those p (upto n)) n [] 0 k same) ∙ same
      go false e r =
          let f : those p (upto (suc n)) ≡ those p (upto n) = e ∙ append-nil (those p (upto n)) in
          ap (λ (xs : List ℕ). count (get_or xs k 0)) f ∙ r (rw f at h)

  -- a sum over all is the sum over those that pass, where every other one has 0
  pub sum_places : (n : ℕ) (F : ℕ → ℤ) → ((m : ℕ) → m < n → p m ≡ false → F m ≡ pos 0) → (m : ℕ) → m ≤ n → Σ< m F ≡ Σ< (count m) (λ k. F (get_or (those p (upto n)) k 0))
  unfolding Σ< those from
  sum_places n F h zero l = refl
  sum_places n F h (suc m) l = go (p m) refl (one_more m) (sum_places n F h m (omega arith))
    where
      rest : ℕ → ℕ
      rest k = get_or (those p (upto n)) k 0

      go : (b : Bool) → p m ≡ b → those p (upto (suc m)) ≡ those p (upto m) ++ cond b (m ∷ []) [] → Σ< m F ≡ Σ< (count m) (λ k. F (rest k))
          → Σ< m F +ℤ F m ≡ Σ< (count (suc m)) (λ k. F (rest k))
      go true t e r =
          let long : count (suc m) ≡ suc (count m) = ap length e ∙ length-append (those p (upto m)) (m ∷ []) ∙ omega arith in
          ap₂ (λ (u v : ℤ). u +ℤ v) r (sym (ap F (place_of n m (omega arith) t))) ∙ sym (ap (λ (m : ℕ). Σ< m (λ k. F (rest k))) long)
      go false t e r =
          ap₂ (λ (u v : ℤ). u +ℤ v) r (h m (omega arith) t) ∙ +ℤ_idr (Σ< (count m) (λ k. F (rest k)))
          ∙ ap (λ (xs : List ℕ). Σ< (length xs) (λ k. F (rest k))) (sym (e ∙ append-nil (those p (upto m))))

  -- so the cost of a plan hangs on those that pass only, where no other has a weight or an edge
  pub cost_places : (n : ℕ) (c : ℤ) (a : ℕ → ℤ) (w : ℕ → ℕ → ℤ) (x : ℕ → Bool) → ((m : ℕ) → p m ≡ false → a m ≡ pos 0)
      → ((i j : ℕ) → i < n → j < n → p i ≡ false → w i j ≡ pos 0) → ((i j : ℕ) → i < n → j < n → p j ≡ false → w i j ≡ pos 0)
      → cost_of n c a w x
      ≡ cost_of (count n) c (λ k. a (get_or (those p (upto n)) k 0)) (λ k l. w (get_or (those p (upto n)) k 0) (get_or (those p (upto n)) l 0)) (λ k. x (get_or (those p (upto n)) k 0))
  unfolding cost_of
  cost_places n c a w x h across down =
      ap (λ (z : ℤ). c +ℤ z)
      (sum_places n (row_cost a w x) empty_row n (omega arith)
      ∙ Σ_cong (count n) (λ k. row_cost a w x (rest k)) (row_cost (λ k. a (rest k)) (λ k l. w (rest k) (rest l)) (λ k. x (rest k))) same_row)
    where
      rest : ℕ → ℕ
      rest k = get_or (those p (upto n)) k 0

      inside : (k : ℕ) → k < count n → rest k < n
      inside k l = apart_at n (those p (upto n)) k (apart_those p (apart_upto n)) l

      empty_row : (m : ℕ) → m < n → p m ≡ false → row_cost a w x m ≡ pos 0
      empty_row m l t = row_zero a w x m (h m t) (λ j b. across m j l (omega arith) t)

      same_row : (k : ℕ) → k < count n → row_cost a w x (rest k) ≡ row_cost (λ k. a (rest k)) (λ k l. w (rest k) (rest l)) (λ k. x (rest k)) k
      same_row k l =
          let b : rest k < n = inside k l in
          ap (λ (z : ℤ). when (x (rest k)) (a (rest k) +ℤ z))
          (sum_places n (λ j. when (x j) (w (rest k) j)) (λ j lj t. ap (when (x j)) (down (rest k) j b lj t) ∙ when_zero (x j)) (rest k) (omega arith)
          ∙ ap (λ (m : ℕ). Σ< m (λ j. when (x (rest j)) (w (rest k) (rest j)))) (count_at n k l))

-- a cost hangs on what stands below n only
pub cost_same : (n : ℕ) (c : ℤ) (a b : ℕ → ℤ) (v w : ℕ → ℕ → ℤ) (x y : ℕ → Bool) → ((i : ℕ) → i < n → a i ≡ b i) → ((i j : ℕ) → i < n → j < n → v i j ≡ w i j)
    → ((i : ℕ) → i < n → x i ≡ y i) → cost_of n c a v x ≡ cost_of n c b w y
unfolding cost_of
cost_same n c a b v w x y p q r =
    ap (λ (z : ℤ). c +ℤ z) (Σ_cong n (row_cost a v x) (row_cost b w y)
    (λ i l. ap₂ (λ (t : Bool) (z : ℤ). when t z) (r i l) (ap₂ (λ (z s : ℤ). z +ℤ s) (p i l)
    (Σ_cong i (λ j. when (x j) (v i j)) (λ j. when (y j) (w i j)) (λ j m. ap₂ (λ (t : Bool) (z : ℤ). when t z) (r j (omega arith)) (q i j l (omega arith)))))))
