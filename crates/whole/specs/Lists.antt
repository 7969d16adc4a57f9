-- Laws of lists that are filled from the front.
-- Assumes nothing.
use Prim.Native.Nat.{ℕ, zero, suc, ◌+◌, ◌-◌, ◌<◌, ◌≤◌}
use Rattle.std.specs.Prelude.{◌≡◌, List, [], ◌∷◌, ◌++◌, map, length, get_or, set, take, drop, replicate}
use Rattle.std.proofs.Math.Path.{refl, ap, sym}
use Rattle.std.proofs.Common.{ap₂, ◌∙◌, append-nil, add-one, zero-add, arith, length-append, get_or-set_same, get_or-set_other}
use Rattle.std.proofs.Math.Nat.{add-zero, sub-zero, suc-sub-suc}
use Rattle.std.proofs.lemmas.List.{length-map, set_at, get_or_at}
use Rattle.std.proofs.Math.ListN.{get_or-append, get_or-eq_default}
use Rattle.std.proofs.Math.Decide.{ℕ_discrete}
use Rattle.std.proofs.Math.Seq.{drop-cons, drop-length, append_snoc}
use Rattle.whole.specs.Words.{tab, from}
use Rattle.whole.specs.Counts.{shift}

module _ {A : Type 0} (f : ℕ → A) where
  pub length_tab : (k : ℕ) → length (tab f k) ≡ k
  unfolding tab
  length_tab zero = refl
  length_tab (suc k) = rw (length-append, length_tab k) (omega arith)

  pub fill_none : (o : List A) → o ≡ tab f 0 ++ drop 0 o
  unfolding tab
  fill_none o = refl

  pub fill_turn : (o : List A) (k : ℕ) → k < length o → set (tab f k ++ drop k o) k (f k) ≡ tab f (k + 1) ++ drop (k + 1) o
  unfolding tab
  fill_turn o k h =
      rw (add-one, drop-cons o k (f k) h)
      (set_at (tab f k) _ (drop (suc k) o) (f k) k (length_tab k) ∙ sym (append_snoc (tab f k) (f k) (drop (suc k) o)))

  pub fill_end : (o : List A) (k n : ℕ) → length o ≡ n → k ≡ n → tab f k ++ drop k o ≡ tab f n
  fill_end o k n l e = rw (e, ← l, drop-length) (append-nil _)

  -- a turn, as a loop's proof has it
  pub fill_step : (o₀ o : List A) (k : ℕ) (v : A) → k < length o₀ → o ≡ tab f k ++ drop k o₀ → v ≡ f k → set o k v ≡ tab f (k + 1) ++ drop (k + 1) o₀
  fill_step o₀ o k v h e d = ap (set o k) d ∙ ap (λ (t : List A). set t k (f k)) e ∙ fill_turn o₀ k h

  -- the same list, from the front
  tab_from : (a c : ℕ) → tab f a ++ map f (from a c) ≡ tab f (a + c)
  unfolding tab from
  tab_from a zero = rw add-zero (append-nil _)
  tab_from a (suc c) = sym (append_snoc (tab f a) (f a) (map f (from (suc a) c))) ∙ tab_from (suc a) c ∙ ap (tab f) (shift a c)

  pub tab_map : (n : ℕ) → map f (from 0 n) ≡ tab f n
  unfolding tab
  tab_map n = tab_from 0 n ∙ ap (tab f) (zero-add n)

pub drop_replicate : {A : Type 0} (n m : ℕ) (a : A) → n ≤ m → drop n (replicate m a) ≡ replicate (m - n) a
drop_replicate zero m a h = ap (λ (k : ℕ). replicate k a) (sym (sub-zero m))
drop_replicate (suc n) zero a h = absurd (omega arith)
drop_replicate (suc n) (suc m) a h = drop_replicate n m a (omega arith) ∙ ap (λ (k : ℕ). replicate k a) (sym (suc-sub-suc m n))

pub tab_same : {A : Type 0} (f g : ℕ → A) (n : ℕ) → ((k : ℕ) → k < n → f k ≡ g k) → tab f n ≡ tab g n
unfolding tab
tab_same f g zero h = refl
tab_same {A} f g (suc n) h = ap₂ (λ (t : List A) (x : A). t ++ x ∷ []) (tab_same f g n (λ k l. h k (omega arith))) (h n (omega arith))

-- a constant, n times
pub tab_replicate : {A : Type 0} (a : A) (n : ℕ) → tab (λ k. a) n ≡ replicate n a
unfolding tab
tab_replicate a zero = refl
tab_replicate a (suc n) = rw (tab_replicate a n) (snoc n)
  where
    snoc : (n : ℕ) → replicate n a ++ (a ∷ []) ≡ replicate (suc n) a
    snoc zero = refl
    snoc (suc n) = ap (λ t. a ∷ t) (snoc n)

-- at each place, and past the end
pub replicate_at : {A : Type 0} (a : A) (n k : ℕ) → get_or (replicate n a) k a ≡ a
replicate_at a zero k = refl
replicate_at a (suc n) zero = refl
replicate_at a (suc n) (suc k) = replicate_at a n k

pub tab_at : {A : Type 0} (f : ℕ → A) (n j : ℕ) (d : A) → j < n → get_or (tab f n) j d ≡ f j
unfolding tab
tab_at f zero j d h = absurd (omega arith)
tab_at f (suc k) j d h = by (ℕ_discrete j k) (λ l. tab_at f k j d l)
  where
    by : Dec (j ≡ k) → (j < k → get_or (tab f k) j d ≡ f j) → get_or (tab f k ++ (f k ∷ [])) j d ≡ f j
    by (yes e) r = rw e (get_or_at (tab f k) (f k) [] d k (length_tab f k))
    by (no e) r =
        let l : j < length (tab f k) = rw length_tab (omega arith) in
        get_or-append (tab f k) (f k ∷ []) d j l ∙ r (omega arith)

-- under a map
pub map_at : {A B : Type 0} (f : A → B) (xs : List A) (k : ℕ) (a : A) (b : B) → k < length xs → get_or (map f xs) k b ≡ f (get_or xs k a)
map_at f [] k a b h = absurd (omega arith)
map_at f (x ∷ xs) zero a b h = refl
map_at f (x ∷ xs) (suc k) a b h = map_at f xs k a b (omega arith)

-- filled up with a, which is also what stands past the end
pub padded : {A : Type 0} (xs : List A) (a : A) (c k : ℕ) → get_or (xs ++ replicate c a) k a ≡ get_or xs k a
padded [] a c k = replicate_at a c k
padded (x ∷ xs) a c zero = refl
padded (x ∷ xs) a c (suc k) = padded xs a c k

pub past : {A : Type 0} (xs : List A) (a : A) (c k : ℕ) → length xs ≤ k → get_or (xs ++ replicate c a) k a ≡ a
past xs a c k h = padded xs a c k ∙ get_or-eq_default xs a h

-- a list by its places, the first of them first
pub tab_front : {A : Type 0} (f : ℕ → A) (n : ℕ) → tab f (suc n) ≡ f 0 ∷ tab (λ k. f (suc k)) n
unfolding tab
tab_front f zero = refl
tab_front {A} f (suc n) = ap (λ (t : List A). t ++ f (suc n) ∷ []) (tab_front f n)

-- n places hold the whole of a list that is no longer
pub held_whole : {A : Type 0} (z : A) (n : ℕ) (l : List A) → length l ≤ n → take (length l) (tab (λ k. get_or l k z) n) ≡ l
held_whole z n [] h = refl
held_whole z zero (x ∷ l) h = absurd (omega arith)
held_whole {A} z (suc n) (x ∷ l) h = ap (take (suc (length l))) (tab_front (λ k. get_or (x ∷ l) k z) n) ∙ ap (λ (t : List A). x ∷ t) (held_whole z n l (omega arith))

-- an entry below b takes the place of another
pub below_set : (b : ℕ) (l : List ℕ) (m v : ℕ) → m < length l → v < b → ((k : ℕ) → get_or l k 0 < b) → (k : ℕ) → get_or (set l m v) k 0 < b
below_set b l m v h hv f k = by (ℕ_discrete k m)
  where
    by : Dec (k ≡ m) → get_or (set l m v) k 0 < b
    by (yes e) = rw (e, get_or-set_same l m v 0 h) hv
    by (no e) = rw (get_or-set_other l m k v 0 e) (f k)

-- a list has as many elements under a map
pub length_mapped : (X Y : Type 0) (f : X → Y) (l : List X) (n : ℕ) → length (map f l) ≡ n → length l ≡ n
length_mapped X Y f l n e = sym (length-map l f) ∙ e

pub cons_same : {A : Type 0} {x y : A} {xs ys : List A} → x ≡ y → xs ≡ ys → x ∷ xs ≡ y ∷ ys
cons_same p q = rw (p, q)
