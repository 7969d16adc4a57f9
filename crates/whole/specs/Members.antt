-- Lists of decisions: membership, those that pass a test, and different decisions.
-- Assumes nothing.
use Rattle.std.specs.Prelude.{◌≡◌, refl, Bool, true, false, cond, ◌&&◌, ◌||◌, List, [], ◌∷◌, ◌++◌, ◌≢◌, ℕ, zero, suc, ◌+◌, ◌<◌, ◌≤◌, eqb, length, get_or}
use Rattle.std.proofs.Common.{sym, ap, ◌∙◌, subst, arith, not-suc-le-zero, eqb-true, eq-eqb, ne_eqb}
use Rattle.std.proofs.Math.Decide.{dec_lt}
use Rattle.std.proofs.Math.ListN.{get_or-eq_default}
use Rattle.std.proofs.lemmas.Bool.{eqb-false}
use Rattle.whole.specs.Words.{from, upto, mem, those, some, all}
use Rattle.whole.specs.Tests.{cases, clash, or_true, or-false, or_left, or_right, or_none, and-true, and_both, refuse}
use Rattle.whole.specs.Different.{Apart, none, one}

-- ---- membership
pub mem_append : (k : ℕ) (xs ys : List ℕ) → mem k (xs ++ ys) ≡ (mem k xs || mem k ys)
unfolding mem
mem_append k [] ys = refl
mem_append k (x ∷ xs) ys = go (eqb k x) (mem_append k xs ys)
  where
    go : (b : Bool) → mem k (xs ++ ys) ≡ (mem k xs || mem k ys) → (b || mem k (xs ++ ys)) ≡ (b || mem k xs || mem k ys)
    go true r = refl
    go false r = r

-- nobody is in an empty list
pub nobody : (k : ℕ) {P : Type 0} → mem k [] ≡ true → P
unfolding mem
nobody k h = clash h refl

pub in_append : (k : ℕ) (xs ys : List ℕ) {P : Type 0} → mem k (xs ++ ys) ≡ true → (mem k xs ≡ true → P) → (mem k ys ≡ true → P) → P
in_append k xs ys h = or_true (mem k xs) (mem k ys) (sym (mem_append k xs ys) ∙ h)

pub in_left : (k : ℕ) (xs ys : List ℕ) → mem k xs ≡ true → mem k (xs ++ ys) ≡ true
in_left k xs ys h = mem_append k xs ys ∙ or_left (mem k ys) h

pub in_right : (k : ℕ) (xs ys : List ℕ) → mem k ys ≡ true → mem k (xs ++ ys) ≡ true
in_right k xs ys h = mem_append k xs ys ∙ or_right (mem k xs) h

pub out_append : (k : ℕ) (xs ys : List ℕ) → mem k (xs ++ ys) ≡ false → (mem k xs ≡ false) × (mem k ys ≡ false)
out_append k xs ys h = or-false (mem k xs) (mem k ys) (sym (mem_append k xs ys) ∙ h)

pub out_both : (k : ℕ) (xs ys : List ℕ) → mem k xs ≡ false → mem k ys ≡ false → mem k (xs ++ ys) ≡ false
out_both k xs ys p q = mem_append k xs ys ∙ or_none p q

pub in_cons : (k x : ℕ) (xs : List ℕ) {P : Type 0} → mem k (x ∷ xs) ≡ true → (k ≡ x → P) → (mem k xs ≡ true → P) → P
unfolding mem
in_cons k x xs h p q = or_true (eqb k x) (mem k xs) h (λ e. p (eqb-true k x e)) q

-- one decision alone
pub in_single : (k x : ℕ) → mem k (x ∷ []) ≡ true → k ≡ x
in_single k x h = in_cons k x [] h (λ e. e) (λ m. nobody k m)

pub in_head : (k : ℕ) (xs : List ℕ) → mem k (k ∷ xs) ≡ true
unfolding mem
in_head k xs = or_left (mem k xs) (eq-eqb k k refl)

pub in_tail : (k x : ℕ) (xs : List ℕ) → mem k xs ≡ true → mem k (x ∷ xs) ≡ true
unfolding mem
in_tail k x xs h = or_right (eqb k x) h

pub out_cons : (k x : ℕ) (xs : List ℕ) → mem k (x ∷ xs) ≡ false → (k ≢ x) × (mem k xs ≡ false)
unfolding mem
out_cons k x xs h = let p = or-false (eqb k x) (mem k xs) h in (eqb-false k x p.0, p.1)

pub out_of_cons : (k x : ℕ) (xs : List ℕ) → k ≢ x → mem k xs ≡ false → mem k (x ∷ xs) ≡ false
unfolding mem
out_of_cons k x xs d h = or_none (ne_eqb k x d) h

-- two that one list tells apart
pub differ : {i j : ℕ} (xs : List ℕ) → mem i xs ≡ true → mem j xs ≡ false → i ≢ j
differ xs p q e = clash p (ap (λ (k : ℕ). mem k xs) e ∙ q)

-- those that pass
pub mem_those : (p : ℕ → Bool) (k : ℕ) (xs : List ℕ) → mem k (those p xs) ≡ (mem k xs && p k)
unfolding mem those
mem_those p k [] = refl
mem_those p k (x ∷ xs) = go (p x) refl (eqb k x) refl (mem_those p k xs)
  where
    go : (b : Bool) → p x ≡ b → (e : Bool) → eqb k x ≡ e → mem k (those p xs) ≡ (mem k xs && p k)
        → mem k (cond b (x ∷ those p xs) (those p xs)) ≡ ((e || mem k xs) && p k)
    go true h true e r = or_left (mem k (those p xs)) e ∙ sym h ∙ ap p (sym (eqb-true k x e))
    go true h false e r = ap (λ (c : Bool). c || mem k (those p xs)) e ∙ r
    go false h true e r =
        let no : p k ≡ false = ap p (eqb-true k x e) ∙ h in
        r ∙ ap (λ (c : Bool). mem k xs && c) no ∙ off (mem k xs) ∙ sym no
      where
        off : (c : Bool) → (c && false) ≡ false
        off true = refl
        off false = refl
    go false h false e r = r

pub in_those : (p : ℕ → Bool) (k : ℕ) (xs : List ℕ) → mem k (those p xs) ≡ true → (mem k xs ≡ true) × (p k ≡ true)
in_those p k xs h = and-true (mem k xs) (p k) (sym (mem_those p k xs) ∙ h)

pub to_those : (p : ℕ → Bool) (k : ℕ) (xs : List ℕ) → mem k xs ≡ true → p k ≡ true → mem k (those p xs) ≡ true
to_those p k xs h q = mem_those p k xs ∙ and_both h q

-- 0, 1, ..
pub in_from : (j k c : ℕ) → k ≤ j → j < k + c → mem j (from k c) ≡ true
unfolding from mem
in_from j k zero h l = absurd (bad h l)
  where
    bad : k ≤ j → j < k + 0 → ⊥
    bad p q = omega arith
in_from j k (suc c) h l = cases (eqb j k)
    (λ e. or_left (mem j (from (suc k) c)) e)
    (λ e. or_right (eqb j k) (let d : j ≢ k = eqb-false j k e in in_from j (suc k) c (omega arith) (omega arith)))

pub from_in : (j k c : ℕ) → mem j (from k c) ≡ true → (k ≤ j) × (j < k + c)
unfolding from mem
from_in j k zero h = clash h refl
from_in j k (suc c) h = or_true (eqb j k) (mem j (from (suc k) c)) h
    (λ e. let d : j ≡ k = eqb-true j k e in (omega arith, omega arith))
    (λ e. let r = from_in j (suc k) c e in (omega arith, omega arith))

pub in_upto : (j n : ℕ) → j < n → mem j (upto n) ≡ true
in_upto j n l = in_from j 0 n (omega arith) (omega arith)

pub upto_in : (j n : ℕ) → mem j (upto n) ≡ true → j < n
upto_in j n h = let r = from_in j 0 n h in omega arith

pub some_true : (p : ℕ → Bool) (k : ℕ) (xs : List ℕ) → mem k xs ≡ true → p k ≡ true → some p xs ≡ true
unfolding some mem
some_true p k [] h q = clash h refl
some_true p k (x ∷ xs) h q = in_cons k x xs h
    (λ e. or_left (some p xs) (ap p (sym e) ∙ q))
    (λ r. or_right (p x) (some_true p k xs r q))

pub some_false : (p : ℕ → Bool) (k : ℕ) (xs : List ℕ) → some p xs ≡ false → mem k xs ≡ true → p k ≡ false
some_false p k xs h m = refuse (p k) (λ q. clash (some_true p k xs m q) h)

-- none passes
pub some_none : (p : ℕ → Bool) (xs : List ℕ) → ((k : ℕ) → mem k xs ≡ true → p k ≡ false) → some p xs ≡ false
unfolding some
some_none p [] h = refl
some_none p (x ∷ xs) h = or_none (h x (in_head x xs)) (some_none p xs (λ k m. h k (in_tail k x xs m)))

-- all pass
pub all_of_lem : (p : ℕ → Bool) (xs : List ℕ) → ((k : ℕ) → mem k xs ≡ true → p k ≡ true) → all p xs ≡ true
unfolding all
all_of_lem p [] h = refl
all_of_lem p (x ∷ xs) h = and_both (h x (in_head x xs)) (all_of_lem p xs (λ k m. h k (in_tail k x xs m)))

pub all_in : (p : ℕ → Bool) (xs : List ℕ) → all p xs ≡ true → (k : ℕ) → mem k xs ≡ true → p k ≡ true
unfolding all
all_in p [] h k m = nobody k m
all_in p (x ∷ xs) h k m = let r = and-true (p x) (all p xs) h in in_cons k x xs m (λ e. ap p e ∙ r.0) (λ t. all_in p xs r.1 k t)

-- ---- different decisions below n
pub apart_head : {n x : ℕ} {xs : List ℕ} → Apart n (x ∷ xs) → x < n
apart_head (one l m a) = l

pub apart_new : {n x : ℕ} {xs : List ℕ} → Apart n (x ∷ xs) → mem x xs ≡ false
apart_new (one l m a) = m

pub apart_tail : {n x : ℕ} {xs : List ℕ} → Apart n (x ∷ xs) → Apart n xs
apart_tail (one l m a) = a

pub apart_below : {n : ℕ} (k : ℕ) {xs : List ℕ} → Apart n xs → mem k xs ≡ true → k < n
unfolding mem
apart_below {n} k none h = clash h refl
apart_below {n} k (one {x = x} {xs = xs} l m a) h = in_cons k x xs h (λ e. subst (λ (j : ℕ). j < n) (sym e) l) (λ r. apart_below k a r)

pub in_at : (xs : List ℕ) (k : ℕ) → k < length xs → mem (get_or xs k 0) xs ≡ true
in_at [] k l = absurd (not-suc-le-zero l)
in_at (x ∷ xs) zero l = in_head x xs
in_at (x ∷ xs) (suc k) l = in_tail (get_or xs k 0) x xs (in_at xs k (omega arith))

pub apart_at : (n : ℕ) (xs : List ℕ) (k : ℕ) → Apart n xs → k < length xs → get_or xs k 0 < n
apart_at n xs k a l = apart_below (get_or xs k 0) a (in_at xs k l)

-- a decision of a list, or 0 past its end
pub low_at : (n : ℕ) (xs : List ℕ) (k : ℕ) → Apart n xs → n ≤ 64 → get_or xs k 0 < 64
low_at n xs k a h = go (dec_lt k (length xs))
  where
    past : (k < length xs → ⊥) → length xs ≤ k
    past l = omega arith

    go : Dec (k < length xs) → get_or xs k 0 < 64
    go (yes l) = omega (arith, apart_at n xs k a l)
    go (no l) = omega (arith, get_or-eq_default xs 0 (past l))

pub apart_join : {n : ℕ} {xs : List ℕ} {ys : List ℕ} → Apart n xs → Apart n ys → ((k : ℕ) → mem k xs ≡ true → mem k ys ≡ false) → Apart n (xs ++ ys)
apart_join none b h = b
apart_join {ys = ys} (one {x = x} {xs = xs} l m a) b h = one l (out_both x xs ys m (h x (in_head x xs))) (apart_join a b (λ k r. h k (in_tail k x xs r)))

-- one more, at the end
pub apart_more : {n : ℕ} (d : ℕ) {xs : List ℕ} → Apart n xs → d < n → mem d xs ≡ false → Apart n (xs ++ d ∷ [])
unfolding mem
apart_more d {xs} a l h = apart_join a (one l refl none) (λ k m. out_of_cons k d [] (differ xs m h) refl)

-- below m, so below any larger number
pub apart_wider : {m n : ℕ} {xs : List ℕ} → m ≤ n → Apart m xs → Apart n xs
apart_wider h none = none
apart_wider h (one {x = x} l d a) = one {x = x} (omega arith) d (apart_wider h a)

pub apart_left : {n : ℕ} (xs ys : List ℕ) → Apart n (xs ++ ys) → Apart n xs
apart_left [] ys a = none
apart_left (x ∷ xs) ys a = one (apart_head a) (out_append x xs ys (apart_new a)).0 (apart_left xs ys (apart_tail a))

pub apart_right : {n : ℕ} (xs ys : List ℕ) → Apart n (xs ++ ys) → Apart n ys
apart_right [] ys a = a
apart_right (x ∷ xs) ys a = apart_right xs ys (apart_tail a)

pub apart_those : {n : ℕ} (p : ℕ → Bool) {xs : List ℕ} → Apart n xs → Apart n (those p xs)
unfolding those
apart_those p none = none
apart_those {n} p (one {x = x} {xs = xs} l m a) = go (p x) (apart_those p a)
  where
    go : (b : Bool) → Apart n (those p xs) → Apart n (cond b (x ∷ those p xs) (those p xs))
    go true r = one l (refuse (mem x (those p xs)) (λ t. clash (in_those p x xs t).0 m)) r
    go false r = r

apart_from : (n k c : ℕ) → k + c ≤ n → Apart n (from k c)
unfolding from
apart_from n k zero h = none
apart_from n k (suc c) h = one {x = k} (omega arith) (refuse (mem k (from (suc k) c)) (λ t. let r = from_in k (suc k) c t in omega arith)) (apart_from n (suc k) c (omega arith))

pub apart_upto : (n : ℕ) → Apart n (upto n)
apart_upto n = apart_from n 0 n (omega arith)

-- different decisions that are all in ys are no more than ys
without : ℕ → List ℕ → List ℕ
without k [] = []
without k (y ∷ ys) = cond (eqb k y) ys (y ∷ without k ys)

without_length : (k : ℕ) (ys : List ℕ) → mem k ys ≡ true → length ys ≡ suc (length (without k ys))
unfolding mem without
without_length k [] h = clash h refl
without_length k (y ∷ ys) h = go (eqb k y) refl (λ r. without_length k ys r)
  where
    go : (b : Bool) → eqb k y ≡ b → (mem k ys ≡ true → length ys ≡ suc (length (without k ys))) → suc (length ys) ≡ suc (length (cond b ys (y ∷ without k ys)))
    go true e r = refl
    go false e r = ap suc (r (ap (λ (c : Bool). c || mem k ys) (sym e) ∙ h))

without_mem : (k j : ℕ) (ys : List ℕ) → j ≢ k → mem j ys ≡ true → mem j (without k ys) ≡ true
unfolding mem without
without_mem k j [] d h = clash h refl
without_mem k j (y ∷ ys) d h = go (eqb k y) refl (λ r. without_mem k j ys d r)
  where
    go : (b : Bool) → eqb k y ≡ b → (mem j ys ≡ true → mem j (without k ys) ≡ true) → mem j (cond b ys (y ∷ without k ys)) ≡ true
    go true e f = in_cons j y ys h (λ t. absurd (d (t ∙ sym (eqb-true k y e)))) (λ r. r)
    go false e f = in_cons j y ys h (λ t. or_left (mem j (without k ys)) (eq-eqb j y t)) (λ r. or_right (eqb j y) (f r))

pub few : {n : ℕ} {xs : List ℕ} (ys : List ℕ) → Apart n xs → ((k : ℕ) → mem k xs ≡ true → mem k ys ≡ true) → length xs ≤ length ys
few ys none h = omega arith
few ys (one {x = x} {xs = xs} l m a) h =
    let r : length xs ≤ length (without x ys) = few (without x ys) a (λ k t. without_mem x k ys (differ xs t m) (h k (in_tail k x xs t))) in
    omega (arith, without_length x ys (h x (in_head x xs)))
