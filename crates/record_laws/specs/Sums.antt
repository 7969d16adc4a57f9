-- The check in closed form: s1 is 1 and the bytes, s2 the length and each byte as often as bytes stand from it on; both are remainders by 2^16.
-- Assumes nothing.
use Rattle.std.specs.Prelude.{◌≡◌, refl, List, [], ◌∷◌, ◌++◌, ℕ, zero, suc, ◌+◌, ◌*◌, ◌-◌, ◌/◌, ◌%◌, ◌<◌, length, get_or, set}
use Rattle.std.proofs.Common.{sym, ap, ◌∙◌, arith, length-set}
use Rattle.std.proofs.Math.Nat.{add-mul-mod_self_left}
use Rattle.rules.specs.Record.{Sums, gain, sums, check}

abbrev pub both : ℕ → ℕ → Sums
both s t = record { s1 = s; s2 = t }

pub sums_append : (s : Sums) (xs ys : List ℕ) → sums s (xs ++ ys) ≡ sums (sums s xs) ys
unfolding sums
sums_append s [] ys = refl
sums_append s (x ∷ xs) ys = sums_append (gain s x) xs ys

-- both are below 2^16
pub sums_below : (s : Sums) (xs : List ℕ) → s.s1 < 65536 → s.s2 < 65536 → ((sums s xs).s1 < 65536) × ((sums s xs).s2 < 65536)
unfolding sums
sums_below s [] h k = (h, k)
sums_below s (x ∷ xs) h k = sums_below (gain s x) xs (omega arith) (omega arith)

pub check_below : (xs : List ℕ) → ((check xs).s1 < 65536) × ((check xs).s2 < 65536)
unfolding check
check_below xs = sums_below (both 1 0) xs (omega arith) (omega arith)

-- ---- the closed form
unfoldable pub byte_total : List ℕ → ℕ
byte_total [] = 0
byte_total (b ∷ bs) = b + byte_total bs

-- each byte as often as bytes stand from it on
unfoldable pub weighted : List ℕ → ℕ
weighted [] = 0
weighted (b ∷ bs) = suc (length bs) * b + weighted bs

pub sums_first : (bs : List ℕ) (s t : ℕ) → s < 65536 → (sums (both s t) bs).s1 ≡ (s + byte_total bs) % 65536
unfolding sums byte_total
sums_first [] s t h = omega arith
sums_first (b ∷ bs) s t h = sums_first bs ((s + b) % 65536) _ (omega arith) ∙ omega arith

mod_in : (x y : ℕ) → (x % 65536 + y) % 65536 ≡ (x + y) % 65536
mod_in x y = omega arith

-- one byte more before n others: r is what s and b leave
onward : (n s b t w q r : ℕ) → s + b ≡ 65536 * q + r → ((t + r) % 65536 + n * r + w) % 65536 ≡ (t + suc n * s + (suc n * b + w)) % 65536
onward n s b t w q r h =
    let e : n * (s + b) ≡ n * (65536 * q + r) = ap (λ (x : ℕ). n * x) h in
    let i : (t + r) % 65536 + n * r + w ≡ (t + r) % 65536 + (n * r + w) = omega arith in
    let f : t + suc n * s + (suc n * b + w) ≡ t + r + (n * r + w) + 65536 * (n * q + q) = omega arith in
    rw (i, f) (mod_in (t + r) (n * r + w) ∙ sym (add-mul-mod_self_left (t + r + (n * r + w)) 65536 (n * q + q)))

pub sums_second : (bs : List ℕ) (s t : ℕ) → s < 65536 → t < 65536 → (sums (both s t) bs).s2 ≡ (t + length bs * s + weighted bs) % 65536
unfolding sums weighted
sums_second [] s t h k = omega arith
sums_second (b ∷ bs) s t h k =
    sums_second bs ((s + b) % 65536) ((t + (s + b) % 65536) % 65536) (omega arith) (omega arith)
    ∙ onward (length bs) s b t (weighted bs) ((s + b) / 65536) ((s + b) % 65536) (omega arith)

pub check_first : (bs : List ℕ) → (check bs).s1 ≡ (1 + byte_total bs) % 65536
unfolding check
check_first bs = sums_first bs 1 0 (omega arith)

pub check_second : (bs : List ℕ) → (check bs).s2 ≡ (length bs + weighted bs) % 65536
unfolding check
check_second bs = sums_second bs 1 0 (omega arith) (omega arith) ∙ omega arith

-- ---- one byte changed
pub total_set : (bs : List ℕ) (i x : ℕ) → i < length bs → byte_total (set bs i x) + get_or bs i 0 ≡ byte_total bs + x
unfolding byte_total
total_set [] i x h = absurd (omega arith)
total_set (b ∷ bs) zero x h = omega arith
total_set (b ∷ bs) (suc i) x h = omega (arith, total_set bs i x (omega arith))

pub weighted_set : (bs : List ℕ) (i x : ℕ) → i < length bs → weighted (set bs i x) + (length bs - i) * get_or bs i 0 ≡ weighted bs + (length bs - i) * x
unfolding weighted
weighted_set [] i x h = absurd (omega arith)
weighted_set (b ∷ bs) zero x h = let e : suc (length bs) - 0 ≡ suc (length bs) = omega arith in rw e (omega arith)
weighted_set (b ∷ bs) (suc i) x h =
    let e : suc (length bs) - suc i ≡ length bs - i = omega arith in
    rw (e, length-set bs i x) (omega (arith, weighted_set bs i x (omega arith)))

-- ---- three bytes can cancel out: the check does not see 0 2 0 become 1 0 1, wherever it stands
three_same : (s t : ℕ) → s < 65536 → t < 65536 → sums (both s t) (0 ∷ 2 ∷ 0 ∷ []) ≡ sums (both s t) (1 ∷ 0 ∷ 1 ∷ [])
unfolding byte_total weighted
three_same s t h k =
    let e = sums_first (0 ∷ 2 ∷ 0 ∷ []) s t h ∙ sym (sums_first (1 ∷ 0 ∷ 1 ∷ []) s t h) in
    let f = sums_second (0 ∷ 2 ∷ 0 ∷ []) s t h k ∙ sym (sums_second (1 ∷ 0 ∷ 1 ∷ []) s t h k) in
    λ i. record { s1 = e i; s2 = f i }

pub three_unseen : (pre post : List ℕ) → check (pre ++ (0 ∷ 2 ∷ 0 ∷ post)) ≡ check (pre ++ (1 ∷ 0 ∷ 1 ∷ post))
unfolding check sums
three_unseen pre post =
    let c = sums (both 1 0) pre in
    let l = sums_below (both 1 0) pre (omega arith) (omega arith) in
    sums_append (both 1 0) pre (0 ∷ 2 ∷ 0 ∷ post) ∙ ap (λ (t : Sums). sums t post) (three_same c.s1 c.s2 l.0 l.1)
    ∙ sym (sums_append (both 1 0) pre (1 ∷ 0 ∷ 1 ∷ post))
