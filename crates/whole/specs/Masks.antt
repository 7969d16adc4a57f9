-- Decisions as the bits of a 64-bit mask: each operation bit by bit, and the lowest bit taken off.
-- Assumes nothing.
use Rattle.std.specs.Prelude.{◌≡◌, refl, Bool, true, false, cond, not, ◌&&◌, ◌||◌, List, [], ◌∷◌, ◌++◌, ◌≢◌, ℕ, zero, suc, ◌+◌, ◌*◌, ◌-◌, ◌/◌, ◌%◌, ◌^◌, ◌<◌, ◌≤◌, min, max, ltb, eqb, length, take, set}
use Rattle.std.proofs.Common.{sym, ap, ap₂, ◌∙◌, append_assoc, arith, pow-suc, mod-eq_of_lt, one-mul, mul_comm, div-one, add-zero, zero-add, add-one, take-suc-set, lt-ltb, le-ltb, ltb-true, ne_eqb, eqb-true}
use Rattle.std.proofs.Math.Bool.{and-true as and_yes, and-false, or-false}
use Rattle.std.proofs.Math.Nat.{div-div-eq-div-mul, div-eq_of_lt, sub_self, pow-le-pow_right}
use Rattle.std.proofs.Math.Dec.{eqb-suc-suc}
use Rattle.std.specs.Int.Bits.{bit_and, bit_or, bit_xor, differ, and_step, or_step, xor_step, and_self}
use Rattle.std.proofs.lemmas.Nat.{and_shr, or_shr, xor_shr, and_le_r}
use Rattle.std.specs.Int.Count.{count_trailing_zeros, under}
use Rattle.std.proofs.Math.Pow.{pow-lt}
use Rattle.std.proofs.lemmas.Bool.{eqb-false}
use Rattle.whole.specs.Words.{odd, bit, from, upto, mem, those, all}
use Rattle.whole.specs.Members.{in_head, in_tail, mem_those, in_those, from_in, in_upto, upto_in, apart_those, apart_upto, in_cons, all_of_lem, all_in}
use Rattle.whole.specs.Pigeon.{Apart}
use Rattle.whole.specs.Counts.{shift}
use Rattle.whole.specs.Tests.{clash, cases, and-true, not_off, off_not, same_test}

-- the decisions of a mask, ascending
unfoldable pub these : ℕ → List ℕ
these m = those (λ j. bit m j) (upto 64)

-- ---- bit by bit
two : (P : ℕ → Type 0) (x : ℕ) → x < 2 → P 0 → P 1 → P x
two P zero h p q = p
two P (suc zero) h p q = q
two P (suc (suc x)) h p q = absurd (bad h)
  where
    bad : suc (suc x) < 2 → ⊥
    bad h = omega arith

digit : (a : ℕ) → a % 2 < 2
digit a = omega arith

and_digit : (x y : ℕ) → x < 2 → y < 2 → eqb (min x y) 1 ≡ (eqb x 1 && eqb y 1)
and_digit x y hx hy = two (λ x. eqb (min x y) 1 ≡ (eqb x 1 && eqb y 1)) x hx (two (λ y. eqb (min 0 y) 1 ≡ (eqb 0 1 && eqb y 1)) y hy refl refl) (two (λ y. eqb (min 1 y) 1 ≡ (eqb 1 1 && eqb y 1)) y hy refl refl)

or_digit : (x y : ℕ) → x < 2 → y < 2 → eqb (max x y) 1 ≡ (eqb x 1 || eqb y 1)
or_digit x y hx hy = two (λ x. eqb (max x y) 1 ≡ (eqb x 1 || eqb y 1)) x hx (two (λ y. eqb (max 0 y) 1 ≡ (eqb 0 1 || eqb y 1)) y hy refl refl) (two (λ y. eqb (max 1 y) 1 ≡ (eqb 1 1 || eqb y 1)) y hy refl refl)

-- one or the other and not both
abbrev pub unlike : Bool → Bool → Bool
unlike a b = cond a (not b) b

xor_digit : (x y : ℕ) → x < 2 → y < 2 → eqb (differ x y) 1 ≡ unlike (eqb x 1) (eqb y 1)
xor_digit x y hx hy = two (λ x. eqb (differ x y) 1 ≡ unlike (eqb x 1) (eqb y 1)) x hx (two (λ y. eqb (differ 0 y) 1 ≡ unlike (eqb 0 1) (eqb y 1)) y hy refl refl) (two (λ y. eqb (differ 1 y) 1 ≡ unlike (eqb 1 1) (eqb y 1)) y hy refl refl)

-- the last digit of a number that ends in d
last : (h d : ℕ) → d < 2 → (h * 2 + d) % 2 ≡ d
last h d l = omega arith

min_low : (x y : ℕ) → x < 2 → y < 2 → min x y < 2
min_low x y hx hy = omega arith

max_low : (x y : ℕ) → x < 2 → y < 2 → max x y < 2
max_low x y hx hy = omega arith

differ_low : (x y : ℕ) → x < 2 → y < 2 → differ x y < 2
differ_low x y hx hy = two (λ x. differ x y < 2) x hx (two (λ y. differ 0 y < 2) y hy (omega arith) (omega arith)) (two (λ y. differ 1 y < 2) y hy (omega arith) (omega arith))

pub bit_and_lem : (a b k : ℕ) → bit (bit_and a b) k ≡ (bit a k && bit b k)
bit_and_lem a b k =
    ap (λ (z : ℕ). eqb (z % 2) 1) (and_shr a b k ∙ and_step (a / 2 ^ k) (b / 2 ^ k))
    ∙ ap (λ (z : ℕ). eqb z 1) (last (bit_and (a / 2 ^ k / 2) (b / 2 ^ k / 2)) (min (a / 2 ^ k % 2) (b / 2 ^ k % 2)) (min_low (a / 2 ^ k % 2) (b / 2 ^ k % 2) (digit (a / 2 ^ k)) (digit (b / 2 ^ k))))
    ∙ and_digit (a / 2 ^ k % 2) (b / 2 ^ k % 2) (digit (a / 2 ^ k)) (digit (b / 2 ^ k))

pub bit_or_lem : (a b k : ℕ) → bit (bit_or a b) k ≡ (bit a k || bit b k)
bit_or_lem a b k =
    ap (λ (z : ℕ). eqb (z % 2) 1) (or_shr a b k ∙ or_step (a / 2 ^ k) (b / 2 ^ k))
    ∙ ap (λ (z : ℕ). eqb z 1) (last (bit_or (a / 2 ^ k / 2) (b / 2 ^ k / 2)) (max (a / 2 ^ k % 2) (b / 2 ^ k % 2)) (max_low (a / 2 ^ k % 2) (b / 2 ^ k % 2) (digit (a / 2 ^ k)) (digit (b / 2 ^ k))))
    ∙ or_digit (a / 2 ^ k % 2) (b / 2 ^ k % 2) (digit (a / 2 ^ k)) (digit (b / 2 ^ k))

pub bit_xor_lem : (a b k : ℕ) → bit (bit_xor a b) k ≡ unlike (bit a k) (bit b k)
bit_xor_lem a b k =
    ap (λ (z : ℕ). eqb (z % 2) 1) (xor_shr a b k ∙ xor_step (a / 2 ^ k) (b / 2 ^ k))
    ∙ ap (λ (z : ℕ). eqb z 1) (last (bit_xor (a / 2 ^ k / 2) (b / 2 ^ k / 2)) (differ (a / 2 ^ k % 2) (b / 2 ^ k % 2)) (differ_low (a / 2 ^ k % 2) (b / 2 ^ k % 2) (digit (a / 2 ^ k)) (digit (b / 2 ^ k))))
    ∙ xor_digit (a / 2 ^ k % 2) (b / 2 ^ k % 2) (digit (a / 2 ^ k)) (digit (b / 2 ^ k))

-- those of a that are not in s, as the code makes them: a ^ (a & s)
abbrev pub without : ℕ → ℕ → ℕ
without a s = bit_xor a (bit_and a s)

pub bit_less : (a s k : ℕ) → bit (without a s) k ≡ (bit a k && not (bit s k))
bit_less a s k = bit_xor_lem a (bit_and a s) k ∙ ap (unlike (bit a k)) (bit_and_lem a s k) ∙ tidy (bit a k) (bit s k)
  where
    tidy : (x y : Bool) → unlike x (x && y) ≡ (x && not y)
    tidy true y = refl
    tidy false y = refl

-- the bits of the half are the bits one place up
pub bit_half : (m k : ℕ) → bit m (suc k) ≡ bit (m / 2) k
bit_half m k = ap (λ (z : ℕ). eqb (z % 2) 1) (ap (λ (p : ℕ). m / p) (pow-suc 2 k ∙ mul_comm (2 ^ k) 2) ∙ sym (div-div-eq-div-mul m 2 (2 ^ k)))

pub bit_first : (m : ℕ) → bit m 0 ≡ odd m
bit_first m = ap (λ (z : ℕ). eqb (z % 2) 1) (div-one m)

pub bit_none : (k : ℕ) → bit 0 k ≡ false
bit_none zero = refl
bit_none (suc k) = bit_half 0 k ∙ bit_none k

-- the mask of one decision
pub bit_single : (c k : ℕ) → bit (2 ^ c) k ≡ eqb k c
bit_single zero zero = refl
bit_single zero (suc k) = bit_half 1 k ∙ bit_none k ∙ sym (ne_eqb (suc k) 0 (λ e. omega arith))
bit_single (suc c) zero = bit_first (2 ^ suc c) ∙ ap odd (pow-suc 2 c) ∙ ap (λ (z : ℕ). eqb z 1) even ∙ sym (ne_eqb 0 (suc c) (λ e. omega arith))
  where
    even : 2 ^ c * 2 % 2 ≡ 0
    even = omega arith
bit_single (suc c) (suc k) = bit_half (2 ^ suc c) k ∙ ap (λ (z : ℕ). bit z k) (ap (λ (z : ℕ). z / 2) (pow-suc 2 c) ∙ halved) ∙ bit_single c k ∙ sym (eqb-suc-suc k c)
  where
    halved : 2 ^ c * 2 / 2 ≡ 2 ^ c
    halved = omega arith

-- the same as the code makes it, 1 << c
pub single_is : (c : ℕ) → c < 64 → 1 * 2 ^ c % 2 ^ 64 ≡ 2 ^ c
single_is c l = ap (λ (z : ℕ). z % 2 ^ 64) (one-mul (2 ^ c)) ∙ mod-eq_of_lt (pow-lt l)

pub bit_shifted : (c k : ℕ) → c < 64 → bit (1 * 2 ^ c % 2 ^ 64) k ≡ eqb k c
bit_shifted c k l = ap (λ (z : ℕ). bit z k) (single_is c l) ∙ bit_single c k

-- ---- the decisions of a mask
pub those_ext : (p q : ℕ → Bool) (xs : List ℕ) → ((k : ℕ) → mem k xs ≡ true → p k ≡ q k) → those p xs ≡ those q xs
unfolding those
those_ext p q [] h = refl
those_ext p q (x ∷ xs) h =
    ap₂ (λ (b : Bool) (ys : List ℕ). cond b (x ∷ ys) (those p xs)) (h x (in_head x xs)) (those_ext p q xs (λ k m. h k (in_tail k x xs m)))
    ∙ ap (λ (ys : List ℕ). cond (q x) (x ∷ those q xs) ys) (those_ext p q xs (λ k m. h k (in_tail k x xs m)))

pub those_those : (p q : ℕ → Bool) (xs : List ℕ) → those p (those q xs) ≡ those (λ k. q k && p k) xs
unfolding those
those_those p q [] = refl
those_those p q (x ∷ xs) = go (q x) (those_those p q xs)
  where
    go : (b : Bool) → those p (those q xs) ≡ those (λ k. q k && p k) xs
        → those p (cond b (x ∷ those q xs) (those q xs)) ≡ cond (b && p x) (x ∷ those (λ k. q k && p k) xs) (those (λ k. q k && p k) xs)
    go true r = ap (λ (ys : List ℕ). cond (p x) (x ∷ ys) ys) r
    go false r = r

pub mem_these : (m k : ℕ) → k < 64 → mem k (these m) ≡ bit m k
unfolding these
mem_these m k l = mem_those (λ j. bit m j) k (upto 64) ∙ ap (λ (b : Bool). b && bit m k) (in_upto k 64 l)

pub these_below : (m k : ℕ) → mem k (these m) ≡ true → k < 64
unfolding these
these_below m k h = upto_in k 64 (in_those (λ j. bit m j) k (upto 64) h).0

pub these_apart : (m : ℕ) → Apart 64 (these m)
unfolding these
these_apart m = apart_those (λ j. bit m j) (apart_upto 64)

-- what a has and s has not
pub these_less : (a s : ℕ) → these (without a s) ≡ those (λ k. not (bit s k)) (these a)
unfolding these
these_less a s = those_ext (λ k. bit (without a s) k) (λ k. bit a k && not (bit s k)) (upto 64) (λ k m. bit_less a s k) ∙ sym (those_those (λ k. not (bit s k)) (λ k. bit a k) (upto 64))

-- the same, digit by digit from p up
unfoldable places : ℕ → ℕ → ℕ → List ℕ
places p zero m = []
places p (suc f) m = cond (odd m) (p ∷ places (suc p) f (m / 2)) (places (suc p) f (m / 2))

places_those : (p f m : ℕ) → places p f m ≡ those (λ j. bit m (j - p)) (from p f)
unfolding places those from
places_those p zero m = refl
places_those p (suc f) m =
    ap₂ (λ (b : Bool) (ys : List ℕ). cond b (p ∷ ys) ys) first
    (places_those (suc p) f (m / 2) ∙ those_ext (λ j. bit (m / 2) (j - suc p)) (λ j. bit m (j - p)) (from (suc p) f)
    (λ j h. let l : suc p ≤ j = (from_in j (suc p) f h).0 in sym (ap (bit m) (up j l) ∙ bit_half m (j - suc p))))
  where
    first : odd m ≡ bit m (p - p)
    first = sym (ap (bit m) (sub_self p) ∙ bit_first m)

    up : (j : ℕ) → suc p ≤ j → j - p ≡ suc (j - suc p)
    up j l = omega arith

these_places : (m : ℕ) → these m ≡ places 0 64 m
unfolding these
these_places m = those_ext (λ j. bit m j) (λ j. bit m (j - 0)) (upto 64) (λ k h. ap (bit m) (whole k)) ∙ sym (places_those 0 64 m)
  where
    whole : (k : ℕ) → k ≡ k - 0
    whole k = omega arith

places_none : (p f : ℕ) → places p f 0 ≡ []
unfolding places
places_none p zero = refl
places_none p (suc f) = places_none (suc p) f

pub these_none : these 0 ≡ []
these_none = these_places 0 ∙ places_none 0 64

pub these_end : (m : ℕ) → m ≡ 0 → these m ≡ []
these_end m e = ap these e ∙ these_none

-- m & (m − 1) is m without its lowest bit
places_step : (p f m : ℕ) → 0 < m → m < 2 ^ f → places p f m ≡ (p + count_trailing_zeros f m) ∷ places p f (bit_and m (m - 1))
unfolding places count_trailing_zeros
places_step p zero m l h = absurd (bad l h)
  where
    bad : 0 < m → m < 1 → ⊥
    bad l h = omega arith
places_step p (suc f) m l h = go (m % 2) refl (λ a b. places_step (suc p) f (m / 2) a b)
  where
    low : m / 2 < 2 ^ f
    low = omega (arith, rw pow-suc at h)

    odd_less : m % 2 ≡ 1 → bit_and m (m - 1) ≡ m / 2 * 2
    odd_less e =
        let half : (m - 1) / 2 ≡ m / 2 = omega arith in
        let unit : (m - 1) % 2 ≡ 0 = omega arith in
        and_step m (m - 1) ∙ rw (half, unit, e, and_self) (omega arith)

    even_less : m % 2 ≡ 0 → bit_and m (m - 1) ≡ bit_and (m / 2) (m / 2 - 1) * 2
    even_less e =
        let half : (m - 1) / 2 ≡ m / 2 - 1 = omega arith in
        let unit : (m - 1) % 2 ≡ 1 = omega arith in
        and_step m (m - 1) ∙ rw (half, unit, e) (omega arith)

    double : (x : ℕ) → places p (suc f) (x * 2) ≡ places (suc p) f x
    double x =
        let u : x * 2 % 2 ≡ 0 = omega arith in
        let v : x * 2 / 2 ≡ x = omega arith in
        rw (u, v)

    go : (d : ℕ) → m % 2 ≡ d → (0 < m / 2 → m / 2 < 2 ^ f → places (suc p) f (m / 2) ≡ (suc p + count_trailing_zeros f (m / 2)) ∷ places (suc p) f (bit_and (m / 2) (m / 2 - 1)))
        → cond (eqb d 1) (p ∷ places (suc p) f (m / 2)) (places (suc p) f (m / 2)) ≡ (p + under d (count_trailing_zeros f (m / 2))) ∷ places p (suc f) (bit_and m (m - 1))
    go zero e r = r (omega arith) low ∙ ap₂ (λ (x : ℕ) (ys : List ℕ). x ∷ ys) (shift p (count_trailing_zeros f (m / 2))) (sym (ap (places p (suc f)) (even_less e) ∙ double (bit_and (m / 2) (m / 2 - 1))))
    go (suc zero) e r = ap₂ (λ (x : ℕ) (ys : List ℕ). x ∷ ys) (sym (add-zero p)) (sym (ap (places p (suc f)) (odd_less e) ∙ double (m / 2)))
    go (suc (suc d)) e r = absurd (bad e)
      where
        bad : m % 2 ≡ suc (suc d) → ⊥
        bad e = omega arith

pub these_step : (m : ℕ) → 0 < m → m < 2 ^ 64 → these m ≡ count_trailing_zeros 64 m ∷ these (bit_and m (m - 1))
these_step m l h = these_places m ∙ places_step 0 64 m l h ∙ ap₂ (λ (x : ℕ) (ys : List ℕ). x ∷ ys) (zero-add (count_trailing_zeros 64 m)) (sym (these_places (bit_and m (m - 1))))

-- ---- one turn of a loop over a mask's decisions
module _ (m : ℕ) (l : m ≢ 0) (h : m < 2 ^ 64) where
  above : 0 < m
  above = omega arith

  pub rest_less : bit_and m (m - 1) < m
  rest_less = omega (arith, and_le_r m (m - 1))

  pub first_in : mem (count_trailing_zeros 64 m) (these m) ≡ true
  first_in = ap (mem (count_trailing_zeros 64 m)) (these_step m above h) ∙ in_head (count_trailing_zeros 64 m) (these (bit_and m (m - 1)))

  -- the lowest alone is taken off
  pub lowest_off : (k : ℕ) → k < 64 → bit m k ≡ true → bit (bit_and m (m - 1)) k ≡ false → k ≡ count_trailing_zeros 64 m
  lowest_off k b t z = in_cons k (count_trailing_zeros 64 m) (these (bit_and m (m - 1))) (ap (mem k) (sym (these_step m above h)) ∙ mem_these m k b ∙ t)
      (λ q. q) (λ q. clash (sym (mem_these (bit_and m (m - 1)) k b) ∙ q) z)

  pub these_length : length (these m) ≡ suc (length (these (bit_and m (m - 1))))
  these_length = ap length (these_step m above h)

  -- they are written down
  pub write_turn : (order : List ℕ) (at : ℕ) → at < length order
      → take (at + 1) (set order at (count_trailing_zeros 64 m)) ++ these (bit_and m (m - 1)) ≡ take at order ++ these m
  write_turn order at b =
      rw (add-one, take-suc-set order at (count_trailing_zeros 64 m) b)
      (append_assoc (take at order) (count_trailing_zeros 64 m ∷ []) (these (bit_and m (m - 1))) ∙ ap (λ (xs : List ℕ). take at order ++ xs) (sym (these_step m above h)))

-- its lowest decision, and the others
pub record Turn (m : ℕ) : Type 0 where
  pub parts : these m ≡ count_trailing_zeros 64 m ∷ these (bit_and m (m - 1))
  pub below : count_trailing_zeros 64 m < 64
  pub less : bit_and m (m - 1) < m
  pub smaller : bit_and m (m - 1) < 2 ^ 64

pub turn : (m : ℕ) → m ≢ 0 → m < 2 ^ 64 → Turn m
turn m d h = record {
  parts = these_step m (omega arith) h;
  below = these_below m (count_trailing_zeros 64 m) (first_in m d h);
  less = rest_less m d h;
  smaller = omega (arith, rest_less m d h);
}

-- ---- a mask of those that pass says whether some does
module _ (p : ℕ → Bool) where
  -- one decision more
  pub bit_turn : (c m k : ℕ) → bit m k ≡ (ltb k c && p k) → bit (bit_or m (cond (p c) (2 ^ c) 0)) k ≡ (ltb k (c + 1) && p k)
  bit_turn c m k h = bit_or_lem m (cond (p c) (2 ^ c) 0) k ∙ ap₂ (λ (x y : Bool). x || y) h (shown (p c)) ∙ cases (eqb k c) here there
    where
      shown : (b : Bool) → bit (cond b (2 ^ c) 0) k ≡ (b && eqb k c)
      shown true = bit_single c k
      shown false = bit_none k

      here : eqb k c ≡ true → ((ltb k c && p k) || (p c && eqb k c)) ≡ (ltb k (c + 1) && p k)
      here t =
          let e : k ≡ c = eqb-true k c t in
          rw (t, le-ltb k c (omega arith), lt-ltb k (c + 1) (omega arith), e) (and_yes (p c))

      there : eqb k c ≡ false → ((ltb k c && p k) || (p c && eqb k c)) ≡ (ltb k (c + 1) && p k)
      there t = rw (t, and-false (p c), or-false (ltb k c && p k)) (ap (λ (b : Bool). b && p k) (same_test (ltb k c) (ltb k (c + 1))
          (λ b. lt-ltb k (c + 1) (omega (arith, ltb-true k c b))) (λ b. lt-ltb k c (omega (arith, ltb-true k (c + 1) b, eqb-false k c t)))))

  pub none_passes : (n m : ℕ) → m < 2 ^ 64 → ((k : ℕ) → bit m k ≡ (ltb k n && p k)) → eqb m 0 ≡ all (λ k. not (p k)) (upto n)
  none_passes n m l h = same_test (eqb m 0) (all (λ k. not (p k)) (upto n))
      (λ z. all_of_lem (λ k. not (p k)) (upto n) (λ k i. not_off (sym (ap (λ (b : Bool). b && p k) (lt-ltb k n (upto_in k n i))) ∙ sym (h k) ∙ ap (λ (x : ℕ). bit x k) (eqb-true m 0 z) ∙ bit_none k)))
      (λ a. cases (eqb m 0) (λ z. z) (λ z.
      let d = eqb-false m 0 z in
      let k = count_trailing_zeros 64 m in
      let y = and-true (ltb k n) (p k) (sym (h k) ∙ sym (mem_these m k (these_below m k (first_in m d l))) ∙ first_in m d l) in
      clash y.1 (off_not (p k) (all_in (λ k. not (p k)) (upto n) a k (in_upto k n (ltb-true k n y.0))))))

-- a mask has none from 64 on
pub bit_high : (m k : ℕ) → m < 2 ^ 64 → 64 ≤ k → bit m k ≡ false
bit_high m k l h =
    let p : 2 ^ 64 ≤ 2 ^ k = pow-le-pow_right (omega arith) h in
    let q : m < 2 ^ k = omega arith in
    ap (λ (x : ℕ). eqb (x % 2) 1) (div-eq_of_lt q)
