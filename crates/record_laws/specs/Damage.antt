-- 01, "Changing one or two bytes of a valid block always breaks its check."
-- Assumes nothing.
use Rattle.std.specs.Prelude.{◌≡◌, refl, Bool, true, false, not, List, ℕ, ◌+◌, ◌*◌, ◌-◌, ◌%◌, ◌<◌, ◌≤◌, eqb, length, get_or, set, take, drop}
use Rattle.std.proofs.Common.{sym, ap, subst, ◌∙◌, arith, mul-le-mul, mul-pos, mul-add, add-sub_of_le, length-set, length-take-le, set-set, get_or-set_other, drop-set-lt, eqb-true}
use Rattle.std.proofs.Math.Decide.{ℕ_discrete, dec_le}
use Rattle.std.proofs.Math.Nat.{mul-mod_left}
use Rattle.std.proofs.lemmas.List.{set-get_or, set_comm, take-set-le, drop-set-add}
use Rattle.std.proofs.Math.Seq.{take-set-lt}
use Rattle.std.proofs.lemmas.Bool.{eqb-false, not-true}
use Rattle.whole.specs.Words.{from, all}
use Rattle.whole.specs.Tests.{and-true}
use Rattle.whole.specs.Members.{all_in, in_from}
use Rattle.rules.specs.Record.{from_little, check, check_right, sealed}
use Rattle.record_laws.specs.Bytes.{Bytes, bytes_front, bytes_set}
use Rattle.record_laws.specs.RoundTrip.{right_sealed}
use Rattle.record_laws.specs.Sums.{byte_total, weighted, check_first, check_second, total_set, weighted_set}

-- ---- a byte's change, k places before the end, is no multiple of 2^16
all_at : (p : ℕ → Bool) (c a i : ℕ) → all p (from a c) ≡ true → a ≤ i → i < a + c → p i ≡ true
all_at p c a i e h k = all_in p (from a c) e i (in_from i a c h k)

-- none of 130 to 255 divides 2^16: computed
undivided : all (λ d. not (eqb (65536 % d) 0)) (from 130 126) ≡ true
unfolding all from
undivided = refl

pub no_multiple : (k d : ℕ) → 0 < k → k ≤ 508 → 0 < d → d ≤ 255 → k * d % 65536 ≡ 0 → ⊥
no_multiple k d hk lk hd ld e =
    let p : 0 < k * d = mul-pos hk hd in
    let u : k * d ≤ 508 * 255 = mul-le-mul lk ld in
    let t : k * d ≡ 65536 = omega arith in
    by t (dec_le d 129)
  where
    by : k * d ≡ 65536 → Dec (d ≤ 129) → ⊥
    by t (yes l) = let u : k * d ≤ 508 * 129 = mul-le-mul lk l in omega arith
    by t (no l) =
        eqb-false (65536 % d) 0 (not-true _ (all_at (λ d. not (eqb (65536 % d) 0)) 126 130 d undivided (omega arith) (omega arith)))
        (ap (λ (n : ℕ). n % d) (sym t) ∙ mul-mod_left k d)

-- a byte that weighs k, changed from p to q, changes a sum that wraps
seen : (k p q w v c : ℕ) → 0 < k → k ≤ 508 → p < 256 → q < 256 → v + k * p ≡ w + k * q → (c + v) % 65536 ≡ (c + w) % 65536 → q ≡ p
seen k p q w v c hk lk hp hq e f = by (ℕ_discrete q p) (dec_le p q)
  where
    by : Dec (q ≡ p) → Dec (p ≤ q) → q ≡ p
    by (yes s) l = s
    by (no s) (yes l) =
        let d : k * q ≡ k * p + k * (q - p) = ap (λ (x : ℕ). k * x) (sym (add-sub_of_le l)) ∙ mul-add k p (q - p) in
        absurd (no_multiple k (q - p) hk lk (omega arith) (omega arith) (omega arith))
    by (no s) (no l) =
        let g : q ≤ p = omega arith in
        let d : k * p ≡ k * q + k * (p - q) = ap (λ (x : ℕ). k * x) (sym (add-sub_of_le g)) ∙ mul-add k q (p - q) in
        absurd (no_multiple k (p - q) hk lk (omega arith) (omega arith) (omega arith))

-- two changes that s1 does not see weigh in s2 as one of them, by the places between
cross : (a k x y p q u w v : ℕ) → w + (a + k) * p ≡ u + (a + k) * x → v + a * q ≡ w + a * y → x + y ≡ p + q → v + k * p ≡ u + k * x
cross a k x y p q u w v e f s = let g : a * (x + y) ≡ a * (p + q) = ap (λ (z : ℕ). a * z) s in omega arith

-- ---- one byte of the body, or two
module _ (m : List ℕ) (l : length m ≡ 508) (h : Bytes m) where
  one_first : (i x : ℕ) → i < 508 → x < 256 → (check (set m i x)).s1 ≡ (check m).s1 → x ≡ get_or m i 0
  one_first i x hi hx e =
      let f : (1 + byte_total (set m i x)) % 65536 ≡ (1 + byte_total m) % 65536 = sym (check_first (set m i x)) ∙ e ∙ check_first m in
      omega (arith, total_set m i x (omega arith), h i)

  one_second : (i x : ℕ) → i < 508 → x < 256 → (check (set m i x)).s2 ≡ (check m).s2 → x ≡ get_or m i 0
  one_second i x hi hx e =
      let n = length-set m i x ∙ l in
      let f : (508 + weighted (set m i x)) % 65536 ≡ (508 + weighted m) % 65536 = rw (n, l) at (sym (check_second (set m i x)) ∙ e ∙ check_second m) in
      seen (508 - i) (get_or m i 0) x (weighted m) (weighted (set m i x)) 508 (omega arith) (omega arith) (h i) hx (rw l at (weighted_set m i x (omega arith))) f

  -- i before j
  two : (i j x y : ℕ) → i < j → j < 508 → x < 256 → y < 256 → (check (set (set m i x) j y)).s1 ≡ (check m).s1 → (check (set (set m i x) j y)).s2 ≡ (check m).s2
      → (x ≡ get_or m i 0) × (y ≡ get_or m j 0)
  two i j x y hi hj hx hy e f =
      let n : length (set m i x) ≡ 508 = length-set m i x ∙ l in
      let o : length (set (set m i x) j y) ≡ 508 = length-set (set m i x) j y ∙ n in
      let g : get_or (set m i x) j 0 ≡ get_or m j 0 = get_or-set_other m i j x 0 (λ q. omega arith) in
      let t = total_set m i x (omega arith) in
      let u : byte_total (set (set m i x) j y) + get_or m j 0 ≡ byte_total (set m i x) + y = rw g at (total_set (set m i x) j y (omega arith)) in
      let a : (1 + byte_total (set (set m i x) j y)) % 65536 ≡ (1 + byte_total m) % 65536 = sym (check_first (set (set m i x) j y)) ∙ e ∙ check_first m in
      let s : x + y ≡ get_or m i 0 + get_or m j 0 = omega (arith, h i, h j) in
      let w = rw l at (weighted_set m i x (omega arith)) in
      let v = rw (g, n) at (weighted_set (set m i x) j y (omega arith)) in
      let b : (508 + weighted (set (set m i x) j y)) % 65536 ≡ (508 + weighted m) % 65536 = rw (o, l) at (sym (check_second (set (set m i x) j y)) ∙ f ∙ check_second m) in
      let k : 508 - i ≡ (508 - j) + (j - i) = omega arith in
      let p = cross (508 - j) (j - i) x y (get_or m i 0) (get_or m j 0) (weighted m) (weighted (set m i x)) (weighted (set (set m i x) j y)) (rw k at w) v s in
      let x-same = seen (j - i) (get_or m i 0) x (weighted m) (weighted (set (set m i x) j y)) 508 (omega arith) (omega arith) (h i) hx p b in
      (x-same, omega arith)

-- ---- the whole block
-- what the check says, as equations
record Right (b : List ℕ) : Type 0 where
  first : (check (take 508 b)).s1 ≡ from_little (take 2 (drop 508 b))
  second : (check (take 508 b)).s2 ≡ from_little (take 2 (drop 510 b))

right : (b : List ℕ) → check_right b ≡ true → Right b
unfolding check_right
right b e =
    let t = and-true (eqb (from_little (take 2 (drop 508 b))) (check (take 508 b)).s1) _ e in
    record { first = sym (eqb-true _ _ t.0); second = sym (eqb-true _ _ t.1) }

-- a change past 509 leaves the first sum's bytes
take_past : (b : List ℕ) (j y : ℕ) → 510 ≤ j → take 2 (drop 508 (set b j y)) ≡ take 2 (drop 508 b)
take_past b j y h =
    let e : j ≡ 508 + (j - 508) = omega arith in
    ap (λ (k : ℕ). take 2 (drop 508 (set b k y))) e ∙ ap (take 2) (drop-set-add 508 b (j - 508) y) ∙ take-set-le 2 (drop 508 b) (j - 508) y (omega arith)

module _ (b : List ℕ) (l : length b ≡ 512) (h : Bytes b) (r : Right b) where
  abbrev m : List ℕ
  m = take 508 b

  lm : length m ≡ 508
  lm = length-take-le 508 b (omega arith)

  hm : Bytes m
  hm = bytes_front 508 b h

  -- the sums of a block that keeps the check's bytes
  first_kept : (c : List ℕ) → Right c → take 2 (drop 508 c) ≡ take 2 (drop 508 b) → (check (take 508 c)).s1 ≡ (check m).s1
  first_kept c q e = q.first ∙ ap from_little e ∙ sym r.first

  second_kept : (c : List ℕ) → Right c → take 2 (drop 510 c) ≡ take 2 (drop 510 b) → (check (take 508 c)).s2 ≡ (check m).s2
  second_kept c q e = q.second ∙ ap from_little e ∙ sym r.second

  -- a byte set to what it was
  set_back : (i x : ℕ) → x ≡ get_or m i 0 → set m i x ≡ m
  set_back i x e = ap (set m i) e ∙ set-get_or m i 0

  -- one byte of the body, at most
  single : (i x : ℕ) → i < 508 → x < 256 → Right (set b i x) → take 508 (set b i x) ≡ m
  single i x hi hx q =
      let t = take-set-lt 508 b i x hi in
      let d = ap (take 2) (drop-set-lt 508 b i x hi) in
      t ∙ set_back i x (one_first m lm hm i x hi hx (ap (λ (z : List ℕ). (check z).s1) (sym t) ∙ first_kept (set b i x) q d))

  -- one byte of the body and one past it: one of the two sums keeps its bytes
  mixed : (i j x y : ℕ) → i < 508 → 508 ≤ j → x < 256 → Right (set (set b i x) j y) → take 508 (set (set b i x) j y) ≡ m
  mixed i j x y hi hj hx q = by (dec_le j 509)
    where
      c : List ℕ
      c = set (set b i x) j y

      t : take 508 (set (set b i x) j y) ≡ set m i x
      t = take-set-le 508 (set b i x) j y hj ∙ take-set-lt 508 b i x hi

      by : Dec (j ≤ 509) → take 508 (set (set b i x) j y) ≡ m
      by (yes k) =
          let d = ap (take 2) (drop-set-lt 510 (set b i x) j y (omega arith) ∙ drop-set-lt 510 b i x (omega arith)) in
          t ∙ set_back i x (one_second m lm hm i x hi hx (ap (λ (z : List ℕ). (check z).s2) (sym t) ∙ second_kept (set (set b i x) j y) q d))
      by (no k) =
          let d = take_past (set b i x) j y (omega arith) ∙ ap (take 2) (drop-set-lt 508 b i x hi) in
          t ∙ set_back i x (one_first m lm hm i x hi hx (ap (λ (z : List ℕ). (check z).s1) (sym t) ∙ first_kept (set (set b i x) j y) q d))

  -- two bytes of the body
  ordered : (i j x y : ℕ) → i < j → j < 508 → x < 256 → y < 256 → Right (set (set b i x) j y) → take 508 (set (set b i x) j y) ≡ m
  ordered i j x y hi hj hx hy q =
      let c = set (set b i x) j y in
      let t = take-set-lt 508 (set b i x) j y hj ∙ ap (λ (z : List ℕ). set z j y) (take-set-lt 508 b i x (omega arith)) in
      let d = ap (take 2) (drop-set-lt 508 (set b i x) j y hj ∙ drop-set-lt 508 b i x (omega arith)) in
      let e = ap (take 2) (drop-set-lt 510 (set b i x) j y (omega arith) ∙ drop-set-lt 510 b i x (omega arith)) in
      let w = two m lm hm i j x y hi hj hx hy (ap (λ (z : List ℕ). (check z).s1) (sym t) ∙ first_kept c q d) (ap (λ (z : List ℕ). (check z).s2) (sym t) ∙ second_kept c q e) in
      t ∙ ap (λ (z : List ℕ). set z j y) (set_back i x w.0) ∙ set_back j y w.1

  -- any two bytes
  body_kept : (i j x y : ℕ) → x < 256 → y < 256 → Right (set (set b i x) j y) → take 508 (set (set b i x) j y) ≡ m
  body_kept i j x y hx hy q = by (dec_le 508 i) (dec_le 508 j) (ℕ_discrete i j) (dec_le i j)
    where
      swapped : (i ≡ j → ⊥) → set (set b i x) j y ≡ set (set b j y) i x
      swapped n = set_comm b i j x y n

      by : Dec (508 ≤ i) → Dec (508 ≤ j) → Dec (i ≡ j) → Dec (i ≤ j) → take 508 (set (set b i x) j y) ≡ m
      by (yes a) (yes c) s o = take-set-le 508 (set b i x) j y c ∙ take-set-le 508 b i x a
      by (no a) (yes c) s o = mixed i j x y (omega arith) c hx q
      by (yes a) (no c) s o =
          let e = swapped (λ z. omega arith) in
          ap (take 508) e ∙ mixed j i y x (omega arith) a hy (subst Right e q)
      by (no a) (no c) (yes s) o =
          let e : set (set b i x) j y ≡ set b j y = ap (λ (k : ℕ). set (set b k x) j y) s ∙ set-set b j x y in
          ap (take 508) e ∙ single j y (omega arith) hy (subst Right e q)
      by (no a) (no c) (no s) (yes o) = ordered i j x y (omega arith) (omega arith) hx hy q
      by (no a) (no c) (no s) (no o) =
          let e = swapped s in
          ap (take 508) e ∙ ordered j i y x (omega arith) (omega arith) hy hx (subst Right e q)

module _ (b : List ℕ) (l : length b ≡ 512) (h : Bytes b) (e : check_right b ≡ true) where
  both_right : (i j x y : ℕ) → x < 256 → y < 256 → check_right (set (set b i x) j y) ≡ true → set (set b i x) j y ≡ b
  both_right i j x y hx hy f =
      let c = set (set b i x) j y in
      let hc = bytes_set (set b i x) j y (bytes_set b i x h hx) hy in
      let lc : length c ≡ 512 = length-set (set b i x) j y ∙ length-set b i x ∙ l in
      sym (right_sealed c hc lc f) ∙ ap sealed (body_kept b l h (right b e) i j x y hx hy (right c f)) ∙ right_sealed b h l e

  -- of a block whose check is right, two bytes are put anew, anywhere: unless nothing has changed, its check is wrong
  pub two_bytes_seen : (i j x y : ℕ) → x < 256 → y < 256 → (set (set b i x) j y ≡ b → ⊥) → check_right (set (set b i x) j y) ≡ false
  two_bytes_seen i j x y hx hy n = by (check_right (set (set b i x) j y)) refl
    where
      by : (t : Bool) → check_right (set (set b i x) j y) ≡ t → t ≡ false
      by true f = absurd (n (both_right i j x y hx hy f))
      by false f = refl

  pub one_byte_seen : (i x : ℕ) → x < 256 → (set b i x ≡ b → ⊥) → check_right (set b i x) ≡ false
  one_byte_seen i x hx n =
      let s = set-set b i x x in
      sym (ap check_right s) ∙ two_bytes_seen i i x x hx hx (λ q. n (sym s ∙ q))
