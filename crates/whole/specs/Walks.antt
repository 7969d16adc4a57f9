-- A walk over a mask's decisions, ascending: the next one, how many they are, and one decision alone.
-- Assumes nothing.
use Rattle.std.specs.Prelude.{◌≡◌, refl, Bool, true, ◌||◌, List, [], ◌∷◌, ◌++◌, ℕ, zero, suc, ◌+◌, ◌-◌, ◌^◌, ◌<◌, ◌≤◌, length}
use Rattle.std.proofs.Common.{sym, ap, ap₂, ◌∙◌, arith, eqb-true, eq-eqb, length-append}
use Rattle.std.proofs.Math.Decide.{ℕ_discrete}
use Rattle.std.specs.Int.Bits.{bit_and, bit_or}
use Rattle.whole.specs.Words.{mem}
use Rattle.whole.specs.Tests.{clash}
use Rattle.whole.specs.Pigeon.{Apart}
use Rattle.whole.specs.Members.{in_head, in_tail, nobody, apart_new, mem_append, few}
use Rattle.whole.specs.Masks.{these, mem_these, these_below, these_apart, these_end, bit_single, bit_or_lem, turn}

-- the next is a decision
pub item_below : (m d : ℕ) (ds : List ℕ) → these m ≡ d ∷ ds → d < 64
item_below m d ds e = these_below m d (ap (mem d) e ∙ in_head d ds)

-- how many they are: no more than the mask is as a number, and of two masks together no more than of both
these_few_by : (f m : ℕ) → m ≤ f → m < 2 ^ 64 → length (these m) ≤ m
these_few_by zero m l h = omega (arith, ap length (these_end m (omega arith)))
these_few_by (suc f) m l h = by (ℕ_discrete m 0) (λ k p q. these_few_by f k p q)
  where
    by : Dec (m ≡ 0) → ((k : ℕ) → k ≤ f → k < 2 ^ 64 → length (these k) ≤ k) → length (these m) ≤ m
    by (yes z) less = omega (arith, ap length (these_end m z))
    by (no d) less =
        let t = turn m d h in
        omega (arith, ap length t.parts, t.less, less (bit_and m (m - 1)) (omega (arith, t.less)) t.smaller)

pub these_few : (m : ℕ) → m < 2 ^ 64 → length (these m) ≤ m
these_few m h = these_few_by m m (omega arith) h

pub these_or : (a b : ℕ) → length (these (bit_or a b)) ≤ length (these a) + length (these b)
these_or a b = omega (arith, length-append (these a) (these b), few (these a ++ these b) (these_apart (bit_or a b)) inside)
  where
    inside : (k : ℕ) → mem k (these (bit_or a b)) ≡ true → mem k (these a ++ these b) ≡ true
    inside k m =
        let l = these_below (bit_or a b) k m in
        mem_append k (these a) (these b) ∙ ap₂ (λ (x y : Bool). x || y) (mem_these a k l) (mem_these b k l) ∙ sym (bit_or_lem a b k) ∙ sym (mem_these (bit_or a b) k l) ∙ m

-- one decision alone
one_alone : (c : ℕ) (xs : List ℕ) → Apart 64 xs → mem c xs ≡ true → ((k : ℕ) → mem k xs ≡ true → k ≡ c) → xs ≡ c ∷ []
one_alone c [] a m h = nobody c m
one_alone c (x ∷ []) a m h = ap (λ (k : ℕ). k ∷ []) (h x (in_head x []))
one_alone c (x ∷ y ∷ ys) a m h = clash (ap (λ (k : ℕ). mem k (y ∷ ys)) (h x (in_head x (y ∷ ys)) ∙ sym (h y (in_tail y x (y ∷ ys) (in_head y ys)))) ∙ in_head y ys) (apart_new a)

pub these_single : (c : ℕ) → c < 64 → these (2 ^ c) ≡ c ∷ []
these_single c h = one_alone c (these (2 ^ c)) (these_apart (2 ^ c)) (mem_these (2 ^ c) c h ∙ bit_single c c ∙ eq-eqb c c refl)
    (λ k m. eqb-true k c (sym (bit_single c k) ∙ sym (mem_these (2 ^ c) k (these_below (2 ^ c) k m)) ∙ m))
