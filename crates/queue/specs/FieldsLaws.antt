-- What clauses see of a queue gives its fields back.
-- Assumes nothing.
use Rattle.std.specs.Prelude.{ℕ, ◌^◌, ◌<◌, ◌≡◌, refl, List, [], ◌∷◌, Bool, ◌||◌, eqb}
use Rattle.std.proofs.Common.{ap₂, sym, ◌∙◌, arith}
use Rattle.std.proofs.Math.Pow.{pow-lt}
use Rattle.std.proofs.lemmas.Nat.{or_lt}
use Rattle.std.proofs.lemmas.Nat.Bits.{same_from_bits_below}
use Rattle.std.specs.Int.{bit_at}
use Rattle.whole.specs.Words.{mem, bit}
use Rattle.whole.specs.Masks.{bit_none, bit_single, bit_or_lem}
use Rattle.whole.specs.Members.{apart_head, apart_tail}
use Rattle.whole.specs.Pigeon.{Apart}
use Rattle.queue.specs.Items.{items}
use Rattle.queue.specs.ItemsLaws.{ring_length}
use Rattle.queue.specs.Fields.{seen, mask_of, fields, QueueWhole}
use Rattle.queue.specs.declared.Queue.TheInside.{Inside}

mask_bits : (xs : List ℕ) (k : ℕ) → bit (mask_of xs) k ≡ mem k xs
unfolding mask_of mem
mask_bits [] k = bit_none k
mask_bits (x ∷ xs) k = bit_or_lem (2 ^ x) (mask_of xs) k ∙ ap₂ (λ (a b : Bool). a || b) (bit_single x k) (mask_bits xs k)

mask_low : (xs : List ℕ) → Apart 64 xs → mask_of xs < 2 ^ 64
unfolding mask_of
mask_low [] a = omega arith
mask_low (x ∷ xs) a = or_lt 64 (2 ^ x) (mask_of xs) (pow-lt (apart_head a)) (mask_low xs (apart_tail a))

-- a bit as a test says which digit it is
digits_same : (a b i : ℕ) → bit a i ≡ bit b i → bit_at a i ≡ bit_at b i
digits_same a b i e = two (bit_at a i) (bit_at b i) (omega arith) (omega arith) e
  where
    two : (x y : ℕ) → x < 2 → y < 2 → eqb x 1 ≡ eqb y 1 → x ≡ y
    two x y p q e = grind arith

-- the mask that a queue has is the only one that shows who waits
mask_is : (q : Inside) → QueueWhole q → mask_of (items q) ≡ q.waiting
mask_is q w =
    same_from_bits_below 64 (mask_of (items q)) q.waiting (mask_low (items q) w.kept.apart) w.mask
    (λ k l. digits_same (mask_of (items q)) q.waiting k (mask_bits (items q) k ∙ sym (w.kept.shown k l)))

pub given_back : (q : Inside) → QueueWhole q → fields (seen q) ≡ q
given_back q w = rw (ring_length q.places q.head q.len, mask_is q w) refl
