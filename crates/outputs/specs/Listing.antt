-- A list of decisions that is turned round as it grows: the place of each decision in it, and 64 for one that is not there.
-- Assumes nothing.
use Rattle.std.specs.Prelude.{◌≡◌, refl, List, ℕ, ◌+◌, ◌<◌, ◌≤◌, length, get_or, set, replicate}
use Rattle.std.proofs.Common.{◌∙◌, arith, length-set, get_or-set_same, get_or-set_other}
use Rattle.std.proofs.Math.Decide.{ℕ_discrete, dec_lt}
use Rattle.std.proofs.lemmas.List.{get_or-replicate}

-- the list turned round: the place of each decision in it, n or more for one that is not in it
pub record Turned (list places : List ℕ) (n : ℕ) : Type 0 where
  pub long : length places ≡ 64
  pub low : (j : ℕ) → j < 64 → get_or places j 0 ≤ 64
  pub there : (j : ℕ) → j < 64 → get_or places j 0 < n → get_or list (get_or places j 0) 0 ≡ j
  pub back : (b : ℕ) → b < n → get_or places (get_or list b 0) 0 ≡ b

-- the first n of the list are decisions before i, and turned round; a decision that is not there has the place 64
pub record Listing (i : ℕ) (list places : List ℕ) (n : ℕ) : Type 0 where
  pub turned : Turned list places n
  pub before : (b : ℕ) → b < n → get_or list b 0 < i
  pub none : (j : ℕ) → j < 64 → n ≤ get_or places j 0 → get_or places j 0 ≡ 64

pub listing_begin : Listing 0 (replicate 64 0) (replicate 64 64) 0
listing_begin = record {
  turned = record { long = refl; low = λ j l. omega (arith, full j l); there = λ j l h. absurd (omega arith); back = λ b h. absurd (omega arith) };
  before = λ b h. absurd (omega arith);
  none = λ j l h. full j l;
}
  where
    full : (j : ℕ) → j < 64 → get_or {A = ℕ} (replicate 64 64) j 0 ≡ 64
    full j l = get_or-replicate {A = ℕ} 64 j 64 0 l

module _ (i : ℕ) (list places : List ℕ) (n : ℕ) (w : Listing i list places n) where
  pub listing_same : Listing (i + 1) list places n
  listing_same = record { turned = w.turned; before = λ b h. let k = w.before b h in omega arith; none = w.none }

  -- i joins the list
  module _ (l : length list ≡ 64) (k : n ≤ i) (h : i < 64) where
    abbrev list' : List ℕ
    list' = set list n i

    abbrev places' : List ℕ
    places' = set places i n

    here : get_or (set list n i) n 0 ≡ i
    here = get_or-set_same list n i 0 (omega arith)

    its : get_or (set places i n) i 0 ≡ n
    its = get_or-set_same places i n 0 (omega (arith, w.turned.long))

    there_more : (j : ℕ) → j < 64 → Dec (j ≡ i) → get_or places' j 0 < n + 1 → get_or list' (get_or places' j 0) 0 ≡ j
    there_more j b (yes e) s = rw (e, its) here
    there_more j b (no e) s =
        let o : get_or places' j 0 ≡ get_or places j 0 = get_or-set_other places i j n 0 e in
        let u : get_or places j 0 < n = below (dec_lt (get_or places j 0) n) (omega arith) in
        rw o (get_or-set_other list n (get_or places j 0) i 0 (λ q. omega arith) ∙ w.turned.there j b u)
      where
        below : Dec (get_or places j 0 < n) → get_or places j 0 < n + 1 → get_or places j 0 < n
        below (yes u) v = u
        below (no u) v = absurd (omega (arith, w.none j b (omega arith)))

    back_more : (b : ℕ) → b < n + 1 → Dec (b ≡ n) → get_or places' (get_or list' b 0) 0 ≡ b
    back_more b s (yes e) = rw (e, here) its
    back_more b s (no e) =
        let u : b < n = omega arith in
        let v : get_or list b 0 < i = w.before b u in
        rw (get_or-set_other list n b i 0 e) (get_or-set_other places i (get_or list b 0) n 0 (λ q. omega arith) ∙ w.turned.back b u)

    before_more : (b : ℕ) → b < n + 1 → Dec (b ≡ n) → get_or list' b 0 < i + 1
    before_more b s (yes e) = rw (e, here) (omega arith)
    before_more b s (no e) = let v = w.before b (omega arith) in rw (get_or-set_other list n b i 0 e) (omega arith)

    none_more : (j : ℕ) → j < 64 → Dec (j ≡ i) → n + 1 ≤ get_or places' j 0 → get_or places' j 0 ≡ 64
    none_more j b (yes e) s = absurd (let o : get_or places' j 0 ≡ n = rw e its in omega arith)
    none_more j b (no e) s =
        let o : get_or places' j 0 ≡ get_or places j 0 = get_or-set_other places i j n 0 e in
        o ∙ w.none j b (omega arith)

    low_more : (j : ℕ) → j < 64 → Dec (j ≡ i) → get_or places' j 0 ≤ 64
    low_more j b (yes e) = rw (e, its) (omega arith)
    low_more j b (no e) = rw (get_or-set_other places i j n 0 e) (w.turned.low j b)

    pub listing_more : Listing (i + 1) (set list n i) (set places i n) (n + 1)
    listing_more = record {
      turned = record {
        long = length-set places i n ∙ w.turned.long;
        low = λ j b. low_more j b (ℕ_discrete j i);
        there = λ j b s. there_more j b (ℕ_discrete j i) s;
        back = λ b s. back_more b s (ℕ_discrete b n);
      };
      before = λ b s. before_more b s (ℕ_discrete b n);
      none = λ j b s. none_more j b (ℕ_discrete j i) s;
    }
