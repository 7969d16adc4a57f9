-- The edges written: one row as its decision's neighbours are gone through, and row by row.
use Rattle.std.specs.Prelude.{◌≡◌, ◌≢◌, refl, List, [], ◌∷◌, ◌++◌, map, ℕ, zero, suc, ◌+◌, ◌*◌, ◌-◌, ◌/◌, ◌<◌, ◌≤◌, ltb, length, get_or, set, take, drop, replicate, ℤ, pos, false}
use Rattle.std.proofs.Common.{sym, ap, ap₂, ◌∙◌, subst, arith, lt-ltb, le-ltb, ltb-true, length-set, get_or-set_same, get_or-set_other, append_assoc, append-nil, add-zero}
use Rattle.std.proofs.Math.Decide.{ℕ_discrete}
use Rattle.std.proofs.Math.ListN.{drop_of_length-le}
use Rattle.std.proofs.Math.Seq.{ext_get_or}
use Rattle.std.proofs.lemmas.List.{length-replicate, length-take-le, drop_at, take_at, drop-replicate, take-replicate}
use Rattle.whole.specs.Words.{upto, tab, mem}
use Rattle.whole.specs.Tests.{cases, on_not}
use Rattle.whole.specs.Members.{out_of_cons}
use Rattle.whole.specs.Masks.{these, mem_these}
use Rattle.whole.specs.Walks.{item_below}
use Rattle.whole.specs.Cmp.{zero_of}
use Rattle.whole.specs.Cells.{row_at, column_at}
use Rattle.whole.specs.Lists.{length_tab, tab_at, tab_same, tab_map, tab_replicate, replicate_at}
use Rattle.outputs.specs.declared.Remaining.{Remaining}
use Rattle.outputs.specs.Out.{rest, Places, MaskShows, cell_of, entry_of}
use Rattle.outputs.specs.Listing.{Turned}
use Rattle.outputs.specs.RestLaws.{length_rest, rest_at, rest_low}

-- ---- one row: the places of a mask's decisions are not written yet, and the others are
pub record Stored (e : List ℤ) (rs : List ℕ) (i m : ℕ) (row : List ℤ) : Type 0 where
  pub long : length row ≡ 64
  pub done : (b : ℕ) → b < 64 → (b < length rs → mem (get_or rs b 0) (these m) ≡ false) → get_or row b (pos 0) ≡ entry_of e rs i b

module _ (e : List ℤ) (i : ℕ) (r : Remaining) (ok : Places r.list r.len) where
  -- nothing is written: a decision that is not in the mask has no edge
  pub stored_begin : (m : ℕ) → MaskShows m i e → (row : List ℤ) → row ≡ replicate 64 (pos 0) → Stored e (rest r) i m row
  stored_begin m shows row z = record {
    long = ap length z ∙ length-replicate 64 (pos 0);
    done = λ b l h. ap (λ (xs : List ℤ). get_or xs b (pos 0)) z ∙ replicate_at (pos 0) 64 b ∙ sym (none b h);
  }
    where
      no_edge : (k : ℕ) → k < 64 → mem k (these m) ≡ false → get_or e (64 * i + k) (pos 0) ≡ pos 0
      no_edge k l f = zero_of (get_or e (64 * i + k) (pos 0)) (on_not _ (sym (shows k l) ∙ sym (mem_these m k l) ∙ f))

      none : (b : ℕ) → (b < length (rest r) → mem (get_or (rest r) b 0) (these m) ≡ false) → entry_of e (rest r) i b ≡ pos 0
      none b h = cases (ltb b (length (rest r)))
          (λ t.
          let l : b < length (rest r) = ltb-true b (length (rest r)) t in
          let low : get_or (rest r) b 0 < 64 = rest_low r ok b l in
          rw t (no_edge (get_or (rest r) b 0) low (h l)))
          (λ f. rw f refl)

  module _ (turned : Turned r.list r.places r.len) (m j m' : ℕ) (s : these m ≡ j ∷ these m') (row : List ℤ) (w : Stored e (rest r) i m row) where
    -- a decision at another place than j's is not j
    later : (b : ℕ) → b < length (rest r) → b ≢ get_or r.places j 0 → mem (get_or (rest r) b 0) (these m') ≡ false → mem (get_or (rest r) b 0) (these m) ≡ false
    later b l d f =
        let k : b < r.len = omega (arith, length_rest r ok) in
        let back : get_or r.places (get_or (rest r) b 0) 0 ≡ b = ap (λ (x : ℕ). get_or r.places x 0) (rest_at r ok b k) ∙ turned.back b k in
        ap (mem (get_or (rest r) b 0)) s ∙ out_of_cons (get_or (rest r) b 0) j (these m') (λ q. d (sym back ∙ ap (λ (x : ℕ). get_or r.places x 0) q)) f

    -- j does not remain
    pub stored_less : r.len ≤ get_or r.places j 0 → Stored e (rest r) i m' row
    stored_less past = record {
      long = w.long;
      done = λ b l h. w.done b l (λ k. later b k (λ q. omega (arith, length_rest r ok)) (h k));
    }

    -- it does, and is stored
    pub stored_more : get_or r.places j 0 < r.len → (v : ℤ) → v ≡ get_or e (64 * i + j) (pos 0) → Stored e (rest r) i m' (set row (get_or r.places j 0) v)
    stored_more inside v is = record {
      long = length-set row (get_or r.places j 0) v ∙ w.long;
      done = λ b l h. by b l h (ℕ_discrete b (get_or r.places j 0));
    }
      where
        its : get_or (rest r) (get_or r.places j 0) 0 ≡ j
        its = rest_at r ok (get_or r.places j 0) inside ∙ turned.there j (item_below m j (these m') s) inside

        there : get_or r.places j 0 < length (rest r)
        there = omega (arith, length_rest r ok)

        entry_is : entry_of e (rest r) i (get_or r.places j 0) ≡ get_or e (64 * i + j) (pos 0)
        entry_is = rw (lt-ltb (get_or r.places j 0) (length (rest r)) there, its) refl

        by : (b : ℕ) → b < 64 → (b < length (rest r) → mem (get_or (rest r) b 0) (these m') ≡ false) → Dec (b ≡ get_or r.places j 0) → get_or (set row (get_or r.places j 0) v) b (pos 0) ≡ entry_of e (rest r) i b
        by b l h (yes q) = subst (λ (b : ℕ). get_or (set row (get_or r.places j 0) v) b (pos 0) ≡ entry_of e (rest r) i b) (sym q)
            (get_or-set_same row (get_or r.places j 0) v (pos 0) (omega (arith, w.long)) ∙ is ∙ sym entry_is)
        by b l h (no d) = get_or-set_other row (get_or r.places j 0) b v (pos 0) d ∙ w.done b l (λ k. later b k d (h k))

pub stored_end : (e : List ℤ) (rs : List ℕ) (i m : ℕ) (row : List ℤ) → Stored e rs i m row → these m ≡ [] → row ≡ tab (entry_of e rs i) 64
unfolding mem
stored_end e rs i m row w z = ext_get_or (pos 0) row _ (w.long ∙ sym (length_tab (entry_of e rs i) 64))
    (λ k h. let l : k < 64 = omega (arith, w.long) in w.done k l (λ q. ap (mem (get_or rs k 0)) z) ∙ sym (tab_at (entry_of e rs i) 64 k (pos 0) l))

-- ---- all rows: those before row a are written, and zeros follow
tab_more : (f : ℕ → ℤ) (n m : ℕ) → tab f (n + m) ≡ tab f n ++ tab (λ b. f (n + b)) m
unfolding tab
tab_more f n zero = ap (tab f) (add-zero n) ∙ sym (append-nil (tab f n))
tab_more f n (suc m) =
    let e : n + suc m ≡ suc (n + m) = omega arith in
    ap (tab f) e ∙ ap (λ (xs : List ℤ). xs ++ f (n + m) ∷ []) (tab_more f n m) ∙ append_assoc (tab f n) (tab (λ b. f (n + b)) m) (f (n + m) ∷ [])

unfoldable pub rows : List ℤ → List ℕ → ℕ → List ℤ
rows e rs a = tab (cell_of e rs) (64 * a) ++ replicate (4096 - 64 * a) (pos 0)

module _ (e : List ℤ) (rs : List ℕ) where
  -- all places were filled
  pub rows_begin : (n : ℕ) (o z : List ℤ) → n ≡ 4096 → length o ≡ 4096 → z ≡ replicate (length (take n o)) (pos 0) → z ++ drop n o ≡ rows e rs 0
  unfolding rows tab
  rows_begin n o z all long filled =
      let front : length (take n o) ≡ 4096 = length-take-le n o (omega arith) ∙ all in
      let past : drop n o ≡ [] = drop_of_length-le o (omega arith) in
      ap₂ (λ (xs ys : List ℤ). xs ++ ys) (filled ∙ ap (λ (m : ℕ). replicate m (pos 0)) front) past ∙ append-nil (replicate 4096 (pos 0))

  -- a row of the output
  row_is : (a : ℕ) → a < length rs → tab (λ b. cell_of e rs (64 * a + b)) 64 ≡ tab (entry_of e rs (get_or rs a 0)) 64
  row_is a h = tab_same (λ b. cell_of e rs (64 * a + b)) (entry_of e rs (get_or rs a 0)) 64 (λ b l. rw (row_at a b l, column_at a b l, lt-ltb a (length rs) h) refl)

  module _ (o : List ℤ) (a : ℕ) (w : o ≡ rows e rs a) where
    zeros_from : drop (64 * a) o ≡ replicate (4096 - 64 * a) (pos 0)
    unfolding rows
    zeros_from = ap (drop (64 * a)) w ∙ drop_at (tab (cell_of e rs) (64 * a)) (replicate (4096 - 64 * a) (pos 0)) (64 * a) (length_tab (cell_of e rs) (64 * a))

    zeros_after : drop 64 (drop (64 * a) o) ≡ replicate (4096 - 64 * (a + 1)) (pos 0)
    zeros_after =
        let n : 4096 - 64 * a - 64 ≡ 4096 - 64 * (a + 1) = omega arith in
        ap (drop 64) zeros_from ∙ drop-replicate 64 (4096 - 64 * a) (pos 0) ∙ ap (λ (k : ℕ). replicate k (pos 0)) n

    -- the row that is written next holds zeros
    pub zeros_next : a < 64 → take 64 (drop (64 * a) o) ≡ replicate 64 (pos 0)
    zeros_next h = ap (take 64) zeros_from ∙ take-replicate 64 (4096 - 64 * a) (pos 0) (omega arith)

    pub rows_more : a < length rs → (row : List ℤ) → row ≡ tab (entry_of e rs (get_or rs a 0)) 64 → take (64 * a) o ++ (row ++ drop 64 (drop (64 * a) o)) ≡ rows e rs (a + 1)
    unfolding rows
    rows_more h row r =
        let n : 64 * (a + 1) ≡ 64 * a + 64 = omega arith in
        let front : take (64 * a) o ≡ tab (cell_of e rs) (64 * a) = ap (take (64 * a)) w ∙ take_at (tab (cell_of e rs) (64 * a)) (replicate (4096 - 64 * a) (pos 0)) (64 * a) (length_tab (cell_of e rs) (64 * a)) in
        let whole : tab (cell_of e rs) (64 * (a + 1)) ≡ tab (cell_of e rs) (64 * a) ++ row = ap (tab (cell_of e rs)) n ∙ tab_more (cell_of e rs) (64 * a) 64 ∙ ap (λ (xs : List ℤ). tab (cell_of e rs) (64 * a) ++ xs) (row_is a h ∙ sym r) in
        ap₂ (λ (xs ys : List ℤ). xs ++ (row ++ ys)) front zeros_after
        ∙ sym (append_assoc (tab (cell_of e rs) (64 * a)) row (replicate (4096 - 64 * (a + 1)) (pos 0)))
        ∙ ap (λ (xs : List ℤ). xs ++ replicate (4096 - 64 * (a + 1)) (pos 0)) (sym whole)

    pub rows_end : a ≡ length rs → length rs ≤ 64 → o ≡ map (cell_of e rs) (upto 4096)
    unfolding rows
    rows_end q few =
        let n : 64 * a + (4096 - 64 * a) ≡ 4096 = omega arith in
        w
        ∙ ap (λ (xs : List ℤ). tab (cell_of e rs) (64 * a) ++ xs) (sym (tab_same (λ b. cell_of e rs (64 * a + b)) (λ b. pos 0) (4096 - 64 * a) below ∙ tab_replicate (pos 0) (4096 - 64 * a)))
        ∙ sym (tab_more (cell_of e rs) (64 * a) (4096 - 64 * a))
        ∙ ap (tab (cell_of e rs)) n
        ∙ sym (tab_map (cell_of e rs) 4096)
      where
        below : (b : ℕ) → b < 4096 - 64 * a → cell_of e rs (64 * a + b) ≡ pos 0
        below b l = let k : length rs ≤ (64 * a + b) / 64 = omega arith in rw (le-ltb ((64 * a + b) / 64) (length rs) k) refl
