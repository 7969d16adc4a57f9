-- What a writer of bytes into a lent slice has done, and one on a page. Assumes nothing.
use Rattle.std.specs.Prelude.{◌≡◌, refl, List, [], ◌∷◌, ◌++◌, ℕ, ◌+◌, ◌-◌, ◌≤◌, length, set, take, drop}
use Rattle.std.proofs.Common.{ap, sym, ◌∙◌, arith, append_assoc, length-set, length-append}
use Rattle.std.proofs.lemmas.List.{drop-drop}
use Rattle.std.proofs.Math.Seq.{length-sets}
use Rattle.std.proofs.lemmas.List.Edits.{sets, sets-eq}
use Rattle.whole.specs.Stores.{sets_append}
use Rattle.decimal.specs.declared.page.Page.{Page}

-- bs was written into l from i on: that made it m, and j is the place after
pub record Wrote (l : List ℕ) (i : ℕ) (bs m : List ℕ) (j : ℕ) : Type 0 where
  pub list : m ≡ sets l i bs
  pub place : j ≡ i + length bs
  pub long : length m ≡ length l

pub none : (l : List ℕ) (i : ℕ) → Wrote l i [] l i
none l i = record { list = refl; place = omega arith; long = refl }

pub one : (l : List ℕ) (i b : ℕ) → Wrote l i (b ∷ []) (set l i b) (i + 1)
one l i b = record { list = refl; place = omega arith; long = length-set l i b }

-- in the place of as many bytes
pub stored : (l : List ℕ) (i : ℕ) (bs : List ℕ) → i + length bs ≤ length l → Wrote l i bs (take i l ++ (bs ++ drop (i + length bs - i) (drop i l))) (i + length bs)
stored l i bs h =
    let k : i + (i + length bs - i) ≡ i + length bs = omega arith in
    let e : take i l ++ (bs ++ drop (i + length bs - i) (drop i l)) ≡ sets l i bs = rw (drop-drop, k, ← append_assoc) (sym (sets-eq bs l i h)) in
    record { list = e; place = refl; long = ap length e ∙ length-sets l i bs }

-- one after the other
infixl 5 ◌then◌
pub ◌then◌ : {l m n xs ys : List ℕ} {i j k : ℕ} → Wrote l i xs m j → Wrote m j ys n k → Wrote l i (xs ++ ys) n k
◌then◌ {l} {m} {n} {xs} {ys} {i} {j} {k} a b = record {
  list = b.list ∙ rw (a.list, a.place, sets_append xs l i ys);
  place = rw (length-append xs ys) (omega (arith, a.place, b.place));
  long = b.long ∙ a.long;
}

-- a text begins with xs, and ys is what is left of it
pub record Begins (text xs ys : List ℕ) : Type 0 where
  pub parts : text ≡ xs ++ ys

-- of the bytes `all`, to be written into l from i on, `rest` is still to be written, into m from j on
pub record Rest (l : List ℕ) (i : ℕ) (all m : List ℕ) (j : ℕ) (rest : List ℕ) : Type 0 where
  pub list : sets m j rest ≡ sets l i all
  pub place : j + length rest ≡ i + length all
  pub long : length m ≡ length l

pub rest_all : (l : List ℕ) (i : ℕ) (all : List ℕ) → Rest l i all l i all
rest_all l i all = record { list = refl; place = refl; long = refl }

pub rest_after : {l all m n xs ys rest : List ℕ} {i j k : ℕ} → Rest l i all m j rest → Begins rest xs ys → Wrote m j xs n k → Rest l i all n k ys
rest_after {l} {all} {m} {n} {xs} {ys} {rest} {i} {j} {k} r e w = record {
  list = rw (w.list, w.place, ← sets_append xs m j ys, ← e.parts) r.list;
  place = omega (arith, r.place, w.place, ap length e.parts, length-append xs ys);
  long = w.long ∙ r.long;
}

-- there is room for what comes next
pub rest_fits : {l all m xs ys rest : List ℕ} {i j : ℕ} → Rest l i all m j rest → Begins rest xs ys → j + length xs ≤ i + length all
rest_fits {l} {all} {m} {xs} {ys} r e = omega (arith, r.place, ap length e.parts, length-append xs ys)

pub rest_none : {l all m : List ℕ} {i j : ℕ} → Rest l i all m j [] → Wrote l i all m j
rest_none r = record { list = r.list; place = omega (arith, r.place); long = r.long }

-- bs stand at the front of m, as far as the place j; behind them m is what l was
pub record AtFront (l bs m : List ℕ) (j : ℕ) : Type 0 where
  pub bytes : m ≡ bs ++ drop j l
  pub place : j ≡ length bs
  pub within : j ≤ length l
  pub long : length m ≡ length l

pub at_front : {l bs m : List ℕ} {j : ℕ} → Wrote l 0 bs m j → j ≤ length l → AtFront l bs m j
at_front {l} {bs} {m} {j} w h = record {
  bytes = rw (w.list, w.place) (sets-eq bs l 0 (omega (arith, w.place)));
  place = omega (arith, w.place);
  within = h;
  long = w.long;
}

-- nothing is left open
pub one_front : {l bs m n : List ℕ} {j k : ℕ} → AtFront l bs m j → AtFront l bs n k → (m ≡ n) × (j ≡ k)
one_front f g = (rw (f.bytes, g.bytes, f.place, g.place), rw (f.place, g.place))

-- n bytes more can be written on the page p
abbrev pub HasRoom : Page → ℕ → Type 0
HasRoom p n = p.at + n ≤ length p.out.now

-- bs was written on the page p, from its place on: that made it q, over the same slice
pub record Put (p : Page) (bs : List ℕ) (q : Page) : Type 0 where
  pub wrote : Wrote p.out.now p.at bs q.out.now q.at
  pub same : q.out.ghost_name ≡ p.out.ghost_name

-- of the bytes `all`, to be written on the page p, `rest` is still to be written on q
pub record Left (p : Page) (all : List ℕ) (q : Page) (rest : List ℕ) : Type 0 where
  pub still : Rest p.out.now p.at all q.out.now q.at rest
  pub same : q.out.ghost_name ≡ p.out.ghost_name

module _ {p : Page} where
  pub put_none : Put p [] p
  put_none = record { wrote = none p.out.now p.at; same = refl }

  pub left_all : (all : List ℕ) → Left p all p all
  left_all all = record { still = rest_all p.out.now p.at all; same = refl }

infixl 5 ◌and◌
pub ◌and◌ : {p q r : Page} {xs ys : List ℕ} → Put p xs q → Put q ys r → Put p (xs ++ ys) r
a and b = record { wrote = a.wrote then b.wrote; same = b.same ∙ a.same }

pub left_after : {p q r : Page} {all xs ys rest : List ℕ} → Left p all q rest → Begins rest xs ys → Put q xs r → Left p all r ys
left_after l e w = record { still = rest_after l.still e w.wrote; same = w.same ∙ l.same }

pub left_none : {p q : Page} {all : List ℕ} → Left p all q [] → Put p all q
left_none l = record { wrote = rest_none l.still; same = l.same }

-- there is room for what comes next
pub left_fits : {p q : Page} {all xs ys rest : List ℕ} → Left p all q rest → Begins rest xs ys → q.at + length xs ≤ p.at + length all
left_fits l e = rest_fits l.still e

-- a page that was new over the bytes l, and whose slice is then m
pub page_front : {p q : Page} {l bs m : List ℕ} → Put p bs q → p.out.now ≡ l → p.at ≡ 0 → m ≡ q.out.now → length bs ≤ length l → AtFront l bs m q.at
page_front {p} {q} {l} {bs} w b e f h = rw f (at_front (rw (b, e) at w.wrote) (omega (arith, w.wrote.place, e)))
