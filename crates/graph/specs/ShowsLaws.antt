-- Laws of the masks that show the edges: the list of a decision's neighbours, no edge at all, an edge set both ways round.
-- Assumes nothing.
use Rattle.std.specs.Prelude.{◌≡◌, refl, Bool, false, cond, not, ◌&&◌, List, ◌≢◌, ℕ, ◌+◌, ◌*◌, ◌-◌, ◌^◌, ◌<◌, ◌≤◌, eqb, length, get_or, set, ℤ, pos, ◌+ℤ◌}
use Rattle.std.proofs.Common.{sym, ap, ◌∙◌, subst, arith, add-sub_of_le, length-set, get_or-set_same, get_or-set_other, eqb-true, eq-eqb, ne_eqb}
use Rattle.std.proofs.Math.Decide.{ℕ_discrete}
use Rattle.std.proofs.lemmas.List.{length-replicate}
use Rattle.whole.specs.Words.{bit, is_zero_z, upto, those}
use Rattle.whole.specs.Tests.{cases, clash, and-true, and_both}
use Rattle.whole.specs.Members.{upto_in}
use Rattle.whole.specs.Masks.{these, those_ext, bit_none}
use Rattle.whole.specs.Those.{those_upto}
use Rattle.whole.specs.Lists.{replicate_at, below_set}
use Rattle.whole.specs.Cells.{still_set, cell_other, cells_other}
use Rattle.rules.specs.Graph.{graph, neighbours, no_edges}
use Rattle.graph.specs.Shows.{Shows, no_masks}
use Rattle.graph.specs.NearLaws.{there}

-- the cell of i and j, and whether it is an edge
abbrev pub edge_cell : List ℤ → ℕ → ℕ → ℤ
edge_cell e i j = get_or e (64 * i + j) (pos 0)

abbrev pub is_edge : ℤ → Bool
is_edge z = not (is_zero_z z)

-- ---- the neighbours
-- a mask of those that pass, of which none is past n, lists them
pub these_upto : (p : ℕ → Bool) (m n : ℕ) → n ≤ 64 → ((k : ℕ) → k < 64 → bit m k ≡ p k) → ((k : ℕ) → k < 64 → n ≤ k → p k ≡ false) → these m ≡ those p (upto n)
unfolding these
these_upto p m n h b z =
    those_ext (λ k. bit m k) p (upto 64) (λ k t. b k (upto_in k 64 t))
    ∙ ap (λ (k : ℕ). those p (upto k)) (sym (add-sub_of_le h))
    ∙ those_upto p n (64 - n) (λ k t u. z k (omega arith) t)

pub shown_neighbours : (n : ℕ) (e : List ℤ) (m : List ℕ) → Shows n e m → n ≤ 64 → (c : ℤ) (l : List ℤ) (ss : List ℕ) (i : ℕ) → i < 64
    → these (get_or m i 0) ≡ neighbours (graph n c l e ss) i
unfolding neighbours
shown_neighbours n e m s h c l ss i hi = these_upto (there e i) (get_or m i 0) n h (λ k b. s.bits i k hi b) (λ k b t. ap is_edge (s.none i k hi b t))

-- ---- no edge at all
pub shows_none : (n : ℕ) (e : List ℤ) (m : List ℕ) → e ≡ no_edges → m ≡ no_masks → Shows n e m
unfolding no_edges no_masks
shows_none n e m p q = record {
  long = ap length q ∙ length-replicate {A = ℕ} 64 0;
  edges_long = ap length p ∙ length-replicate 4096 (pos 0);
  fits = λ i. omega (arith, blank i);
  bits = λ i j hi hj. ap (λ (x : ℕ). bit x j) (blank i) ∙ bit_none j ∙ sym (ap is_edge (bare i j));
  both = λ i j hi hj. bare i j ∙ sym (bare j i);
  none = λ i j hi hj l. bare i j;
}
  where
    blank : (i : ℕ) → get_or m i 0 ≡ 0
    blank i = ap (λ (l : List ℕ). get_or l i 0) q ∙ replicate_at {A = ℕ} 0 64 i

    bare : (i j : ℕ) → edge_cell e i j ≡ pos 0
    bare i j = ap (λ (l : List ℤ). edge_cell l i j) p ∙ replicate_at (pos 0) 4096 (64 * i + j)

-- ---- one cell is set, and its bit
-- r is m with l in it where x is an edge, and without l where it is none
abbrev pub Marked : ℕ → ℕ → ℤ → ℕ → Type 0
Marked m l x r = (t : ℕ) → t < 64 → bit r t ≡ cond (eqb t l) (is_edge x) (bit m t)

abbrev Bits : List ℤ → List ℕ → Type 0
Bits e m = (i j : ℕ) → i < 64 → j < 64 → bit (get_or m i 0) j ≡ is_edge (edge_cell e i j)

module _ (e : List ℤ) (k l : ℕ) (x : ℤ) (edges_long : length e ≡ 4096) (hk : k < 64) (hl : l < 64) where
  cell_same : edge_cell (set e (64 * k + l) x) k l ≡ x
  cell_same = get_or-set_same e (64 * k + l) x (pos 0) (omega arith)

  half : (m : List ℕ) (r : ℕ) → length m ≡ 64 → Bits e m → Marked (get_or m k 0) l x r → Bits (set e (64 * k + l) x) (set m k r)
  half m r long b w i j hi hj = go (ℕ_discrete i k) (ℕ_discrete j l)
    where
      go : Dec (i ≡ k) → Dec (j ≡ l) → bit (get_or (set m k r) i 0) j ≡ is_edge (edge_cell (set e (64 * k + l) x) i j)
      go (no d) f =
          ap (λ (z : ℕ). bit z j) (get_or-set_other m k i r 0 d) ∙ b i j hi hj ∙ sym (ap is_edge (cell_other e (pos 0) k l i j x hl hj (λ t. absurd (d t))))
      go (yes t) (yes u) =
          rw (t, u) (ap (λ (z : ℕ). bit z l) (get_or-set_same m k r 0 (omega arith)) ∙ w l hl ∙ ap (λ (c : Bool). cond c (is_edge x) (bit (get_or m k 0) l)) (eq-eqb l l refl) ∙ sym (ap is_edge cell_same))
      go (yes t) (no d) =
          rw t (ap (λ (z : ℕ). bit z j) (get_or-set_same m k r 0 (omega arith)) ∙ w j hj ∙ ap (λ (c : Bool). cond c (is_edge x) (bit (get_or m k 0) j)) (ne_eqb j l d) ∙ b k j hk hj ∙ sym (ap is_edge (cell_other e (pos 0) k l k j x hl hj (λ s. d))))

-- ---- both ways round
module _ (n : ℕ) (e : List ℤ) (m : List ℕ) (s : Shows n e m) (k l : ℕ) (kn : k < n) (ln : l < n) (hk : k < 64) (hl : l < 64) (x : ℤ) where
  abbrev turned : List ℤ
  turned = set (set e (64 * k + l) x) (64 * l + k) x

  half_long : length (set e (64 * k + l) x) ≡ 4096
  half_long = length-set e (64 * k + l) x ∙ s.edges_long

  there_on : edge_cell turned k l ≡ x
  there_on = still_set (pos 0) x (set e (64 * k + l) x) (64 * l + k) (64 * k + l) (cell_same e k l x s.edges_long hk hl)

  back_on : edge_cell turned l k ≡ x
  back_on = cell_same (set e (64 * k + l) x) l k x half_long hl hk

  off : (p q : ℕ) → q < 64 → (p ≡ k → q ≢ l) → (p ≡ l → q ≢ k) → edge_cell turned p q ≡ edge_cell e p q
  off p q hq c d = cells_other e (pos 0) k l p q x x hk hl hq c d

  turned_both : (p q : ℕ) → p < 64 → q < 64 → edge_cell turned p q ≡ edge_cell turned q p
  turned_both p q hp hq = cases (eqb p k && eqb q l)
      (λ t.
      let c = and-true (eqb p k) (eqb q l) t in
      let u : p ≡ k = eqb-true p k c.0 in
      let v : q ≡ l = eqb-true q l c.1 in
      rw (u, v) (there_on ∙ sym back_on))
      (λ f. cases (eqb p l && eqb q k)
      (λ t.
      let c = and-true (eqb p l) (eqb q k) t in
      let u : p ≡ l = eqb-true p l c.0 in
      let v : q ≡ k = eqb-true q k c.1 in
      rw (u, v) (back_on ∙ sym there_on))
      (λ g.
      let c : p ≡ k → q ≢ l = λ u v. clash (and_both (eq-eqb p k u) (eq-eqb q l v)) f in
      let d : p ≡ l → q ≢ k = λ u v. clash (and_both (eq-eqb p l u) (eq-eqb q k v)) g in
      off p q hq c d ∙ s.both p q hp hq ∙ sym (off q p hp (λ u v. d v u) (λ u v. c v u))))

  -- an edge of two decisions is set, and a bit of each of their masks
  pub joined : (r t : ℕ) → r < 2 ^ 64 → t < 2 ^ 64 → Marked (get_or m k 0) l x r → Marked (get_or (set m k r) l 0) k x t
      → Shows n turned (set (set m k r) l t)
  joined r t fr ft wr wt =
      let half_masks : length (set m k r) ≡ 64 = length-set m k r ∙ s.long in
      record {
        long = length-set (set m k r) l t ∙ half_masks;
        edges_long = length-set (set e (64 * k + l) x) (64 * l + k) x ∙ half_long;
        fits = below_set (2 ^ 64) (set m k r) l t (omega arith) ft (below_set (2 ^ 64) m k r (omega (arith, s.long)) fr s.fits);
        bits = half (set e (64 * k + l) x) l k x half_long hl hk (set m k r) t half_masks (half e k l x s.edges_long hk hl m r s.long s.bits wr) wt;
        both = turned_both;
        none = λ i j hi hj h. off i j hj (λ u v. omega arith) (λ u v. omega arith) ∙ s.none i j hi hj h;
      }

-- an edge gains v
pub gained : (n : ℕ) (e : List ℤ) (m : List ℕ) → Shows n e m → (k l : ℕ) → k < n → l < n → k < 64 → l < 64 → (v x y : ℤ) → x ≡ edge_cell e k l +ℤ v → y ≡ edge_cell e l k +ℤ v
    → (r t : ℕ) → r < 2 ^ 64 → t < 2 ^ 64 → Marked (get_or m k 0) l x r → Marked (get_or (set m k r) l 0) k y t
    → Shows n (set (set e (64 * k + l) x) (64 * l + k) y) (set (set m k r) l t)
gained n e m s k l kn ln hk hl v x y p q r t fr ft wr wt =
    let same : x ≡ y = p ∙ ap (λ (z : ℤ). z +ℤ v) (s.both k l hk hl) ∙ sym q in
    subst (λ (z : ℤ). Shows n (set (set e (64 * k + l) x) (64 * l + k) z) (set (set m k r) l t)) same
    (joined n e m s k l kn ln hk hl x r t fr ft wr (subst (λ (z : ℤ). Marked (get_or (set m k r) l 0) k z t) (sym same) wt))
