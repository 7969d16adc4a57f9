-- The masks of a graph: its neighbours, and the boundary of a block.
-- Assumes nothing.
use Rattle.std.specs.Prelude.{◌≡◌, refl, Bool, false, ◌&&◌, ◌||◌, List, [], ◌∷◌, ◌++◌, ◌-◌, eqb, ltb, get_or, ℤ, pos}
use Rattle.std.proofs.Math.Path.{sym, ap, ap₂, fun_ext}
use Rattle.std.proofs.Common.{◌∙◌, subst, arith, add-sub_of_le, lt-ltb, le-ltb}
use Rattle.std.proofs.Math.Bool.{not, and-false, and_comm, or-false, or_assoc}
use Prim.Native.Nat.{ℕ, ◌^◌, ◌<◌, ◌≤◌}
use Rattle.std.proofs.Math.Decide.{dec_lt}
use Rattle.std.specs.Int.Bits.{bit_or}
use Rattle.std.proofs.Math.ListN.{get_or-eq_default}
use Rattle.whole.specs.Words.{bit, mem, some, from, upto, those}
use Rattle.whole.specs.Members.{mem_append, some_none, upto_in}
use Rattle.whole.specs.Masks.{these, without, bit_less, bit_or_lem, bit_single, bit_none, those_ext}
use Rattle.whole.specs.Those.{those_upto}
use Rattle.rules.specs.Graph.{Graph, graph, edge, active, actives, neighbours}
use Rattle.rules.specs.SmallBlock.{boundary, search, find_block}
use Rattle.cost_laws.specs.Growth.{Network}
use Rattle.graph.specs.NearLaws.{there}
use Rattle.graph.specs.Shows.{Shows}
use Rattle.graph.specs.ShowsLaws.{edge_cell, is_edge, these_upto}
use Rattle.small_block.specs.ByMasks.{near_by}

-- ---- the neighbours
module _ {n : ℕ} {e : List ℤ} {masks : List ℕ} (w : Shows n e masks) where
  -- past the last decision there is no mask and no edge
  bits_any : (i j : ℕ) → j < 64 → bit (get_or masks i 0) j ≡ is_edge (edge_cell e i j)
  bits_any i j b = go (dec_lt i 64)
    where
      go : Dec (i < 64) → bit (get_or masks i 0) j ≡ is_edge (edge_cell e i j)
      go (yes l) = w.bits i j l b
      go (no l) =
          ap (λ (z : ℕ). bit z j) (get_or-eq_default masks 0 (omega (arith, w.long))) ∙ bit_none j
          ∙ sym (ap is_edge (get_or-eq_default e (pos 0) (omega (arith, w.edges_long))))

  none_any : (i j : ℕ) → j < 64 → n ≤ j → is_edge (edge_cell e i j) ≡ false
  none_any i j b h = go (dec_lt i 64)
    where
      go : Dec (i < 64) → is_edge (edge_cell e i j) ≡ false
      go (yes l) = ap is_edge (w.none i j l b h)
      go (no l) = ap is_edge (get_or-eq_default e (pos 0) (omega (arith, w.edges_long)))

  module _ (few : n ≤ 64) (c : ℤ) (l : List ℤ) (ss : List ℕ) where
    pub near_shown : near_by masks ≡ neighbours (graph n c l e ss)
    unfolding neighbours
    near_shown = fun_ext (λ i. these_upto (there e i) (get_or masks i 0) n few (bits_any i) (none_any i))

    -- what the search asks of the masks
    pub network_shown : Network 64 (neighbours (graph n c l e ss)) → Network 64 (near_by masks)
    network_shown net = subst (λ (near : ℕ → List ℕ). Network 64 near) (sym near_shown) net

-- ---- the graph's own
everyone : these 18446744073709551615 ≡ upto 64
unfolding these those from
everyone = refl

module _ (g : Graph) (few : g.n ≤ 64) where
  -- the active decisions, as those of everyone
  pub active_shown : (m : ℕ) → these m ≡ those (λ k. ltb k g.n && active g k) (these 18446744073709551615) → these m ≡ actives g
  unfolding actives
  active_shown m e =
      e ∙ ap (those inside) everyone
      ∙ ap (λ (c : ℕ). those inside (upto c)) (sym (add-sub_of_le few))
      ∙ those_upto inside g.n (64 - g.n) (λ k a b. ap (λ (t : Bool). t && active g k) (le-ltb k g.n a))
      ∙ those_ext inside (λ k. active g k) (upto g.n) (λ k m. ap (λ (t : Bool). t && active g k) (lt-ltb k g.n (upto_in k g.n m)))
    where
      inside : ℕ → Bool
      inside k = ltb k g.n && active g k

  module _ {masks : List ℕ} (w : Shows g.n g.edges masks) where
    -- what the search asks of the masks
    pub network_of : Network 64 (neighbours g) → Network 64 (near_by masks)
    network_of net = network_shown w few g.constant g.linear g.states net

    -- and what it finds
    pub search_of : (m : ℕ) → these m ≡ actives g → search (near_by masks) (these m) ≡ find_block g
    unfolding find_block
    search_of m e = ap₂ (λ (near : ℕ → List ℕ) (live : List ℕ). search near live) (near_shown w few g.constant g.linear g.states) e

-- ---- the boundary
-- what the members passed so far join, and the members themselves
pub record Around (masks passed : List ℕ) (joined own : ℕ) : Type 0 where
  pub joins : (k : ℕ) → k < 64 → bit joined k ≡ some (λ i. bit (get_or masks i 0) k) passed
  pub holds : (k : ℕ) → k < 64 → bit own k ≡ mem k passed

pub around_none : (masks : List ℕ) → Around masks [] 0 0
unfolding some mem
around_none masks = record { joins = λ k b. bit_none k; holds = λ k b. bit_none k }

some_more : (p : ℕ → Bool) (xs : List ℕ) (i : ℕ) → some p (xs ++ i ∷ []) ≡ (some p xs || p i)
unfolding some
some_more p [] i = or-false (p i)
some_more p (x ∷ xs) i = ap (λ (b : Bool). p x || b) (some_more p xs i) ∙ sym (or_assoc (p x) (some p xs) (p i))

module _ {masks passed : List ℕ} {joined own : ℕ} (w : Around masks passed joined own) where
  pub around_more : (i row one : ℕ) → row ≡ get_or masks i 0 → one ≡ 2 ^ i → Around masks (passed ++ i ∷ []) (bit_or joined row) (bit_or own one)
  unfolding mem
  around_more i row one e o = record {
    joins = λ k b. bit_or_lem joined row k ∙ ap₂ (λ (x y : Bool). x || y) (w.joins k b) (ap (λ (z : ℕ). bit z k) e) ∙ sym (some_more (λ i. bit (get_or masks i 0) k) passed i);
    holds = λ k b. bit_or_lem own one k ∙ ap₂ (λ (x y : Bool). x || y) (w.holds k b) (ap (λ (z : ℕ). bit z k) o ∙ bit_single i k ∙ sym (or-false (eqb k i))) ∙ sym (mem_append k passed (i ∷ []));
  }

  pub around_boundary : (g : Graph) → g.n ≤ 64 → Shows g.n g.edges masks → these (without joined own) ≡ boundary g passed
  unfolding boundary
  around_boundary g few s =
      these_upto (λ j. not (mem j passed) && some (λ i. is_edge (edge g i j)) passed) (without joined own) g.n few
      (λ k b. bit_less joined own k
      ∙ ap₂ (λ (x y : Bool). x && not y) (w.joins k b ∙ ap (λ (p : ℕ → Bool). some p passed) (fun_ext (λ i. bits_any s i k b))) (w.holds k b)
      ∙ and_comm (some (λ i. is_edge (edge g i k)) passed) (not (mem k passed)))
      (λ k b h. ap (λ (x : Bool). not (mem k passed) && x) (some_none (λ i. is_edge (edge g i k)) passed (λ i m. none_any s i k b h)) ∙ and-false (not (mem k passed)))
