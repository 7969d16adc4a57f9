-- The edges of a decision that has gone are given to another, turn by turn.
use Rattle.std.specs.Prelude.{◌≡◌, refl, Bool, true, false, cond, List, [], ◌∷◌, ◌≢◌, ℕ, ◌+◌, ◌*◌, ◌^◌, ◌<◌, ◌≤◌, eqb, get_or, ℤ, pos, neg_ℤ, ◌+ℤ◌, ◌-ℤ◌}
use Rattle.std.specs.Int.{w64}
use Rattle.std.proofs.Common.{SFits, of_z, to_z, sym, ap, ◌∙◌, subst, arith, get_or-set_other, eq-eqb, ne_eqb, true≢false}
use Rattle.whole.specs.Parts.{∣◌∣}
use Rattle.whole.specs.Ints.{ints, rd}
use Rattle.whole.specs.Words.{mem, tab}
use Rattle.whole.specs.Lists.{tab_at}
use Rattle.whole.specs.Cells.{cells_other}
use Rattle.whole.specs.Different.{Apart}
use Rattle.whole.specs.Members.{in_head, in_tail, apart_new}
use Rattle.whole.specs.Masks.{these, these_below, these_apart}
use Rattle.whole.specs.Fits.{fit, read, sum_fits}
use Rattle.size_laws.specs.Sizes.{neg_size}
use Rattle.rules.specs.Graph.{Graph, lin, edge, neighbours, add_constant, add_linear, add_edge, drop_to}
use Rattle.rules.specs.Eliminate.{step}
use Rattle.rules.specs.Record.{hold}
use Rattle.rules.specs.declared.Step as held_step
use Rattle.rules.specs.DominantEdge.{positive, turn, move, contract, contract_step}
use Rattle.rules.specs.Size.{Within}
use Rattle.graph.specs.NearLaws.{mem_inside}
use Rattle.graph.specs.Small.{dropped_within}
use Rattle.accepted_laws.specs.Small.{Small, small_tab}
use Rattle.dominant_edge.specs.Answer.{WasNear, given, Gives}

-- what one neighbour is given
abbrev pub gift : Bool → ℕ → ℕ → ℤ → Graph → Graph
gift turned j t w g = cond turned (add_edge j t (neg_ℤ w) (add_linear t w g)) (add_edge j t w g)

module _ (old : Graph) (i j : ℕ) where
  pub given_cons : (turned : Bool) (t : ℕ) (js : List ℕ) (g : Graph) → given turned old i j (t ∷ js) g ≡ given turned old i j js (cond (eqb t j) g (gift turned j t (edge old i t) g))
  unfolding turn move
  given_cons true t js g = refl
  given_cons false t js g = refl

  pub given_none : (turned : Bool) (js : List ℕ) (g : Graph) → js ≡ [] → given turned old i j js g ≡ g
  unfolding turn move
  given_none true js g e = ap (λ (ks : List ℕ). turn old i j ks g) e
  given_none false js g e = ap (λ (ks : List ℕ). move old i j ks g) e

-- ---- what a gift leaves as it was
module _ (turned : Bool) (j t : ℕ) (w : ℤ) (g : Graph) where
  pub gift_n : (gift turned j t w g).n ≡ g.n
  unfolding add_edge add_linear
  gift_n = by turned
    where
      by : (b : Bool) → (gift b j t w g).n ≡ g.n
      by true = refl
      by false = refl

  pub gift_weight : (k : ℕ) → k ≢ t → lin (gift turned j t w g) k ≡ lin g k
  unfolding add_edge add_linear
  gift_weight k d = by turned
    where
      by : (b : Bool) → lin (gift b j t w g) k ≡ lin g k
      by true = get_or-set_other g.linear t k (lin g t +ℤ w) (pos 0) d
      by false = refl

  pub gift_edge : j < 64 → t < 64 → t ≢ j → (k : ℕ) → k < 64 → k ≢ t → edge (gift turned j t w g) j k ≡ edge g j k
  unfolding add_edge add_linear
  gift_edge hj ht d k hk e = by turned
    where
      by : (b : Bool) → edge (gift b j t w g) j k ≡ edge g j k
      by true = cells_other g.edges (pos 0) j t j k _ _ hj ht hk (λ x. e) (λ x. absurd (d (sym x)))
      by false = cells_other g.edges (pos 0) j t j k _ _ hj ht hk (λ x. e) (λ x. absurd (d (sym x)))

-- ---- what the walk keeps, where those of the mask `rest` are left: they are of the mask m, and neither their weights nor their edges to j have changed
pub record Keeps (turned : Bool) (row : List ℤ) (m j : ℕ) (g₀ : Graph) (rest : ℕ) (g : Graph) : Type 0 where
  pub among : (t : ℕ) → mem t (these rest) ≡ true → mem t (these m) ≡ true
  pub as_many : g.n ≡ g₀.n
  pub weights : (t : ℕ) → mem t (these rest) ≡ true → lin g t ≡ lin g₀ t
  pub edges : (t : ℕ) → mem t (these rest) ≡ true → edge g j t ≡ edge g₀ j t
  pub walk : (old : Graph) (i : ℕ) → WasNear row m old i → given turned old i j (these rest) g ≡ given turned old i j (these m) g₀

-- a turn, at the lowest decision that is left
module _ {turned : Bool} {row : List ℤ} {m j : ℕ} {g₀ : Graph} {rest : ℕ} {g : Graph} (k : Keeps turned row m j g₀ rest g) (t left : ℕ) (step : these rest ≡ t ∷ these left) where
  pub at_in : mem t (these rest) ≡ true
  at_in = ap (mem t) step ∙ in_head t (these left)

  pub at_low : t < 64
  at_low = these_below rest t at_in

  still : (u : ℕ) → mem u (these left) ≡ true → mem u (these rest) ≡ true
  still u h = ap (mem u) step ∙ in_tail u t (these left) h

  other : (u : ℕ) → mem u (these left) ≡ true → u ≢ t
  other u h e = true≢false (sym h ∙ ap (λ (x : ℕ). mem x (these left)) e ∙ apart_new (subst (Apart 64) step (these_apart rest)))

  next : (b : Bool) → eqb t j ≡ b → (old : Graph) (i : ℕ) → WasNear row m old i → given turned old i j (these rest) g ≡ given turned old i j (these left) (cond b g (gift turned j t (get_or row t (pos 0)) g))
  next b e old i near =
      ap (λ (js : List ℕ). given turned old i j js g) step ∙ given_cons old i j turned t (these left) g
      ∙ ap (λ (c : Bool). given turned old i j (these left) (cond c g (gift turned j t (edge old i t) g))) e
      ∙ ap (λ (v : ℤ). given turned old i j (these left) (cond b g (gift turned j t v g))) (sym (near.weights t (k.among t at_in)))

  -- j itself is passed by
  pub keeps_same : t ≡ j → Keeps turned row m j g₀ left g
  keeps_same e = record {
    among = λ u h. k.among u (still u h);
    as_many = k.as_many;
    weights = λ u h. k.weights u (still u h);
    edges = λ u h. k.edges u (still u h);
    walk = λ old i near. sym (next true (eq-eqb t j e) old i near) ∙ k.walk old i near;
  }

  pub keeps_gift : j < 64 → t ≢ j → (g' : Graph) → g' ≡ gift turned j t (get_or row t (pos 0)) g → Keeps turned row m j g₀ left g'
  keeps_gift low d g' is =
      let w = get_or row t (pos 0) in
      subst (λ (x : Graph). Keeps turned row m j g₀ left x) (sym is) (record {
        among = λ u h. k.among u (still u h);
        as_many = gift_n turned j t w g ∙ k.as_many;
        weights = λ u h. gift_weight turned j t w g u (other u h) ∙ k.weights u (still u h);
        edges = λ u h. gift_edge turned j t w g low at_low d u (these_below left u h) (other u h) ∙ k.edges u (still u h);
        walk = λ old i near. sym (next false (ne_eqb t j d) old i near) ∙ k.walk old i near;
      })

  -- the weight and the edge to j that gain something small
  pub weight_fits : (v : ℤ) → ∣ lin g₀ t ∣ ≤ 1099511627776 → ∣ v ∣ ≤ 2199023255552 → SFits w64 (lin g t +ℤ v)
  weight_fits v h l = subst (λ (x : ℤ). SFits w64 (x +ℤ v)) (sym (k.weights t at_in)) (sum_fits (lin g₀ t) v (omega arith) (omega arith))

  pub edge_fits : (v : ℤ) → Small 2199023255552 g₀.edges → ∣ v ∣ ≤ 2199023255552 → SFits w64 (edge g j t +ℤ v)
  edge_fits v s l = subst (λ (x : ℤ). SFits w64 (x +ℤ v)) (sym (k.edges t at_in)) (sum_fits (edge g₀ j t) v (omega (arith, s.each (64 * j + t))) (omega arith))

pub keeps_end : {turned : Bool} {row : List ℤ} {m j : ℕ} {g₀ : Graph} {rest : ℕ} {g : Graph} → Keeps turned row m j g₀ rest g → these rest ≡ [] → Gives turned row m j g₀ g
keeps_end {turned} {row} {m} {j} {g₀} {rest} {g} k none old i near =
    sym (given_none old i j turned (these rest) g none) ∙ k.walk old i near ∙ ap (λ (js : List ℕ). given turned old i j js g₀) near.around

-- a weight's negative, kept and read back
module _ (w : ℤ) (h : ∣ w ∣ ≤ 2 ^ 59) where
  minus_is : pos 0 -ℤ to_z w64 (of_z w64 w) ≡ neg_ℤ w
  minus_is = rw (read w (omega arith)) (simp ints (omega arith))

  pub minus_fits : SFits w64 (pos 0 -ℤ to_z w64 (of_z w64 w))
  minus_fits = rw minus_is (fit (neg_ℤ w) (omega (arith, neg_size w h)))

  pub minus : to_z w64 (of_z w64 (pos 0 -ℤ to_z w64 (of_z w64 w))) ≡ neg_ℤ w
  minus = rd minus_fits ∙ minus_is

-- ---- the row of the decision, copied before it goes
module _ (g : Graph) (i : ℕ) (row : List ℤ) (r : row ≡ tab (λ j. edge g i j) 64) where
  pub row_small : {b : ℕ} → ((k : ℕ) → ∣ get_or g.edges k (pos 0) ∣ ≤ b) → Small b row
  row_small {b} h = subst (Small b) (sym r) (small_tab {b = b} (λ j. edge g i j) 64 (λ j. h (64 * i + j)))

  pub row_gone : (m : ℕ) → these m ≡ neighbours g i → WasNear row m g i
  row_gone m s = record {
    around = s;
    weights = λ t q. ap (λ (x : List ℤ). get_or x t (pos 0)) r ∙ tab_at (λ j. edge g i j) 64 t (pos 0) (these_below m t q);
  }

-- what is left when i is dropped, whatever its constant
module _ (g : Graph) (i : ℕ) where
  pub record Left (d : Graph) : Type 0 where
    pub as_many : d.n ≡ g.n
    pub linear : d.linear ≡ (drop_to 3 i g).linear
    pub edges : d.edges ≡ (drop_to 3 i g).edges

  pub left_dropped : (d : Graph) → d ≡ drop_to 3 i g → Left d
  unfolding drop_to
  left_dropped d e = rw e (record { as_many = refl; linear = refl; edges = refl })

  pub left_constant : (v : ℤ) (d x : Graph) → Left d → x ≡ add_constant v d → Left x
  unfolding add_constant
  left_constant v d x l e = rw e (record { as_many = l.as_many; linear = l.linear; edges = l.edges })

  -- j then gains v, and is given i's edges
  module _ (j : ℕ) (s : Within g) (d : Graph) (l : Left d) (v : ℤ) where
    within : Within (drop_to 3 i g)
    within = dropped_within 3 i g (drop_to 3 i g) refl s

    weight_small : (k : ℕ) → ∣ lin d k ∣ ≤ 1099511627776
    weight_small k = omega (arith, ap (λ (x : List ℤ). ∣ get_or x k (pos 0) ∣) l.linear, within.linear k)

    pub gain_fits : ∣ v ∣ ≤ 4398046511104 → SFits w64 (lin d j +ℤ v)
    gain_fits h = sum_fits (lin d j) v (omega (arith, weight_small j)) (omega arith)

    module _ (x : Graph) (is : x ≡ add_linear j v d) where
      gained_n : x.n ≡ g.n
      unfolding add_linear
      gained_n = ap (λ (y : Graph). y.n) is ∙ l.as_many

      gained_other : (k : ℕ) → k ≢ j → ∣ lin x k ∣ ≤ 1099511627776
      unfolding add_linear
      gained_other k n = omega (arith, ap (λ (y : Graph). ∣ lin y k ∣) is, ap ∣◌∣ (get_or-set_other d.linear j k (lin d j +ℤ v) (pos 0) n), weight_small k)

      gained_edges : Small 2199023255552 x.edges
      unfolding add_linear
      gained_edges = subst (Small 2199023255552) (sym (ap (λ (y : Graph). y.edges) is ∙ l.edges)) (record { each = within.edges })

      pub ready : (m : ℕ) (row : List ℤ) → j < 64 → j < g.n → these m ≡ neighbours g i → row ≡ tab (λ j. edge g i j) 64
          → (j < 64) × (j < x.n) × ((t : ℕ) → mem t (these m) ≡ true → t < x.n) × Small 2199023255552 row × ((t : ℕ) → t ≢ j → ∣ lin x t ∣ ≤ 1099511627776) × Small 2199023255552 x.edges
      ready m row low inside around r =
          (low, omega (arith, gained_n), λ t q. omega (arith, gained_n, mem_inside g i t (ap (mem t) (sym around) ∙ q)), row_small g i row r s.edges, gained_other, gained_edges)

-- ---- the whole substitution, from what the code's parts give
module _ (g : Graph) (i j : ℕ) where
  abbrev turned : Graph
  turned = turn g i j (neighbours g i) (add_linear j (neg_ℤ (lin g i)) (add_constant (lin g i) (drop_to 3 i g)))

  abbrev moved : Graph
  moved = move g i j (neighbours g i) (add_linear j (lin g i +ℤ edge g i j) (drop_to 3 i g))

  pub by_turning : (r : Graph) → positive g i j ≡ true → r ≡ turned → r ≡ contract i j g
  unfolding contract
  by_turning r q e = e ∙ sym (ap (λ (b : Bool). cond b turned moved) q)

  pub by_moving : (r : Graph) → positive g i j ≡ false → r ≡ moved → r ≡ contract i j g
  unfolding contract
  by_moving r q e = e ∙ sym (ap (λ (b : Bool). cond b turned moved) q)

  pub step_by : (t : Bool) (r : held_step.Step) → positive g i j ≡ t → r ≡ hold (step i (j ∷ []) (cond t 1 2)) → r ≡ hold (contract_step i j g)
  unfolding contract_step
  step_by t r q h = h ∙ sym (ap (λ (b : Bool). hold (step i (j ∷ []) (cond b 1 2))) q)
