-- The table of masks is the rules' own, for every degree up to three.
-- Assumes nothing.
use Rattle.std.specs.Prelude.{◌≡◌, refl, Bool, cond, ℕ, zero, suc, ◌+◌, ◌*◌, ◌/◌, ◌^◌, ◌<◌, ◌≤◌, get_or, ℤ, pos, ◌+ℤ◌}
use Rattle.std.proofs.Math.Path.{ap}
use Rattle.std.proofs.Common.{ap₂, ◌∙◌, sym, subst, arith, SFits, to_z, of_z}
use mathlib.Core.List.{List, [], ◌∷◌}
use Rattle.std.proofs.Math.ListN.{length}
use Rattle.std.proofs.lemmas.List.{length-map}
use Rattle.std.proofs.Math.Pow.{pow_mono}
use Rattle.std.specs.Int.Signed.{lt_z}
use Rattle.std.specs.Int.{w64}
use Rattle.whole.specs.Parts.{∣◌∣}
use Rattle.whole.specs.Ints.{rd}
use Rattle.whole.specs.Fits.{read}
use Rattle.whole.specs.Cmp.{lt_ind}
use Rattle.whole.specs.Tests.{either_way}
use Rattle.whole.specs.Words.{tab, odd, chosen, bits_from, one_if, below0}
use Rattle.whole.specs.Lists.{tab_at, tab_same}
use Rattle.rules.specs.Graph.{Graph, lin, edge, neighbours, degree, row}
use Rattle.rules.specs.Eliminate.{delta, chooses, tee, step_of}
use Rattle.rules.specs.Record.{hold}
use Rattle.rules.specs.Size.{Within}
use Rattle.graph.specs.Near.{three, near_at}
use Rattle.graph.specs.NearLaws.{near_count, near_list, near_weights}
use Rattle.accepted_laws.specs.Small.{Small}
use Rattle.graph.specs.Small.{small_near}
use Rattle.graph.specs.declared.Near.{Near}
use Rattle.low_degree.specs.declared.Table.{Table}
use Rattle.low_degree.specs.Table.{deltas_of, tees_of, choice_bits, step_from, Tables}

-- the smaller of a weight and 0, kept and read back
pub read_below : (z r : ℤ) → SFits w64 z → r ≡ below0 (to_z w64 (of_z w64 z)) → to_z w64 (of_z w64 r) ≡ below0 z
read_below z r f e =
    let k : r ≡ below0 z = e ∙ ap (λ (x : ℤ). below0 x) (rd f) in
    rw k (lt_ind z (pos 0) (λ t. to_z w64 (of_z w64 (cond t z (pos 0))) ≡ cond t z (pos 0)) (λ h. rd f) (λ h. refl))

-- ---- over the degree: a missing neighbour's weight is 0
chosen_three : (ws : List ℤ) (m : ℕ) → length ws ≤ 3 → chosen (three ws (pos 0)) m ≡ chosen ws m
unfolding chosen
chosen_three [] m h = rw (either_way (odd m) (pos 0), either_way (odd (m / 2)) (pos 0), either_way (odd (m / 2 / 2)) (pos 0))
chosen_three (x ∷ []) m h = rw (either_way (odd (m / 2)) (pos 0), either_way (odd (m / 2 / 2)) (pos 0))
chosen_three (x ∷ y ∷ []) m h = rw (either_way (odd (m / 2 / 2)) (pos 0))
chosen_three (x ∷ y ∷ z ∷ []) m h = refl
chosen_three (x ∷ y ∷ z ∷ w ∷ ws) m h = absurd (omega arith)

three_same : (xs ys : List ℤ) → ((k : ℕ) → k < 3 → get_or xs k (pos 0) ≡ get_or ys k (pos 0)) → three xs (pos 0) ≡ three ys (pos 0)
three_same xs ys h = rw (h 0 (omega arith), h 1 (omega arith), h 2 (omega arith))

-- ---- lists and masks that are made by a rule
bits_alike : (f h : ℕ → Bool) (b c : ℕ) → ((m : ℕ) → m < b + c → f m ≡ h m) → bits_from f b c ≡ bits_from h b c
unfolding bits_from
bits_alike f h b zero e = refl
bits_alike f h b (suc c) e = ap₂ (λ (t : Bool) r. one_if t * 2 ^ b + r) (e b (omega arith)) (bits_alike f h (suc b) c (λ m l. e m (omega arith)))

module _ (g : Graph) (i : ℕ) (near : Near) (is : near ≡ near_at g i) (few : near.count ≤ 3) where
  pub degree_few : degree g i ≤ 3
  degree_few = omega (arith, near_count g i near is)

  row_few : length (row g i (neighbours g i)) ≤ 3
  row_few = omega (arith, degree_few, length-map (neighbours g i) (λ j. edge g i j))

  pub deltas_table : deltas_of (lin g i) near.weights ≡ tab (delta g i) 8
  unfolding deltas_of
  deltas_table = tab_same (λ m. lin g i +ℤ chosen (three near.weights (pos 0)) m) (delta g i) 8
      (λ m l. ap (λ (x : ℤ). lin g i +ℤ x) (ap (λ (ws : List ℤ). chosen ws m) (three_same near.weights (row g i (neighbours g i)) (near_weights g i near is)) ∙ chosen_three (row g i (neighbours g i)) m row_few))

  pub tees_table : tees_of (tab (delta g i) 8) ≡ tab (tee g i) 8
  unfolding tees_of
  tees_table = tab_same (λ m. below0 (get_or (tab (delta g i) 8) m (pos 0))) (tee g i) 8 (λ m l. ap (λ (x : ℤ). below0 x) (tab_at (delta g i) 8 m (pos 0) l))

  pub choices_table : (c : ℕ) → c ≤ 8 → choice_bits (tab (delta g i) 8) c ≡ bits_from (chooses g i) 0 c
  unfolding choice_bits
  choices_table c h = bits_alike (λ m. lt_z (get_or (tab (delta g i) 8) m (pos 0)) (pos 0)) (chooses g i) 0 c (λ m l. ap (λ (x : ℤ). lt_z x (pos 0)) (tab_at (delta g i) 8 m (pos 0) (omega arith)))

  pub step_table : step_from i near (tab (delta g i) 8) ≡ hold (step_of g i)
  unfolding step_from step_of
  step_table =
      let n = near_count g i near is in
      let p : 2 ^ length (neighbours g i) ≤ 8 = pow_mono {j = 3} degree_few in
      rw (n, near_list g i near is 0 (omega arith), near_list g i near is 1 (omega arith), near_list g i near is 2 (omega arith), choices_table (2 ^ length (neighbours g i)) p)

  -- the code's own copy of the weight, what making the table asks of it, and what it gives
  module _ (w : Within g) where
    weight : to_z w64 (of_z w64 (lin g i)) ≡ lin g i
    weight = read (lin g i) (omega (arith, w.linear i))

    pub table_asks : (∣ to_z w64 (of_z w64 (lin g i)) ∣ ≤ 1099511627776) × Small 2199023255552 near.weights × (near.count ≤ 3)
    table_asks = rw weight (w.linear i, subst (λ (x : Near). Small 2199023255552 x.weights) (sym is) (small_near g i (record { each = w.edges })), few)

    pub table_gives : (r : Table) → Tables r (to_z w64 (of_z w64 (lin g i))) near → (r.deltas ≡ tab (delta g i) 8) × (r.tees ≡ tab (tee g i) 8)
    table_gives r h = h g i weight is
