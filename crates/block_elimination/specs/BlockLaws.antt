-- Laws of a block's minima, its steps and its drops.
-- Assumes nothing.
use Rattle.std.specs.Prelude.{◌≡◌, length, map, get_or, set, take, drop, replicate, ℤ, pos}
use Rattle.std.proofs.Math.Path.{refl, sym, ap, ap₂, fun_ext}
use Rattle.std.proofs.Math.Decide.{ℕ_discrete, dec_lt}
use Rattle.std.proofs.Common.{◌∙◌, subst, arith, add-one, add-zero, zero-add, drop-cons, get_or-set_same, get_or-set_other, pow_mono, length-drop, length-take-le}
use Rattle.std.proofs.lemmas.List.{map-append, nil_from_length}
use mathlib.Core.List.{List, [], ◌∷◌, ◌++◌, append_assoc}
use Prim.Native.Nat.{ℕ, zero, suc, ◌+◌, ◌-◌, ◌^◌, ◌<◌, ◌≤◌}
use Rattle.whole.specs.Parts.{∣◌∣}
use Rattle.whole.specs.Words.{bit, bits_from, tab}
use Rattle.whole.specs.Masks.{bit_none}
use Rattle.whole.specs.Lists.{tab_same, tab_front, replicate_at}
use Rattle.whole.specs.Counts.{shift}
use Rattle.whole.specs.Members.{apart_at}
use Rattle.whole.specs.Pigeon.{Apart}
use Rattle.rules.specs.declared.Step.{Step}
use Rattle.rules.specs.Graph.{Graph, drop_to}
use Rattle.rules.specs.Eliminate as rule
use Rattle.rules.specs.Record.{hold}
use Rattle.rules.specs.Size.{Within}
use Rattle.rules.specs.SmallBlock.{boundary, inner, cheapest, best_mask, block_table, drop_all, eliminate_block, block_steps}
use Rattle.cost_laws.specs.BlockCost.{boundary_apart}
use Rattle.cost_laws.specs.Found.{SmallBlock}
use Rattle.accepted_laws.specs.Small.{Small}
use Rattle.graph.specs.Small.{dropped_within}
use Rattle.low_degree.specs.AbsorbLaws.{absorb_same}
use Rattle.block_minima.specs.Weights.{weights, weights_inner, Listed, Minimum}
use Rattle.block_minima.specs.declared.Best.{Best}
use Rattle.block_elimination.specs.Block.{none, mask_at, cost_at, Lowest, member_step}

-- ---- the minima in turn
module _ (c : ℕ → ℕ → ℤ) (count : ℕ) where
  pub lowest_none : (b : Best) → b ≡ none → Lowest c count 0 (replicate 4 b)
  lowest_none b e = record { each = λ f l. absurd (omega arith); rest = λ f l. ap (λ (x : Best). get_or (replicate 4 x) f none) e ∙ replicate_at none 4 f }

  pub lowest_more : (f : ℕ) (won : List Best) (b : Best) → f < length won → Lowest c count f won → Minimum (c f) count b.mask b.cost → Lowest c count (f + 1) (set won f b)
  lowest_more f won b l w m = record { each = λ k h. go k h (ℕ_discrete k f); rest = λ k h. get_or-set_other won f k b none (λ e. omega arith) ∙ w.rest k (omega arith) }
    where
      go : (k : ℕ) → k < f + 1 → Dec (k ≡ f) → Minimum (c k) count (mask_at (set won f b) k) (cost_at (set won f b) k)
      go k h (yes e) = rw e (subst (λ (x : Best). Minimum (c f) count x.mask x.cost) (sym (get_or-set_same won f b none l)) m)
      go k h (no d) = subst (λ (x : Best). Minimum (c k) count x.mask x.cost) (sym (get_or-set_other won f k b none d)) (w.each k (omega arith))

-- ---- a graph's weights alone are within the size rule where it is, and the minima over them are its own
module _ (g : Graph) (l e : List ℤ) (p : l ≡ g.linear) (q : e ≡ g.edges) where
  pub weights_within : Within g → Within (weights l e)
  weights_within w = rw (p, q) (record { constant = omega arith; linear = w.linear; edges = w.edges })

  pub lowest_of_weights : (near b : List ℕ) (count size : ℕ) (won : List Best) → Lowest (λ f. inner (weights l e) near f b) count size won → Lowest (λ f. inner g near f b) count size won
  lowest_of_weights near b count size won w = subst (λ (c : ℕ → ℕ → ℤ). Lowest c count size won) (fun_ext (λ f. fun_ext (λ m. rw (p, q) (sym (weights_inner g near f b m))))) w

-- ---- the table of what they cost
abbrev pub table_of : List Best → List ℤ
table_of won = tab (cost_at won) 4 ++ replicate 4 (pos 0)

pub table_at : (won : List Best) (f : ℕ) → f < 4 → get_or (table_of won) f (pos 0) ≡ cost_at won f
unfolding tab
table_at won zero h = refl
table_at won (suc zero) h = refl
table_at won (suc (suc zero)) h = refl
table_at won (suc (suc (suc zero))) h = refl
table_at won (suc (suc (suc (suc f)))) h = absurd (omega arith)

table_rest : (won : List Best) (f : ℕ) → 4 ≤ f → get_or (table_of won) f (pos 0) ≡ pos 0
unfolding tab
table_rest won zero h = absurd (omega arith)
table_rest won (suc zero) h = absurd (omega arith)
table_rest won (suc (suc zero)) h = absurd (omega arith)
table_rest won (suc (suc (suc zero))) h = absurd (omega arith)
table_rest won (suc (suc (suc (suc f)))) h = replicate_at (pos 0) 4 f

module _ (c : ℕ → ℕ → ℤ) (count size : ℕ) (won : List Best) (w : Lowest c count size won) where
  cost_small : (f : ℕ) → ∣ cost_at won f ∣ ≤ 184717953466368
  cost_small f = go (dec_lt f size)
    where
      go : Dec (f < size) → ∣ cost_at won f ∣ ≤ 184717953466368
      go (yes l) = (w.each f l).bounded
      go (no d) = omega (arith, ap (λ (b : Best). ∣ b.cost ∣) (w.rest f (omega arith)))

  pub table_small : Small (2 ^ 50) (table_of won)
  table_small = record { each = at }
    where
      at : (f : ℕ) → ∣ get_or (table_of won) f (pos 0) ∣ ≤ 2 ^ 50
      at f = go (dec_lt f 4)
        where
          go : Dec (f < 4) → ∣ get_or (table_of won) f (pos 0) ∣ ≤ 2 ^ 50
          go (yes l) = omega (arith, ap ∣◌∣ (table_at won f l), cost_small f)
          go (no d) = omega (arith, ap ∣◌∣ (table_rest won f (omega arith)))

-- ---- a step as a record holds it
pub held_step : (i c d f s t : ℕ) (near : List ℕ) → d ≡ length near → f ≡ get_or near 0 0 → s ≡ get_or near 1 0 → t ≡ get_or near 2 0
    → ◌≡◌ {A = Step} (record { decision = i; degree = d; first = f; second = s; third = t; choices = c }) (hold (rule.step i near c))
held_step i c d f s t near p q r u = rw (p, q, r, u)

-- of two decisions the first w: that many, and never a third
pub pair_length : (a b w : ℕ) → w ≤ 2 → length (take w (a ∷ b ∷ [])) ≡ w
pair_length a b w h = length-take-le w (a ∷ b ∷ []) h

pub pair_third : (a b w : ℕ) → get_or (take w (a ∷ b ∷ [])) 2 0 ≡ 0
pair_third a b zero = refl
pair_third a b (suc zero) = refl
pair_third a b (suc (suc w)) = third w
  where
    third : (w : ℕ) → get_or (a ∷ b ∷ take w []) 2 0 ≡ 0
    third zero = refl
    third (suc w) = refl

-- ---- one more of a list, and one more step that is held
pub listed_more : {A : Type 0} (xs : List A) (f : ℕ → A) (k : ℕ) → (xs ++ tab f k) ++ f k ∷ [] ≡ xs ++ tab f (k + 1)
unfolding tab
listed_more xs f k = rw add-one (append_assoc xs (tab f k) (f k ∷ []))

pub held_more : (xs : List Step) (f : ℕ → rule.Step) (k : ℕ) → (xs ++ map hold (tab f k)) ++ hold (f k) ∷ [] ≡ xs ++ map hold (tab f (k + 1))
held_more xs f k =
    append_assoc xs (map hold (tab f k)) (hold (f k) ∷ []) ∙ ap (λ (ys : List Step). xs ++ ys) (sym (map-append hold (tab f k) (f k ∷ [])) ∙ ap (map hold) (listed_more [] f k))

-- ---- choices: past the last filling the mask is 0, and chooses 0
pub choices_from : (w k : ℕ) (m best : ℕ → ℕ) → w ≤ 2 → ((f : ℕ) → f < 2 ^ w → m f ≡ best f) → ((f : ℕ) → 2 ^ w ≤ f → m f ≡ 0)
    → bits_from (λ f. bit (m f) k) 0 4 ≡ bits_from (λ f. bit (best f) k) 0 (2 ^ w)
unfolding bits_from
choices_from zero k m best l h z = rw (h 0 (omega arith), z 1 (omega arith), z 2 (omega arith), z 3 (omega arith), bit_none k) (omega arith)
choices_from (suc zero) k m best l h z = rw (h 0 (omega arith), h 1 (omega arith), z 2 (omega arith), z 3 (omega arith), bit_none k) (omega arith)
choices_from (suc (suc zero)) k m best l h z = rw (h 0 (omega arith), h 1 (omega arith), h 2 (omega arith), h 3 (omega arith)) refl
choices_from (suc (suc (suc w))) k m best l h z = absurd (omega arith)

-- the same of a list of masks
pub choices_are : (best : ℕ → ℕ) (masks : List ℕ) (w k : ℕ) → w ≤ 2 → masks ≡ tab best (2 ^ w) ++ drop (2 ^ w) (replicate 4 0)
    → bits_from (λ f. bit (get_or masks f 0) k) 0 4 ≡ bits_from (λ f. bit (best f) k) 0 (2 ^ w)
unfolding tab bits_from
choices_are best masks zero k h e = rw (e, bit_none k) (omega arith)
choices_are best masks (suc zero) k h e = rw (e, bit_none k) (omega arith)
choices_are best masks (suc (suc zero)) k h e = rw e
choices_are best masks (suc (suc (suc w))) k h e = absurd (omega arith)

-- ---- the winning masks and what they cost are those of the rules
module _ (g : Graph) (b near : List ℕ) (is : near ≡ boundary g b) (size : ℕ) (won : List Best) (w : Lowest (λ f. inner g near f b) (length b) size won) where
  pub best_at : (f : ℕ) → f < size → mask_at won f ≡ best_mask g b f
  best_at f l = (w.each f l).lowest ∙ ap (λ (ns : List ℕ). cheapest (inner g ns f b) (2 ^ length b - 1)) is

  pub cost_is : (f : ℕ) → f < size → cost_at won f ≡ block_table g b f
  cost_is f l = (w.each f l).costs ∙ ap₂ (λ (ns : List ℕ) (m : ℕ). inner g ns f b m) is (best_at f l)

-- ---- the members' steps are those of the rules where the masks are, in whatever list the members stand first
module _ (g : Graph) (b near : List ℕ) (is : near ≡ boundary g b) (few : length near ≤ 2) (won : List Best) where
  abbrev step_at : ℕ → ℕ → rule.Step
  step_at k i = rule.step i (boundary g b) (bits_from (λ f. bit (best_mask g b f) k) 0 (2 ^ length (boundary g b)))

  steps_from_lem : (j : ℕ) (is : List ℕ) → block_steps g b j is ≡ tab (λ k. step_at (j + k) (get_or is k 0)) (length is)
  unfolding block_steps tab
  steps_from_lem j [] = refl
  steps_from_lem j (i ∷ is) =
      ap₂ (λ (k : ℕ) (t : List rule.Step). step_at k i ∷ t) (sym (add-zero j)) (steps_from_lem (suc j) is ∙ tab_same (λ k. step_at (suc j + k) (get_or is k 0)) (λ k. step_at (j + suc k) (get_or is k 0)) (length is) (λ k l. up k))
      ∙ sym (tab_front (λ k. step_at (j + k) (get_or (i ∷ is) k 0)) (length is))
    where
      up : (k : ℕ) → step_at (suc j + k) (get_or is k 0) ≡ step_at (j + suc k) (get_or is k 0)
      up k = ap (λ (m : ℕ). step_at m (get_or is k 0)) (shift j k)

  pub steps_by : (order : List ℕ) → ((f : ℕ) → f < 2 ^ length near → mask_at won f ≡ best_mask g b f) → ((f : ℕ) → 2 ^ length near ≤ f → mask_at won f ≡ 0)
      → ((k : ℕ) → k < length b → get_or order k 0 ≡ get_or b k 0) → tab (λ k. member_step near won k (get_or order k 0)) (length b) ≡ block_steps g b 0 b
  steps_by order best rest at =
      tab_same (λ k. member_step near won k (get_or order k 0)) (λ k. step_at (0 + k) (get_or b k 0)) (length b) (λ k l. same k (at k l))
      ∙ sym (steps_from_lem 0 b)
    where
      chosen : (k : ℕ) → bits_from (λ f. bit (mask_at won f) k) 0 4 ≡ bits_from (λ f. bit (best_mask g b f) k) 0 (2 ^ length (boundary g b))
      chosen k = choices_from (length near) k (mask_at won) (best_mask g b) few best rest ∙ ap (λ (ns : List ℕ). bits_from (λ f. bit (best_mask g b f) k) 0 (2 ^ length ns)) is

      same : (k : ℕ) → get_or order k 0 ≡ get_or b k 0 → member_step near won k (get_or order k 0) ≡ step_at (0 + k) (get_or b k 0)
      same k e =
          ap (member_step near won k) e ∙ ap₂ (λ (ns : List ℕ) (c : ℕ). rule.step (get_or b k 0) ns c) is (chosen k)
          ∙ ap (λ (m : ℕ). step_at m (get_or b k 0)) (sym (zero-add k))

-- ---- with the minima, the steps and the graph that is left are those of the rules
module _ (g : Graph) (b near : List ℕ) (is : near ≡ boundary g b) (few : length near ≤ 2) (won : List Best) (w : Lowest (λ f. inner g near f b) (length b) (2 ^ length near) won) where
  pub steps_are : tab (λ k. member_step near won k (get_or b k 0)) (length b) ≡ block_steps g b 0 b
  steps_are = steps_by g b near is few won b (best_at g b near is (2 ^ length near) won w) (λ f l. ap (λ (x : Best). x.mask) (w.rest f l)) (λ k l. refl)

  -- the graph that is left
  pub block_left : (h r : Graph) → h ≡ drop_all b g → r ≡ rule.absorb (λ f. get_or (table_of won) f (pos 0)) near h → r ≡ eliminate_block b g
  unfolding eliminate_block
  block_left h r e d =
      d
      ∙ ap₂ (λ (ns : List ℕ) (x : Graph). rule.absorb (λ f. get_or (table_of won) f (pos 0)) ns x) is e
      ∙ absorb_same (λ f. get_or (table_of won) f (pos 0)) (block_table g b) (boundary g b) (drop_all b g) (subst (λ (ns : List ℕ). length ns ≤ 2) is few)
      (λ f l. let m : f < 2 ^ length near = rw is l in table_at won f (omega (arith, pow_mono {j = 2} few)) ∙ cost_is g b near is (2 ^ length near) won w f m)

-- ---- what is dropped stays within the size rule, and has as many decisions
pub within_drop_all : (b : List ℕ) (g : Graph) → Within g → Within (drop_all b g)
unfolding drop_all
within_drop_all [] g w = w
within_drop_all (i ∷ is) g w = within_drop_all is (drop_to 3 i g) (dropped_within 3 i g (drop_to 3 i g) refl w)

pub drop_all_n : (b : List ℕ) (g : Graph) → (drop_all b g).n ≡ g.n
unfolding drop_all drop_to
drop_all_n [] g = refl
drop_all_n (i ∷ is) g = drop_all_n is (drop_to 3 i g)

-- ---- what each part of the elimination is owed
module _ (g : Graph) (small : g.n ≤ 64) (b : List ℕ) (w : SmallBlock g b) where
  pub members_listed : Listed b
  members_listed = record { few = w.eight; low = λ k l. omega (arith, apart_at g.n b k w.apart l) }

  module _ (near : List ℕ) (is : near ≡ boundary g b) where
    pub near_narrow : length near ≤ 2
    near_narrow = omega (arith, ap length is, w.narrow)

    near_inside : Apart g.n near
    near_inside = subst (Apart g.n) (sym is) (boundary_apart g b)

    pub near_listed : Listed near
    near_listed = record { few = omega (arith, near_narrow); low = λ k l. omega (arith, apart_at g.n near k near_inside l) }

    pub near_apart : (h : Graph) → h ≡ drop_all b g → Apart h.n near
    near_apart h e = subst (λ (n : ℕ). Apart n near) (sym (ap (λ (x : Graph). x.n) e ∙ drop_all_n b g)) near_inside

-- ---- dropping in turn
module _ (b : List ℕ) (k : ℕ) (g h : Graph) where
  pub drops_more : k < length b → h ≡ drop_to 3 (get_or b k 0) g → drop_all (drop k b) g ≡ drop_all (drop (k + 1) b) h
  unfolding drop_all
  drops_more l d = rw (add-one, drop-cons b k 0 l, d)

pub drops_none : (b : List ℕ) (k : ℕ) (g : Graph) → length b ≤ k → drop_all (drop k b) g ≡ g
unfolding drop_all
drops_none b k g h = ap (λ (js : List ℕ). drop_all js g) (nil_from_length (drop k b) (omega (arith, length-drop k b)))
