-- What a block's elimination does to a plan: the reduced cost of a plan is the old cost of the plan with the members set to the winning mask, and so of the
-- plan grown back through the block's steps.
-- Assumes nothing.
use Rattle.std.specs.Prelude.{◌≡◌, Bool, true, cond, ℕ, suc, ◌-◌, ◌/◌, ◌^◌, ◌<◌, ◌≤◌, eqb, length, ℤ, ◌+ℤ◌}
use Rattle.std.proofs.Math.Path.{refl, sym, ap, ap₂}
use Rattle.std.proofs.Common.{◌∙◌, arith, pow-suc, pow_pos, div-one}
use mathlib.Core.List.{List, [], ◌∷◌}
use Rattle.whole.specs.Words.{mem, bit, bits_from}
use Rattle.rules.specs.Graph.{Graph}
use Rattle.rules.specs.SmallBlock.{boundary, inner, best_mask, drop_all, eliminate_block, members, find_block, block_steps}
use Rattle.cost_laws.specs.CostLaws.{cost, Shaped}
use Rattle.cost_laws.specs.EliminateLaws.{mask_at}
use Rattle.whole.specs.Pigeon.{Apart}
use Rattle.whole.specs.Tests.{clash, refuse}
use Rattle.whole.specs.Members.{in_tail}
use Rattle.std.proofs.Math.Nat.{div-div-eq-div-mul}
use Rattle.cost_laws.specs.BlockCost.{put, put_other, mask_ext, mask_below, boundary_outside, cost_ext, cheapest_in, gone_cost, drop_all_gone, mask_put, absorbed, parted, settled}
use Rattle.cost_laws.specs.Found.{found_block}
use Rattle.cost_laws.specs.BlockSteps.{choice_is, played_back}

-- of any different decisions whose boundary has at most two
module _ (g : Graph) (b : List ℕ) (s : Shaped g) (a : Apart g.n b) (l : length (boundary g b) ≤ 2) where
  -- the reduced cost of a plan is the old cost of the plan so settled
  pub block_plan : (x : ℕ → Bool) → cost (eliminate_block b g) x ≡ cost g (settled g b s a l x)
  block_plan x =
      let m = best_mask g b (mask_at x (boundary g b)) in
      let small : m < 2 ^ length b = omega (arith, cheapest_in (inner g (boundary g b) (mask_at x (boundary g b)) b) (2 ^ length b - 1), pow_pos (length b)) in
      let same : mask_at (settled g b s a l x) (boundary g b) ≡ mask_at x (boundary g b) = mask_ext (settled g b s a l x) x (boundary g b) (λ k t. put_other b m x k (boundary_outside g b k t)) in
      absorbed g b s a l x
      ∙ ap₂ (λ (u v : ℤ). u +ℤ v)
      (gone_cost (drop_all b g) x (settled g b s a l x) b (λ k t. drop_all_gone b g k s a t) (λ k t. sym (put_other b m x k t)))
      (sym (ap₂ (λ (f r : ℕ). inner g (boundary g b) f b r) same (mask_put x m a small)))
      ∙ sym (parted g b s a l (settled g b s a l x))

-- of what the search for a block returns
module _ (g : Graph) (b : List ℕ) (s : Shaped g) (e : find_block g ≡ members b) where
  -- demand 3 of a block step: the reduced cost is a cost of the graph before
  pub found_plan : (x : ℕ → Bool) → cost (eliminate_block b g) x ≡ cost g (put b (best_mask g b (mask_at x (boundary g b))) x)
  found_plan = block_plan g b s (found_block g b s e).apart (found_block g b s e).narrow

module _ (g : Graph) (b : List ℕ) (x : ℕ → Bool) where
  abbrev best : ℕ
  best = best_mask g b (mask_at x (boundary g b))

  next_half : (m p : ℕ) → m / 2 ^ p / 2 ≡ m / 2 ^ suc p
  next_half m p = div-div-eq-div-mul m (2 ^ p) 2 ∙ ap (λ (z : ℕ). m / z) (sym (pow-suc 2 p))

  played_put : (p : ℕ) (is : List ℕ) → ((k : ℕ) → mem k is ≡ true → mem k b ≡ true) → (k : ℕ) → played_back (block_steps g b p is) x k ≡ put is (best / 2 ^ p) x k
  unfolding played_back block_steps put
  played_put p [] h k = refl
  played_put p (i ∷ is) h k =
      let rest : (k : ℕ) → played_back (block_steps g b (suc p) is) x k ≡ put is (best / 2 ^ suc p) x k = played_put (suc p) is (λ k m. h k (in_tail k i is m)) in
      let same : mask_at (played_back (block_steps g b (suc p) is) x) (boundary g b) ≡ mask_at x (boundary g b) =
      mask_ext (played_back (block_steps g b (suc p) is) x) x (boundary g b)
      (λ j t. rest j ∙ put_other is (best / 2 ^ suc p) x j (refuse (mem j is) (λ q. clash (h j (in_tail j i is q)) (boundary_outside g b j t)))) in
      ap₂ (λ (c d : Bool). cond (eqb k i) c d)
      (ap (bit (bits_from (λ f. bit (best_mask g b f) p) 0 (2 ^ length (boundary g b)))) same
      ∙ choice_is (λ f. bit (best_mask g b f) p) (2 ^ length (boundary g b)) (mask_at x (boundary g b)) (mask_below x (boundary g b)))
      (rest k ∙ ap (λ (m : ℕ). put is m x k) (sym (next_half best p)))

  pub steps_settle : (k : ℕ) → played_back (block_steps g b 0 b) x k ≡ put b best x k
  steps_settle k = played_put 0 b (λ k m. m) k ∙ ap (λ (m : ℕ). put b m x k) (div-one best)

-- the reduced cost of a plan is the old cost of the plan grown back through the block's steps
pub block_grown_back : (g : Graph) (b : List ℕ) → Shaped g → find_block g ≡ members b → (x : ℕ → Bool)
    → cost (eliminate_block b g) x ≡ cost g (played_back (block_steps g b 0 b) x)
block_grown_back g b s e x =
    found_plan g b s e x ∙ cost_ext g (put b (best_mask g b (mask_at x (boundary g b))) x) (played_back (block_steps g b 0 b) x) (λ k. sym (steps_settle g b x k))
