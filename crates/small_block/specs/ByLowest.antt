-- The loops of the search by a mask's lowest decision: it is taken, and the others are left.
-- Assumes nothing.
use Rattle.std.specs.Prelude.{◌≡◌, true, false, not, ◌&&◌, List, [], ◌∷◌, ◌≢◌, ℕ, ◌+◌, ◌-◌, ◌^◌, ◌<◌, leb, length, get_or, Option, Some, None}
use Rattle.std.proofs.Common.{sym, ap, ◌∙◌, arith}
use Rattle.std.proofs.Math.Decide.{ℕ_discrete}
use Rattle.std.specs.Int.Bits.{bit_and, bit_or, or_add_and, and_lt}
use Rattle.std.proofs.lemmas.Nat.{or_disjoint, or_lt}
use Rattle.std.specs.Int.Count.{count_trailing_zeros}
use Rattle.whole.specs.Words.{bit, mem, some}
use Rattle.whole.specs.Tests.{clash, and-true, off_not}
use Rattle.whole.specs.Masks.{these, without, bit_and_lem, bit_less, mem_these, these_below, these_end, first_in, turn}
use Rattle.rules.specs.SmallBlock.{Block, component, none, members, among, over_cuts, search}
use Rattle.cost_laws.specs.Growth.{Network}
use Rattle.small_block.specs.ByMasks.{near_by, block_of}
use Rattle.small_block.specs.Explored.{GrownAs}
use Rattle.small_block.specs.Reaching.{Reaching}
use Rattle.small_block.specs.Reaching as by
use Rattle.small_block.specs.Seeking.{Seeking, first_of, over_removed_lem}
use Rattle.small_block.specs.Seeking as sought

-- ---- which are reached
-- what a mask has besides those seen was not seen
less_apart : (a seen new : ℕ) → new ≡ without a seen → seen < 2 ^ 64 → new < 2 ^ 64 → bit_and seen new ≡ 0
less_apart a seen new is ls ln = go (ℕ_discrete (bit_and seen new) 0)
  where
    go : Dec (bit_and seen new ≡ 0) → bit_and seen new ≡ 0
    go (yes e) = e
    go (no n) =
        let k = count_trailing_zeros 64 (bit_and seen new) in
        let m = first_in (bit_and seen new) n (and_lt 64 seen new ls ln) in
        let p = and-true (bit seen k) (bit new k) (sym (bit_and_lem seen new k) ∙ sym (mem_these (bit_and seen new) k (these_below (bit_and seen new) k m)) ∙ m) in
        let q = and-true (bit a k) (not (bit seen k)) (sym (ap (λ (z : ℕ). bit z k) is ∙ bit_less a seen k) ∙ p.1) in
        absurd (clash p.0 (off_not (bit seen k) q.1))

module _ (masks : List ℕ) (net : Network 64 (near_by masks)) {aside : List ℕ} {u around seen todo left : ℕ} (lu : u < 64) (mu : mem u aside ≡ false)
    (out : (k : ℕ) → mem k (these around) ≡ true → mem k aside ≡ false) (w : Reaching (near_by masks) aside u around seen todo left) where
  -- nothing is left to go through, and some of them is not reached
  pub reach_stop : todo ≡ 0 → left ≢ 0 → left < 2 ^ 64 → true ≡ some (λ v. not (mem v (component (near_by masks) aside u))) (these around)
  reach_stop e d l = by.reach_stop masks net lu mu out w (these_end todo e) d l

  module _ (d : todo ≢ 0) (lt : todo < 2 ^ 64) (ls : seen < 2 ^ 64) where
    pub next_low : count_trailing_zeros 64 todo < 64
    next_low = (turn todo d lt).below

    -- new is what the mask has and is not seen
    module _ (new : ℕ) (is : new ≡ without (get_or masks (count_trailing_zeros 64 todo) 0) seen) where
      pub reach_turn : (left' : ℕ) → left' ≡ without left new → Reaching (near_by masks) aside u around (bit_or seen new) (bit_or (bit_and todo (todo - 1)) new) left'
      reach_turn left' el = by.reach_turn masks net lu mu out w (count_trailing_zeros 64 todo) (bit_and todo (todo - 1)) (turn todo d lt).parts new is left' el

      -- seen gains what is new, and it was not there
      module _ (new-low : new < 2 ^ 64) where
        pub seen_low : bit_or seen new < 2 ^ 64
        seen_low = or_lt 64 seen new ls new-low

        pub todo_low : bit_or (bit_and todo (todo - 1)) new < 2 ^ 64
        todo_low = or_lt 64 (bit_and todo (todo - 1)) new (turn todo d lt).smaller new-low

        -- what is not seen, and what is to do, as one number
        pub reach_less : 2 ^ 64 - bit_or seen new + bit_or (bit_and todo (todo - 1)) new < 2 ^ 64 - seen + todo
        reach_less = omega (arith, or_disjoint seen new (less_apart (get_or masks (count_trailing_zeros 64 todo) 0) seen new is ls new-low), or_add_and (bit_and todo (todo - 1)) new, (turn todo d lt).less, seen_low)

-- ---- a block, as the code has it
pub no_block : (found : Option (List ℕ)) → found ≡ None → block_of found ≡ none
no_block found e = ap block_of e

pub a_block : (found : Option (List ℕ)) (b : List ℕ) → found ≡ Some b → block_of found ≡ members b
a_block found b e = ap block_of e

-- ---- among the components
module _ {near : ℕ → List ℕ} {aside live : List ℕ} {rest seen : ℕ} (w : Seeking near aside live rest seen) where
  pub seek_none : rest ≡ 0 → none ≡ among near aside aside live
  seek_none e = sought.seek_none w (these_end rest e)

  module _ (d : rest ≢ 0) (h : rest < 2 ^ 64) where
    pub seek_skip : bit seen (count_trailing_zeros 64 rest) ≡ true → Seeking near aside live (bit_and rest (rest - 1)) seen
    seek_skip e = sought.seek_skip w (count_trailing_zeros 64 rest) (bit_and rest (rest - 1)) (turn rest d h).parts e

    module _ (e : bit seen (count_trailing_zeros 64 rest) ≡ false) where
      pub seek_free : mem (count_trailing_zeros 64 rest) aside ≡ false
      seek_free = sought.seek_free w (count_trailing_zeros 64 rest) (bit_and rest (rest - 1)) (turn rest d h).parts e

      module _ (found : List ℕ) (mask : ℕ) (g : GrownAs near aside (count_trailing_zeros 64 rest) found mask) where
        pub seek_found : (leb 2 (length found) && leb (length found) 8) ≡ true → block_of (Some found) ≡ among near aside aside live
        seek_found t = sought.seek_found w (count_trailing_zeros 64 rest) (bit_and rest (rest - 1)) (turn rest d h).parts e found mask g t

        pub seek_on : (leb 2 (length found) && leb (length found) 8) ≡ false → Seeking near aside live (bit_and rest (rest - 1)) (bit_or seen mask)
        seek_on t = sought.seek_on w (count_trailing_zeros 64 rest) (bit_and rest (rest - 1)) (turn rest d h).parts e found mask g t

-- ---- the first of some decisions for which there is a block
module _ (f : ℕ → Block) (rest : ℕ) where
  pub first_none : rest ≡ 0 → none ≡ first_of f (these rest)
  first_none e = sought.first_none f (these rest) (these_end rest e)

  module _ (d : rest ≢ 0) (h : rest < 2 ^ 64) (found : Option (List ℕ)) (is : block_of found ≡ f (count_trailing_zeros 64 rest)) where
    pub first_found : (b : List ℕ) → found ≡ Some b → block_of found ≡ first_of f (these rest)
    first_found b z = a_block found b z ∙ sought.first_found f (these rest) (count_trailing_zeros 64 rest) (these (bit_and rest (rest - 1))) (turn rest d h).parts b (sym (a_block found b z) ∙ is)

    pub first_on : found ≡ None → first_of f (these rest) ≡ first_of f (these (bit_and rest (rest - 1)))
    first_on z = sought.first_on f (these rest) (count_trailing_zeros 64 rest) (these (bit_and rest (rest - 1))) (turn rest d h).parts (sym (no_block found z) ∙ is)

-- ---- none removed first
module _ (near : ℕ → List ℕ) (live : List ℕ) (found : Option (List ℕ)) (is : block_of found ≡ over_cuts near live [] live) where
  pub search_found : (b : List ℕ) → found ≡ Some b → block_of found ≡ search near live
  unfolding search
  search_found b z = a_block found b z ∙ sym (rw (← is, a_block found b z))

  pub search_on : found ≡ None → search near live ≡ first_of (λ r. over_cuts near live (r ∷ []) live) live
  unfolding search
  search_on z = rw (← is, no_block found z) (over_removed_lem near live live)
