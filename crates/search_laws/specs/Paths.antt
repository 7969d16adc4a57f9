-- 01's paths and cuts, said without a way to find them.
-- Assumes nothing.
use Rattle.std.specs.Prelude.{◌≡◌, true, false, List, ◌∷◌, ℕ}
use Rattle.whole.specs.Words.{mem}

module _ (near : ℕ → List ℕ) where
  -- a path from s to a decision, from neighbour to neighbour, "that avoids" those set aside
  pub data PathFrom (aside : List ℕ) (s : ℕ) : ℕ → Type 0 where
    start : mem s aside ≡ false → PathFrom aside s s
    onward : {i k : ℕ} → PathFrom aside s i → mem k (near i) ≡ true → mem k aside ≡ false → PathFrom aside s k

  -- u is a neighbour of c, and not the removed one
  pub record OtherNeighbour (removed : List ℕ) (c u : ℕ) : Type 0 where
    pub neighbour : mem u (near c) ≡ true
    pub stays : mem u removed ≡ false

  -- "an active c other than the removed one is a cut when two of its neighbours, neither the removed one, have no path between them that avoids c and removed"
  pub record Parts (removed : List ℕ) (c : ℕ) : Type 0 where
    pub other : mem c removed ≡ false
    pub one : ℕ
    pub two : ℕ
    pub first : OtherNeighbour removed c one
    pub second : OtherNeighbour removed c two
    pub apart : PathFrom (c ∷ removed) one two → ⊥
