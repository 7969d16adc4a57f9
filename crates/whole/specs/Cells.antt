-- The cell in row i and column j of a list that holds rows of 64.
-- Assumes nothing.
use Rattle.std.specs.Prelude.{◌≡◌, refl, List, [], ◌∷◌, ◌≢◌, ℕ, zero, suc, ◌+◌, ◌*◌, ◌/◌, ◌%◌, ◌<◌, get_or, set}
use Rattle.std.proofs.Common.{◌∙◌, arith, get_or-set_other}

-- a place has one row and one column
pub row_of : (i j k l : ℕ) → j < 64 → l < 64 → 64 * i + j ≡ 64 * k + l → i ≡ k
row_of i j k l p q e = omega arith

pub col_of : (i j k l : ℕ) → j < 64 → l < 64 → 64 * i + j ≡ 64 * k + l → j ≡ l
col_of i j k l p q e = omega arith

pub row_at : (a b : ℕ) → b < 64 → (64 * a + b) / 64 ≡ a
row_at a b h = omega arith

pub column_at : (a b : ℕ) → b < 64 → (64 * a + b) % 64 ≡ b
column_at a b h = omega arith

-- a place that a store leaves, or makes x, holds x if it did
pub still_set : {A : Type 0} (z x : A) (e : List A) (k p : ℕ) → get_or e p z ≡ x → get_or (set e k x) p z ≡ x
still_set z x [] k p h = h
still_set z x (y ∷ e) zero zero h = refl
still_set z x (y ∷ e) zero (suc p) h = h
still_set z x (y ∷ e) (suc k) zero h = h
still_set z x (y ∷ e) (suc k) (suc p) h = still_set z x e k p h

-- a cell that is set changes no other
pub cell_other : {A : Type 0} (e : List A) (z : A) (k l p q : ℕ) (x : A) → l < 64 → q < 64 → (p ≡ k → q ≢ l) → get_or (set e (64 * k + l) x) (64 * p + q) z ≡ get_or e (64 * p + q) z
cell_other e z k l p q x hl hq d = get_or-set_other e (64 * k + l) (64 * p + q) x z (λ t. d (row_of p q k l hq hl t) (col_of p q k l hq hl t))

-- nor do a cell and the one across from it
pub cells_other : {A : Type 0} (e : List A) (z : A) (k l p q : ℕ) (x y : A) → k < 64 → l < 64 → q < 64 → (p ≡ k → q ≢ l) → (p ≡ l → q ≢ k) → get_or (set (set e (64 * k + l) x) (64 * l + k) y) (64 * p + q) z ≡ get_or e (64 * p + q) z
cells_other e z k l p q x y hk hl hq c d = cell_other (set e (64 * k + l) x) z l k p q y hk hq d ∙ cell_other e z k l p q x hl hq c
