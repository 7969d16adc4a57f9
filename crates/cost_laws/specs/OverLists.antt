-- Sums over lists of decisions.
-- Assumes nothing.
use Rattle.std.specs.Prelude.{◌≡◌, refl, Bool, true, false, cond, List, [], ◌∷◌, ◌++◌, ℕ, ◌<◌, eqb, ℤ, pos, ◌+ℤ◌}
use Rattle.std.proofs.Common.{sym, ap, ap₂, ◌∙◌}
use Rattle.std.proofs.Math.IntN.{+ℤ_idl, +ℤ_assoc}
use Rattle.std.proofs.lemmas.Bool.{eqb-false}
use Rattle.whole.specs.Words.{mem}
use Rattle.whole.specs.Tests.{cases}
use Rattle.whole.specs.Pigeon.{Apart, none, one}
use Rattle.whole.specs.Members.{in_head, in_tail, out_of_cons, differ}
use Rattle.whole.specs.Sum.{Σ<, but, but_other, Σ_split}
use Rattle.cost_laws.specs.Cost.{sum_zero}
use Rattle.cost_laws.specs.EliminateLaws.{sum_over}

pub over_append : (F : ℕ → ℤ) (xs ys : List ℕ) → sum_over F (xs ++ ys) ≡ sum_over F xs +ℤ sum_over F ys
unfolding sum_over
over_append F [] ys = sym (+ℤ_idl (sum_over F ys))
over_append F (x ∷ xs) ys = ap (λ (z : ℤ). F x +ℤ z) (over_append F xs ys) ∙ sym (+ℤ_assoc (F x) (sum_over F xs) (sum_over F ys))

pub over_ext : (F G : ℕ → ℤ) (xs : List ℕ) → ((k : ℕ) → mem k xs ≡ true → F k ≡ G k) → sum_over F xs ≡ sum_over G xs
unfolding sum_over
over_ext F G [] h = refl
over_ext F G (x ∷ xs) h = ap₂ (λ (a b : ℤ). a +ℤ b) (h x (in_head x xs)) (over_ext F G xs (λ k m. h k (in_tail k x xs m)))

over_all_of : (n : ℕ) (F : ℕ → ℤ) {xs : List ℕ} → Apart n xs → ((j : ℕ) → j < n → mem j xs ≡ false → F j ≡ pos 0) → sum_over F xs ≡ Σ< n F
unfolding sum_over mem
over_all_of n F none h = sym (sum_zero F n (λ j l. h j l refl))
over_all_of n F (one {x = x} {xs = xs} l m a) h =
    ap (λ (z : ℤ). F x +ℤ z)
    (over_ext F (but x F) xs (λ k t. sym (but_other x F k (differ xs t m)))
    ∙ over_all_of n (but x F) a (λ j b t. cases (eqb j x)
    (λ e. ap (λ (c : Bool). cond c (pos 0) (F j)) e)
    (λ e. but_other x F j (eqb-false j x e) ∙ h j b (out_of_cons j x xs (eqb-false j x e) t))))
    ∙ sym (Σ_split n x F l)

-- the sum over all is the sum over different decisions, where every other one has 0
pub over_all : (F : ℕ → ℤ) (n : ℕ) {xs : List ℕ} → Apart n xs → ((j : ℕ) → j < n → mem j xs ≡ false → F j ≡ pos 0) → sum_over F xs ≡ Σ< n F
over_all F n a h = over_all_of n F a h
