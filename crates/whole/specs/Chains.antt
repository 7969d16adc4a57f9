-- What `any` and `all` of an iterator give, in the rules' words.
-- Assumes nothing.
use Rattle.std.specs.Prelude.{◌≡◌, refl, Bool, true, false, ◌&&◌, ◌||◌, List, [], ◌∷◌, ℕ, zero, suc, ◌+◌, ◌-◌, ◌≤◌, length, get_or, take, drop, Option, MatchOption}
use Rattle.std.proofs.Common.{sym, ap, ◌∙◌, arith, drop-cons, length-drop, take_all}
use Rattle.std.specs.List.{FoldsTo, list_any, list_all}
use Rattle.std.proofs.lemmas.Iterator.{YieldsList}
use Rattle.std.proofs.lemmas.Iterator.Search.{any_from_yields_List}
use Rattle.std.specs.Iterator.{YieldsThen}
use denote.Param.Members.{Mut, Called}
use Rattle.whole.specs.Words.{from, some, all}

any_some : (p : ℕ → Bool) (xs : List ℕ) → list_any p xs ≡ some p xs
unfolding some
any_some p [] = refl
any_some p (x ∷ xs) = ap (λ (b : Bool). p x || b) (any_some p xs)

module _ {S A F : Type 0} {steps : S → Option A → S → Type 0} {v : A → ℕ} {g : Mut F (A × Unit {0}) Bool} {s : S} {ys : List ℕ} (p : ℕ → Bool) (u : S) (f : F) (r : Bool) where
  pub some_from_any : (xs : List A) × (o : Option A) × (j : F) × YieldsThen steps s xs o u × FoldsTo (λ p x q. Called g p (x, tt) false q) f xs j × MatchOption o (r ≡ false) (λ x. (r ≡ true) × ((h : F) × Called g j (x, tt) true h))
      → YieldsList steps v s ys → ((x : A) (b : Bool) (q : F) → Called g f (x, tt) b q → (q ≡ f) × (b ≡ p (v x))) → r ≡ some p ys
  some_from_any ran y k = any_from_yields_List p u f r ran y k ∙ any_some p ys

-- `all` of a part of a list, place by place
module _ {A : Type 0} (p : A → Bool) (l : List A) (d : A) where
  pub all_places : (c a : ℕ) → a + c ≤ length l → list_all p (take c (drop a l)) ≡ all (λ k. p (get_or l k d)) (from a c)
  unfolding all from
  all_places zero a h = refl
  all_places (suc c) a h = rw (drop-cons l a d (omega arith)) (ap (λ (b : Bool). p (get_or l a d) && b) (all_places c (suc a) (omega arith)))

  -- and of its end
  pub all_past : (a : ℕ) → a ≤ length l → list_all p (drop a l) ≡ all (λ k. p (get_or l k d)) (from a (length l - a))
  all_past a h = ap (list_all p) (sym (take_all (length l - a) (drop a l) (omega (arith, length-drop a l)))) ∙ all_places (length l - a) a (omega arith)
