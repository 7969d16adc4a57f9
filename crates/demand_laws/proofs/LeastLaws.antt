-- The least cost: one of finitely many answers is cheapest, and grown back it is a cheapest plan.
-- Assumes nothing.
use Rattle.std.specs.Prelude.{◌≡◌, refl, List, [], ◌∷◌, ℕ, zero, suc, ◌+◌, ◌*◌, ◌-◌, ◌/◌, ◌%◌, ◌^◌, ◌<◌, ◌≤◌, length, get_or, ℤ, ◌≤ℤ◌}
use Rattle.std.proofs.Common.{sym, ap, ap₂, ◌∙◌, arith, pow-suc}
use Rattle.std.proofs.Math.Path.{subst}
use Rattle.whole.specs.Cmp.{≤ℤ_trans}
use Rattle.rules.specs.Objective.{Objective}
use Rattle.rules.specs.Outcome.{outcome}
use Rattle.rules.specs.SmallBlock.{cheapest}
use Rattle.rules.specs.Refuse.{reduce_refusal}
use Rattle.cost_laws.specs.BlockCost.{cheapest_least}
use Rattle.demand_laws.specs.Demands.{Values, cost_of_plan, cost_of_answer, grown_back, projection, Least, SameLeast, LeastGrown}
use Rattle.demand_laws.proofs.Theorems.{first_half, second_half}

-- ---- the lists of r values are the masks below 2 ^ r
unfoldable digits_of : ℕ → ℕ → List ℕ
digits_of zero m = []
digits_of (suc r) m = m % 2 ∷ digits_of r (m / 2)

unfoldable number : List ℕ → ℕ
number [] = 0
number (x ∷ xs) = x + 2 * number xs

digits_values : (r m : ℕ) → Values r (digits_of r m)
unfolding digits_of
digits_values zero m = record { long = refl; bits = λ i. omega arith }
digits_values (suc r) m = let v = digits_values r (m / 2) in record { long = ap suc v.long; bits = λ i. each i v }
  where
    each : (i : ℕ) → Values r (digits_of r (m / 2)) → get_or (m % 2 ∷ digits_of r (m / 2)) i 0 ≤ 1
    each zero v = omega arith
    each (suc i) v = v.bits i

number_digits : (xs : List ℕ) → ((i : ℕ) → get_or xs i 0 ≤ 1) → digits_of (length xs) (number xs) ≡ xs
unfolding digits_of number
number_digits [] h = refl
number_digits (x ∷ xs) h =
    let b : x ≤ 1 = h 0 in
    let first : (x + 2 * number xs) % 2 ≡ x = omega arith in
    let rest : (x + 2 * number xs) / 2 ≡ number xs = omega arith in
    ap₂ (λ (d m : ℕ). d ∷ digits_of (length xs) m) first rest ∙ ap (λ (l : List ℕ). x ∷ l) (number_digits xs (λ i. h (suc i)))

number_below : (xs : List ℕ) → ((i : ℕ) → get_or xs i 0 ≤ 1) → number xs < 2 ^ length xs
unfolding number
number_below [] h = omega arith
number_below (x ∷ xs) h =
    let r : number xs < 2 ^ length xs = number_below xs (λ i. h (suc i)) in
    let b : x ≤ 1 = h 0 in
    rw pow-suc (omega arith)

-- one of them is cheapest
least_values : (r : ℕ) (costs : List ℕ → ℤ) → Least (Values r) costs (costs (digits_of r (cheapest (λ m. costs (digits_of r m)) (2 ^ r - 1))))
least_values r costs = record {
  at = digits_of r (cheapest (λ m. costs (digits_of r m)) (2 ^ r - 1));
  fits = digits_values r _;
  is = refl;
  least = λ xs v.
      subst (λ (l : List ℕ). costs (digits_of r (cheapest (λ m. costs (digits_of r m)) (2 ^ r - 1))) ≤ℤ costs l) (same xs v)
      (cheapest_least (λ m. costs (digits_of r m)) (2 ^ r - 1) (number xs) (small xs v));
}
  where
    same : (xs : List ℕ) → Values r xs → digits_of r (number xs) ≡ xs
    same xs v = ap (λ (k : ℕ). digits_of k (number xs)) (sym v.long) ∙ number_digits xs v.bits

    small : (xs : List ℕ) → Values r xs → number xs ≤ 2 ^ r - 1
    small xs v = let h : number xs < 2 ^ r = rw v.long at (number_below xs v.bits) in omega arith

-- ---- of an objective that is not refused
module _ (o : Objective) (accepted : reduce_refusal o 64 4096 ≡ 0) where
  pub least_grown : LeastGrown o
  least_grown answer a h plan p =
      let q = second_half o accepted plan p in
      ≤ℤ_trans (subst (λ (z : ℤ). cost_of_plan o (grown_back o answer) ≤ℤ z) (sym (first_half o accepted (projection o plan) q.0).1)
      (subst (λ (z : ℤ). z ≤ℤ cost_of_answer o (projection o plan)) (sym (first_half o accepted answer a).1) (h (projection o plan) q.0))) q.1

  pub same_least : SameLeast o
  unfolding least_values
  same_least =
      let l = least_values (length (outcome o).remaining) (cost_of_answer o) in
      let f = first_half o accepted l.at l.fits in
      record {
        cost = cost_of_answer o l.at;
        reduced = l;
        original = record {
          at = grown_back o l.at;
          fits = f.0;
          is = f.1;
          least = λ plan p. subst (λ (z : ℤ). z ≤ℤ cost_of_plan o plan) f.1 (least_grown l.at l.fits l.least plan p);
        };
      }
