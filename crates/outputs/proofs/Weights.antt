-- The weights of a list's decisions, written one by one over zeros.
use Rattle.std.specs.Prelude.{◌≡◌, refl, List, [], ◌∷◌, ◌++◌, map, ℕ, suc, ◌+◌, ◌-◌, ◌<◌, ◌≤◌, length, get_or, set, take, replicate, ℤ, pos}
use Rattle.std.proofs.Common.{sym, ap, ap₂, ◌∙◌, arith, add-one}
use Rattle.std.proofs.Math.Seq.{take-suc, append_snoc, take-length}
use Rattle.std.proofs.lemmas.List.{length-map, length-take-le, map-append, set_at}
use Rattle.outputs.specs.Out.{linear_of}

abbrev pub weights : List ℤ → List ℕ → ℕ → List ℤ
weights l rs c = map (λ i. get_or l i (pos 0)) (take c rs) ++ replicate (64 - c) (pos 0)

module _ (l : List ℤ) (rs : List ℕ) where
  abbrev w : ℕ → ℤ
  w i = get_or l i (pos 0)

  pub weights_begin : replicate 64 (pos 0) ≡ weights l rs 0
  weights_begin = refl

  pub weights_more : (o : List ℤ) (c : ℕ) (v : ℤ) → o ≡ weights l rs c → length rs ≤ 64 → c < length rs → v ≡ get_or l (get_or rs c 0) (pos 0) → set o c v ≡ weights l rs (c + 1)
  weights_more o c v e few h is =
      let left : 64 - c ≡ suc (64 - (c + 1)) = omega arith in
      let long : length (map w (take c rs)) ≡ c = length-map (take c rs) w ∙ length-take-le c rs (omega arith) in
      ap₂ (λ (xs : List ℤ) (x : ℤ). set xs c x) (e ∙ ap (λ (n : ℕ). map w (take c rs) ++ replicate n (pos 0)) left) is
      ∙ set_at (map w (take c rs)) (pos 0) (replicate (64 - (c + 1)) (pos 0)) (w (get_or rs c 0)) c long
      ∙ sym (append_snoc (map w (take c rs)) (w (get_or rs c 0)) (replicate (64 - (c + 1)) (pos 0)))
      ∙ ap (λ (xs : List ℤ). xs ++ replicate (64 - (c + 1)) (pos 0)) (sym (ap (λ (n : ℕ). map w (take n rs)) (add-one c) ∙ ap (map w) (take-suc rs c 0 h) ∙ map-append w (take c rs) (get_or rs c 0 ∷ [])))

  pub weights_end : (c : ℕ) → c ≡ length rs → weights l rs c ≡ linear_of l rs
  weights_end c e = ap (weights l rs) e ∙ ap (λ (xs : List ℕ). map w xs ++ replicate (64 - length rs) (pos 0)) (take-length rs)
