-- A decision is fixed: the mass, and the loop over its neighbours.
use Rattle.std.proofs.Common.{◌≡◌, refl, sym, ap, arith, Bool, true, false, cond, List, [], ◌∷◌, map, set, ℕ, zero, suc, ◌+◌, ◌*◌, ◌<◌, ◌≤◌, ℤ, pos, nat_abs, ◌+ℤ◌, not, SFits}
use Rattle.std.specs.Int.{w64}
use Rattle.whole.specs.Words.{is_zero_z, from, those}
use Rattle.whole.specs.Lists.{tab_map}
use Rattle.rules.specs.Graph.{Graph, edge, lin, row, neighbours, add_constant, add_linear, drop_to, clear}
use Rattle.rules.specs.Fixing.{spread, fix}
use Rattle.rules.specs.Objective.{weight_of}
use Rattle.accepted_laws.specs.Mass.{mass, weight_at, weight_set, weight_gain, weight_clear, abs_add}
use Rattle.graph.proofs.Laws.{mass_fits}

-- ---- what is dropped, and what is gained
weight_cleared : (i n : ℕ) (e : List ℤ) → weight_of (clear i n e) ≤ weight_of e
unfolding clear
weight_cleared i zero e = omega arith
weight_cleared i (suc j) e =
    omega (arith, weight_cleared i j e, weight_set (clear i j e) (64 * i + j) (pos 0), weight_set (set (clear i j e) (64 * i + j) (pos 0)) (64 * j + i) (pos 0))

pub dropped_mass : (s i : ℕ) (g : Graph) → mass (drop_to s i g) ≤ mass g
unfolding drop_to
dropped_mass s i g = omega (arith, weight_set g.linear i (pos 0), weight_cleared i g.n g.edges)

pub linear_mass : (k : ℕ) (v : ℤ) (g : Graph) → mass (add_linear k v g) ≤ mass g + nat_abs v
unfolding add_linear
linear_mass k v g = omega (arith, weight_gain g.linear k v)

pub fix_sum : (s i : ℕ) (g : Graph) → mass g ≤ 2199023255552 → SFits w64 ((drop_to s i g).constant +ℤ lin g i)
unfolding drop_to
fix_sum s i g h = mass_fits g.constant (lin g i) (omega (arith, weight_at g.linear i))

weight_those : (f : ℕ → ℤ) (p : ℕ → Bool) (xs : List ℕ) → weight_of (map f (those p xs)) ≤ weight_of (map f xs)
unfolding those weight_of
weight_those f p [] = omega arith
weight_those f p (x ∷ xs) = by (p x) (weight_those f p xs)
  where
    by : (b : Bool) → weight_of (map f (those p xs)) ≤ weight_of (map f xs) → weight_of (map f (cond b (x ∷ those p xs) (those p xs))) ≤ nat_abs (f x) + weight_of (map f xs)
    by true h = omega arith
    by false h = omega arith

-- ---- the loop: js are to gain yet
pub record Spreading (i : ℕ) (g x : Graph) (js : List ℕ) : Type 0 where
  pub goes : fix i 1 g ≡ spread g i js x
  pub light : mass x + weight_of (row g i js) ≤ mass g

module _ (i : ℕ) (g : Graph) where
  begin_mass : i < 64 → g.n ≤ 64 → mass (add_constant (lin g i) (drop_to 1 i g)) + weight_of (row g i (neighbours g i)) ≤ mass g
  unfolding add_constant drop_to neighbours
  begin_mass hi hn =
      let f : ℕ → ℤ = λ j. edge g i j in
      omega (
        arith,
        abs_add g.constant (lin g i),
        weight_set g.linear i (pos 0),
        weight_clear i g.n g.edges hi hn,
        weight_those f (λ j. not (is_zero_z (edge g i j))) (from 0 g.n),
        ap weight_of (tab_map f g.n),
      )

  pub spread_begin : (x : Graph) (js : List ℕ) → x ≡ add_constant (lin g i) (drop_to 1 i g) → js ≡ neighbours g i → i < 64 → g.n ≤ 64 → Spreading i g x js
  unfolding fix
  spread_begin x js e n hi hn = rw (e, n) (record { goes = refl; light = begin_mass hi hn })

  module _ (x : Graph) (j : ℕ) (js : List ℕ) (s : Spreading i g x (j ∷ js)) (v : ℤ) (is : v ≡ edge g i j) where
    pub spread_fits : mass g ≤ 2199023255552 → SFits w64 (lin x j +ℤ v)
    unfolding weight_of
    spread_fits h = rw is (mass_fits (lin x j) (edge g i j) (omega (arith, s.light, weight_at x.linear j)))

    pub spread_turn : (y : Graph) → y ≡ add_linear j v x → Spreading i g y js
    unfolding spread weight_of
    spread_turn y e = rw (e, is) (record { goes = s.goes; light = omega (arith, s.light, linear_mass j (edge g i j) x) })

  pub spread_end : (x : Graph) → Spreading i g x [] → (x ≡ fix i 1 g) × (mass x ≤ mass g)
  unfolding spread
  spread_end x s = (sym s.goes, omega (arith, s.light))
