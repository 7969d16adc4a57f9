-- What the entries of the rules' table make of the graph.
use mathlib.Core.Path.{◌≡◌, refl, ap, ◌∙◌}
use mathlib.Core.List.{List}
use Prim.Native.Nat.{ℕ, ◌+◌, ◌^◌, ◌<◌, ◌≤◌}
use native.Mathlib.Omega.{arith}
use lib.ListN.{get_or}
use lib.IntN.{ℤ, pos, ◌+ℤ◌}
use mir.Syntax.{w64}
use mir.Val.{SFits}
use Rattle.whole.specs.Words.{tab}
use Rattle.whole.specs.Lists.{tab_at}
use Rattle.rules.specs.Graph.{Graph, lin, neighbours, add_constant, add_linear, drop_to}
use Rattle.rules.specs.Eliminate.{tee}
use Rattle.rules.specs.DegreeThree.{moebius, add_pairs, absorb3, eliminate3}
use Rattle.rules.specs.Size.{Within}
use Rattle.accepted_laws.specs.Small.{Small}
use Rattle.graph.specs.Near.{near_at}
use Rattle.graph.specs.NearLaws.{near_list}
use Rattle.graph.specs.declared.Near.{Near}
use Rattle.degree_three.proofs.Taking.{linear_fits, linear_gains}

pub moebius_table : (t : ℕ → ℤ) → tab (moebius (λ m. get_or (tab t 8) m (pos 0))) 8 ≡ tab (moebius t) 8
unfolding tab moebius
moebius_table t = refl

-- what each of its updates asks: the neighbour is a decision, and its sum fits
module _ (near : List ℕ) (e : List ℤ) (g : Graph) (low : g.n ≤ 64) (below : (k : ℕ) → k < 3 → get_or near k 0 < g.n) (w : Within g) (s : Small (2 ^ 54) e) where
  abbrev entry : ℕ → ℤ
  entry m = get_or e m (pos 0)

  abbrev at : ℕ → ℕ
  at k = get_or near k 0

  abbrev pub after0 : Graph
  after0 = add_constant (entry 0) g

  abbrev pub after1 : Graph
  after1 = add_linear (at 0) (entry 1) after0

  abbrev pub after2 : Graph
  after2 = add_linear (at 1) (entry 2) after1

  abbrev pub after3 : Graph
  after3 = add_linear (at 2) (entry 4) after2

  decision : (k : ℕ) → k < 3 → at k < 64
  decision k h = omega (arith, below k h, low)

  small0 : Small (2 ^ 40) after0.linear
  unfolding add_constant
  small0 = record { each = w.linear }

  small1 : Small (2 ^ 40 + 2 ^ 54) after1.linear
  small1 = linear_gains (entry 1) (s.each 1) after0 (at 0) small0

  small2 : Small (2 ^ 40 + 2 ^ 54 + 2 ^ 54) after2.linear
  small2 = linear_gains (entry 2) (s.each 2) after1 (at 1) small1

  pub asks0 : (at 0 < 64) × SFits w64 (lin after0 (at 0) +ℤ entry 1)
  asks0 = (decision 0 (omega arith), linear_fits (entry 1) (s.each 1) after0 (at 0) small0 (omega arith))

  pub asks1 : (at 1 < 64) × SFits w64 (lin after1 (at 1) +ℤ entry 2)
  asks1 = (decision 1 (omega arith), linear_fits (entry 2) (s.each 2) after1 (at 1) small1 (omega arith))

  pub asks2 : (at 2 < 64) × SFits w64 (lin after2 (at 2) +ℤ entry 4)
  asks2 = (decision 2 (omega arith), linear_fits (entry 4) (s.each 4) after2 (at 2) small2 (omega arith))

  pub pairs_ask : ((k : ℕ) → k < 3 → at k < after3.n) × Small 2199023255552 after3.edges × Small (2 ^ 54) e
  unfolding add_constant add_linear
  pairs_ask = (below, record { each = w.edges }, s)

absorb_same : (e u : ℕ → ℤ) (near js : List ℕ) (g : Graph) → ((m : ℕ) → m < 8 → e m ≡ u m) → ((k : ℕ) → k < 3 → get_or near k 0 ≡ get_or js k 0) → absorb3 e near g ≡ absorb3 u js g
unfolding absorb3 add_pairs
absorb_same e u near js g h n =
    rw (h 0 (omega arith), h 1 (omega arith), h 2 (omega arith), h 3 (omega arith), h 4 (omega arith), h 5 (omega arith), h 6 (omega arith), n 0 (omega arith), n 1 (omega arith), n 2 (omega arith))

pub eliminated : (g : Graph) (i : ℕ) (near : Near) → near ≡ near_at g i → (d r : Graph) (e : List ℤ) → e ≡ tab (moebius (tee g i)) 8 → d ≡ drop_to 3 i g
    → r ≡ absorb3 (λ m. get_or e m (pos 0)) near.list d → r ≡ eliminate3 i g
unfolding eliminate3
eliminated g i near is d r e p q s =
    s
    ∙ ap (absorb3 (λ m. get_or e m (pos 0)) near.list) q
    ∙ absorb_same (λ m. get_or e m (pos 0)) (moebius (tee g i)) near.list (neighbours g i) (drop_to 3 i g) (λ m l. ap (λ (x : List ℤ). get_or x m (pos 0)) p ∙ tab_at (moebius (tee g i)) 8 m (pos 0) l) (near_list g i near is)
