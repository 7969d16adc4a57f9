-- The pairs, taken in order, on edges and masks that need not be a graph's.
use mathlib.Core.Path.{◌≡◌, refl, sym}
use mathlib.Core.List.{List, []}
use Prim.Native.Nat.{ℕ, ◌+◌, ◌*◌, ◌^◌, ◌<◌, ◌≤◌}
use native.Mathlib.Omega.{arith}
use lib.ListN.{get_or, set}
use lib.IntN.{ℤ, pos, ◌+ℤ◌}
use mir.Syntax.{w64}
use mir.Val.{SFits}
use Rattle.rules.specs.Graph.{graph}
use Rattle.rules.specs.DegreeThree.{pairs, add_pairs}
use Rattle.accepted_laws.specs.Small.{Small, small_more}
use Rattle.graph.specs.HeldLaws.{edge_gain}
use Rattle.graph.specs.Shows.{Shows}
use Rattle.degree_three.specs.Pairs.{pair_at}
use Rattle.degree_three.specs.declared.Pair.{Pair}
use Rattle.degree_three.proofs.Taking.{pair_at_few, edge_fits, Taken, taken_more, taken_all}

module _ (near : List ℕ) (e : List ℤ) where
  abbrev entry : ℕ → ℤ
  entry m = get_or e m (pos 0)

  -- p pairs are taken from the edges d₀ and the masks m₀, in each graph that has these edges
  pub record Apart (d₀ : List ℤ) (m₀ : List ℕ) (d : List ℤ) (m : List ℕ) (p : ℕ) : Type 0 where
    pub taken : (n : ℕ) (c : ℤ) (l : List ℤ) (ss : List ℕ) → Taken near e (graph n c l d₀ ss) (graph n c l d ss) p
    pub shows : (n : ℕ) → ((k : ℕ) → k < 3 → get_or near k 0 < n) → Shows n d₀ m₀ → Shows n d m

  pub apart_none : (d : List ℤ) (m : List ℕ) → Small 2199023255552 d → Apart d m d m 0
  apart_none d m s = record {
    taken = λ n c l ss. record { same = refl; small = small_more 2199023255552 s (omega arith); decisions = refl };
    shows = λ n below w. w;
  }

  module _ (d₀ d : List ℤ) (m₀ m : List ℕ) (p : ℕ) (h : p < 3) (a : Apart d₀ m₀ d m p) (s : Small (2 ^ 54) e) (q : Pair) (is : q ≡ pair_at p) where
    abbrev j : ℕ
    j = get_or near q.low 0

    abbrev k : ℕ
    k = get_or near q.high 0

    -- whichever entry it gains
    pub apart_asks : (m : ℕ) → ((k : ℕ) → k < 3 → get_or near k 0 < 64)
        → (j < 64) × (k < 64) × SFits w64 (get_or d (64 * j + k) (pos 0) +ℤ entry m) × SFits w64 (get_or d (64 * k + j) (pos 0) +ℤ entry m)
    apart_asks m below =
        let g = graph 64 (pos 0) [] d [] in
        let t = a.taken 64 (pos 0) [] [] in
        let few = pair_at_few q p h is in
        (below q.low few.0, below q.high few.1, edge_fits (entry m) (s.each m) g j k t.small (omega arith), edge_fits (entry m) (s.each m) g k j t.small (omega arith))

    pub apart_more : (d' : List ℤ) (m' : List ℕ)
        → d' ≡ set (set d (64 * j + k) (get_or d (64 * j + k) (pos 0) +ℤ entry q.mask)) (64 * k + j) (get_or d (64 * k + j) (pos 0) +ℤ entry q.mask)
        → ((n : ℕ) → j < n → k < n → Shows n d m → Shows n d' m') → Apart d₀ m₀ d' m' (p + 1)
    apart_more d' m' made shown =
        let few = pair_at_few q p h is in
        record {
          taken = λ n c l ss. taken_more near e (graph n c l d₀ ss) (graph n c l d ss) p h (a.taken n c l ss) s q is (graph n c l d' ss) (sym (edge_gain n c l d ss (entry q.mask) d' j k made));
          shows = λ n below w. shown n (below q.low few.0) (below q.high few.1) (a.shows n below w);
        }

  pub apart_all : (d₀ d : List ℤ) (m₀ m : List ℕ) (p : ℕ) → 3 ≤ p → Apart d₀ m₀ d m p
      → ((n : ℕ) (c : ℤ) (l : List ℤ) (ss : List ℕ) → graph n c l d ss ≡ add_pairs entry near pairs (graph n c l d₀ ss))
      × ((n : ℕ) → ((k : ℕ) → k < 3 → get_or near k 0 < n) → Shows n d₀ m₀ → Shows n d m)
  apart_all d₀ d m₀ m p h a = (λ n c l ss. taken_all near e (graph n c l d₀ ss) (graph n c l d ss) p h (a.taken n c l ss), a.shows)
