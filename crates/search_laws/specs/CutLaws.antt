-- The test of a cut finds two neighbours with no path between them, and any two such neighbours make it hold.
-- Assumes nothing.
use Rattle.std.specs.Prelude.{◌≡◌, Bool, true, not, List, ◌∷◌, ℕ, ◌<◌}
use Rattle.whole.specs.Words.{mem, some}
use Rattle.whole.specs.Tests.{clash, refuse, and-true, and_both, not_off, off_not}
use Rattle.whole.specs.Members.{in_those, to_those, some_true}
use Rattle.rules.specs.SmallBlock.{component, besides, is_cut}
use Rattle.cost_laws.specs.Growth.{Network, free}
use Rattle.cost_laws.specs.Found.{some_witness}
use Rattle.search_laws.specs.Paths.{OtherNeighbour, Parts}
use Rattle.search_laws.specs.PathLaws.{reached_path, path_reached}

module _ (n : ℕ) (near : ℕ → List ℕ) (net : Network n near) (removed : List ℕ) (c : ℕ) (lc : c < n) where
  beside : (u : ℕ) → mem u (besides near removed c) ≡ true → OtherNeighbour near removed c u
  beside u m = let p = in_those (λ u. not (mem u removed)) u (near c) m in record { neighbour = p.0; stays = off_not (mem u removed) p.1 }

  listed : (u : ℕ) → OtherNeighbour near removed c u → mem u (besides near removed c) ≡ true
  listed u b = to_those (λ u. not (mem u removed)) u (near c) b.neighbour (not_off b.stays)

  -- v is not reached from u; some neighbour is not
  abbrev off : ℕ → ℕ → Bool
  off u v = not (mem v (component near (c ∷ removed) u))

  abbrev off_some : ℕ → Bool
  off_some u = some (off u) (besides near removed c)

  pub cut_parts : is_cut near removed c ≡ true → Parts near removed c
  unfolding is_cut
  cut_parts h =
      let p = and-true (not (mem c removed)) (some off_some (besides near removed c)) h in
      some_witness off_some (besides near removed c) p.1
      (λ u mu hu. some_witness (off u) (besides near removed c) hu
      (λ v mv hv. record {
        other = off_not (mem c removed) p.0;
        one = u;
        two = v;
        first = beside u mu;
        second = beside v mv;
        apart = λ w. let f = free n near net removed c lc u mu in clash (path_reached n near net (c ∷ removed) u f.0 f.1 w) (off_not (mem v (component near (c ∷ removed) u)) hv);
      }))

  pub parts_cut : Parts near removed c → is_cut near removed c ≡ true
  unfolding is_cut
  parts_cut w =
      let u = w.one in
      let v = w.two in
      let mu = listed u w.first in
      and_both (not_off w.other)
      (some_true off_some u (besides near removed c) mu (some_true (off u) v (besides near removed c) (listed v w.second)
      (not_off (refuse (mem v (component near (c ∷ removed) u)) (λ t. w.apart (reached_path n near net (c ∷ removed) u v (free n near net removed c lc u mu).1 t))))))
