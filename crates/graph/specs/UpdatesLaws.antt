-- The updates of a graph leave it as many decisions as it had.
-- Assumes nothing.
use Rattle.std.specs.Prelude.{◌≡◌, refl, ℕ, ℤ}
use Rattle.std.proofs.Common.{ap}
use Rattle.rules.specs.Graph.{Graph, add_constant, add_linear, add_edge, drop_to}

pub constant_n : (v : ℤ) (g : Graph) → (add_constant v g).n ≡ g.n
unfolding add_constant
constant_n v g = refl

pub linear_n : (k : ℕ) (v : ℤ) (g : Graph) → (add_linear k v g).n ≡ g.n
unfolding add_linear
linear_n k v g = refl

pub edge_n : (k l : ℕ) (v : ℤ) (g : Graph) → (add_edge k l v g).n ≡ g.n
unfolding add_edge
edge_n k l v g = refl

pub dropped_n : (s i : ℕ) (g d : Graph) → d ≡ drop_to s i g → d.n ≡ g.n
unfolding drop_to
dropped_n s i g d h = ap (λ (x : Graph). x.n) h
