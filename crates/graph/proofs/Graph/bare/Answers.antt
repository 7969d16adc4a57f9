use Rattle.std.proofs.Common.{rules, ◌≡◌, ◌++◌, drop, replicate, pos, refl}
use Rattle.graph.specs.Shows.{no_masks}
use Rattle.graph.specs.ShowsLaws.{shows_none}
use Rattle.rules.specs.Graph.{no_edges}
use Rattle.rules.specs.Given.{of_lists}
use Rattle.graph.proofs.Start.{bare_is}
use Rattle.graph.proofs.Graph.bare.Goals as goal
use Rattle.graph.proofs.Graph.bare.Goals.{After-fill}

-- the weights are copied, and the states filled in
module _ (c : After-fill) where
  copied : c.copy_from_slice.new.self ++ drop c.args.o.n (replicate 64 (pos 0)) ≡ c.args.o.weights.now ++ drop c.args.o.n (replicate 64 (pos 0))
  copied = let h : c.copy_from_slice.new.self ≡ c.args.o.weights.now = search rules in rw h

  filled : c.fill.new.self ++ drop c.args.o.n (replicate 64 0) ≡ replicate c.args.o.n 2 ++ drop c.args.o.n (replicate 64 0)
  filled = let h : c.fill.new.self ≡ replicate c.args.o.n 2 = search rules in rw h

pub invariant_of-result : goal.invariant_of-result
unfolding no_edges no_masks
invariant_of-result c = (c.requires.small, shows_none _ _ _ refl refl)

pub returns : goal.returns
unfolding no_edges
returns c =
    let s = (goal.at.returns c).After-fill in
    bare_is (of_lists c.args.o) _ _ (copied s) (filled s) c.requires.small
