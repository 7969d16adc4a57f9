use Rattle.std.specs.Int.{w64}
use Rattle.std.proofs.Common.{SFits, to_z, of_z, rules, arith, ◌≡◌, ◌+◌, ◌*◌, ℤ, pos, ◌+ℤ◌, get_or, set}
use Rattle.std.proofs.Math.Path.{ap₂}
use Rattle.whole.specs.Ints.{rd}
use Rattle.graph.specs.ShowsLaws.{gained}
use Rattle.graph.proofs.shown.add_edge.Goals as goal

pub returns : goal.returns
returns c =
    let a = c.args in
    let e = a.edges.now in
    let v = a.v in
    let x = get_or e (64 * a.k + a.l) (pos 0) in
    let y = get_or e (64 * a.l + a.k) (pos 0) in
    let fx : SFits w64 (get_or e (64 * a.k + a.l) (pos 0)) = search rules in
    let fy : SFits w64 (get_or e (64 * a.l + a.k) (pos 0)) = search rules in
    let gx : to_z w64 (of_z w64 (to_z w64 (of_z w64 x) +ℤ to_z w64 (of_z w64 v))) ≡ x +ℤ v = rw (rd fx, rd c.ranges.v) (rd c.requires.2) in
    let gy : to_z w64 (of_z w64 (to_z w64 (of_z w64 y) +ℤ to_z w64 (of_z w64 v))) ≡ y +ℤ v = rw (rd fy, rd c.ranges.v) (rd c.requires.3) in (
      ap₂ (λ (x y : ℤ). set (set e (64 * a.k + a.l) x) (64 * a.l + a.k) y) gx gy,
      λ n kn ln sh. gained n e a.masks.now sh a.k a.l kn ln c.requires.0 c.requires.1 v _ _ gx gy c.marked.result c.marked-2.result (omega arith) (omega arith) c.marked.ensures c.marked-2.ensures,
    )
