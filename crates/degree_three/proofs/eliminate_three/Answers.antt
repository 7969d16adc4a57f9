use Rattle.std.proofs.Common.{◌≡◌, ◌≤◌, ◌^◌, ℕ, List, Some, true, false, not, get_or, ℤ, pos, sym, ap, ◌∙◌, refl, arith, of_z}
use Rattle.std.specs.Int.{w64}
use Rattle.std.proofs.Math.Path.{subst}
use Rattle.whole.specs.Cmp.{zero_is, zero_not}
use Rattle.whole.specs.Fits.{fit}
use Rattle.whole.specs.Lists.{tab_at}
use Rattle.whole.specs.Words.{tab, is_zero_z}
use Rattle.rules.specs.Graph.{Graph}
use Rattle.rules.specs.Eliminate.{tee}
use Rattle.rules.specs.DegreeThree.{moebius, cubic}
use Rattle.rules.specs.Size.{Within}
use Rattle.accepted_laws.specs.Small.{Small, small_more}
use Rattle.size_laws.specs.SumSizes.{tees_three}
use Rattle.size_laws.proofs.PassSizes.{entries_three}
use Rattle.graph.specs.Near.{near_at}
use Rattle.graph.specs.NearLaws.{near_inside}
use Rattle.graph.specs.Small.{dropped_within}
use Rattle.graph.specs.UpdatesLaws.{dropped_n}
use Rattle.graph.specs.declared.Near.{Near}
use Rattle.low_degree.specs.Table.{step_from}
use Rattle.low_degree.specs.TableLaws.{degree_few, table_asks, table_gives, step_table}
use Rattle.degree_three.proofs.Absorbing.{moebius_table, eliminated}
use Rattle.degree_three.proofs.eliminate_three.Goals as goal

-- the code's table is the rules'; its entries are small, and the test of the last one is the rules' own
module _ (g : Graph) (i : ℕ) (near : Near) (is : near ≡ near_at g i) (three : near.count ≡ 3) (w : Within g) where
  few : near.count ≤ 3
  few = omega arith

  small_tees : (t : List ℤ) → t ≡ tab (tee g i) 8 → Small (2 ^ 50) t
  small_tees t p = subst (Small (2 ^ 50)) (sym p) (small_more (2 ^ 50) (tees_three g w i (degree_few g i near is few)) (omega arith))

  module _ (t e : List ℤ) (p : t ≡ tab (tee g i) 8) (q : e ≡ tab (moebius (λ m. get_or t m (pos 0))) 8) where
    entries : e ≡ tab (moebius (tee g i)) 8
    entries = q ∙ ap (λ (t : List ℤ). tab (moebius (λ m. get_or t m (pos 0))) 8) p ∙ moebius_table (tee g i)

    small_entries : Small (2 ^ 54) e
    small_entries = subst (Small (2 ^ 54)) (sym entries) (small_more (2 ^ 54) (entries_three g w i (degree_few g i near is few)) (omega arith))

    last : not (is_zero_z (get_or e 7 (pos 0))) ≡ cubic g i
    last = ap (λ (t : List ℤ). not (is_zero_z (get_or t 7 (pos 0)))) entries ∙ ap (λ (z : ℤ). not (is_zero_z z)) (tab_at (moebius (tee g i)) 8 7 (pos 0) (omega arith))

    is_cubic : (of_z w64 (get_or e 7 (pos 0)) ≡ 0 → ⊥) → cubic g i ≡ true
    is_cubic d = sym last ∙ zero_not (get_or e 7 (pos 0)) d

    none_cubic : of_z w64 (get_or e 7 (pos 0)) ≡ 0 → cubic g i ≡ false
    none_cubic z = sym last ∙ zero_is (get_or e 7 (pos 0)) (fit (get_or e 7 (pos 0)) (omega (arith, small_entries.each 7))).sfits z

pub table_of-requires : goal.table_of-requires
table_of-requires c =
    let a = c.args in
    let s = c.requires in
    rw c.linear.ensures (table_asks a.g.now a.i a.near s.2 (omega (arith, s.3)) s.1)

pub moebius-entries-requires : goal.moebius-entries-requires
moebius-entries-requires c =
    let a = c.args in
    let s = c.requires in
    let g = a.g.now in
    let table = table_gives g a.i a.near s.2 (omega (arith, s.3)) s.1 c.table_of.result (rw c.linear.ensures at c.table_of.ensures) in
    small_tees g a.i a.near s.2 s.3 s.1 c.table_of.result.tees table.1

pub returns-then-entries-ne0 : goal.returns-then-entries-ne0
returns-then-entries-ne0 c =
    let a = c.args in
    let s = c.requires in
    let g = a.g.now in
    let table = table_gives g a.i a.near s.2 (omega (arith, s.3)) s.1 c.table_of.result (rw c.linear.ensures at c.table_of.ensures) in
    let q = is_cubic g a.i a.near s.2 s.3 s.1 c.table_of.result.tees c.moebius-entries.result table.1 c.moebius-entries.ensures c.if-entries-ne0.true in
    rw q (refl, refl)

pub absorb_three_into-requires : goal.absorb_three_into-requires
absorb_three_into-requires c =
    let a = c.args in
    let s = c.requires in
    let g = a.g.now in
    let d = c.drop_to.new.self in
    let table = table_gives g a.i a.near s.2 (omega (arith, s.3)) s.1 c.table_of.result (rw c.linear.ensures at c.table_of.ensures) in (
      λ k h. omega (arith, near_inside g a.i a.near s.2 k h (omega (arith, s.3)), dropped_n 3 a.i g d c.drop_to.ensures),
      dropped_within 3 a.i g d c.drop_to.ensures s.1,
      small_entries g a.i a.near s.2 s.3 s.1 c.table_of.result.tees c.moebius-entries.result table.1 c.moebius-entries.ensures,
    )

pub returns : goal.returns
returns c =
    let a = c.args in
    let s = c.requires in
    let g = a.g.now in
    let t = c.table_of.result.tees in
    let e = c.moebius-entries.result in
    let table = table_gives g a.i a.near s.2 (omega (arith, s.3)) s.1 c.table_of.result (rw c.linear.ensures at c.table_of.ensures) in
    let q = none_cubic g a.i a.near s.2 s.3 s.1 t e table.1 c.moebius-entries.ensures c.if-entries-ne0.false in
    rw q (
      ap Some (c.step_of.ensures ∙ ap (step_from a.i a.near) table.0 ∙ step_table g a.i a.near s.2 (omega (arith, s.3))),
      eliminated g a.i a.near s.2 c.drop_to.new.self c.absorb_three_into.new.g e (entries g a.i a.near s.2 s.3 s.1 t e table.1 c.moebius-entries.ensures) c.drop_to.ensures c.absorb_three_into.ensures,
    )
