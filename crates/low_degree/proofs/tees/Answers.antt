use Rattle.std.proofs.Common.{rules, ◌≡◌, ◌<◌, ◌∙◌, sym, get_or, pos, ℕ, ℤ, arith}
use Rattle.std.proofs.lemmas.List.{ext_get_or}
use Rattle.whole.specs.Words.{below0}
use Rattle.whole.specs.Lists.{length_tab, tab_at}
use Rattle.low_degree.specs.Table.{tees_of}
use Rattle.low_degree.proofs.tees.Goals as goal

pub returns : goal.returns
unfolding tees_of
returns c =
    let d = c.args.deltas in
    let t = c.map.result in
    let made = c.map.ensures.items in
    let each : (i : ℕ) → i < 8 → get_or t i (pos 0) ≡ below0 (get_or d i (pos 0)) = λ i h. let call = made.at i (pos 0) (pos 0) h in search (rules, call) in
    let all : ℕ → ℤ = λ i. below0 (get_or d i (pos 0)) in
    ext_get_or (pos 0) t (tees_of d) (made.long ∙ sym (length_tab all 8)) (λ i h. each i (omega (arith, made.long)) ∙ sym (tab_at all 8 i (pos 0) (omega (arith, made.long))))
