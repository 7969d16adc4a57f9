use Rattle.std.proofs.Common.{◌≡◌, refl, ap, ap₂, ◌∙◌, rules, ℕ, List, [], ◌∷◌, ◌++◌, length, get_or}
use borrow.Rule.Slice.PartMut.{put_mid}
use Rattle.rules.specs.Record.{little, body, check, sealed, block_of}
use Rattle.record_laws.specs.Fields.{body_length}
use Rattle.record.proofs.Bytes.{two_bytes}
use Rattle.record.proofs.Stores.{sealed_is}
use Rattle.record.proofs.write.block_of.Goals as goal

four : (t u : List ℕ) (s1 s2 : ℕ) → t ≡ little 2 s1 → u ≡ little 2 s2 → get_or t 0 0 ∷ get_or t 1 0 ∷ get_or u 0 0 ∷ get_or u 1 0 ∷ [] ≡ little 2 s1 ++ little 2 s2
unfolding little
four t u s1 s2 e f = rw (e, f)

pub returns : goal.returns
unfolding block_of sealed little
returns c =
    let r = c.args.«record» in
    let s = c.sums_of-sums.result in
    let ls : length r.states ≡ 64 = search rules in
    let lt : length r.steps ≡ 64 = search rules in
    let b : c.copy_from_slice.new.self ≡ body r = c.copy_from_slice.ensures.after ∙ c.body_of-body.ensures in
    let p : s.s1 ≡ (check (body r)).s1 = c.sums_of-sums.ensures.0 ∙ ap (λ (l : List ℕ). (check l).s1) c.body_of-body.ensures in
    let q : s.s2 ≡ (check (body r)).s2 = c.sums_of-sums.ensures.1 ∙ ap (λ (l : List ℕ). (check l).s2) c.body_of-body.ensures in
    let x : c.copy_from_slice-2.new.self ≡ little 2 s.s1 ++ little 2 s.s2 =
    c.copy_from_slice-2.ensures.after ∙ four _ _ s.s1 s.s2 (c.to_le_bytes.ensures ∙ two_bytes s.s1) (c.to_le_bytes-2.ensures ∙ two_bytes s.s2) in
    let y = sealed_is (body r) (little 2 (check (body r)).s1) (little 2 (check (body r)).s2) (body_length r (record { states = ls; steps = lt })) refl in
    ap₂ (λ (l m : List ℕ). put_mid 508 4 (l ++ 0 ∷ 0 ∷ 0 ∷ 0 ∷ []) m) b (x ∙ ap₂ (λ (m n : ℕ). little 2 m ++ little 2 n) p q) ∙ y
