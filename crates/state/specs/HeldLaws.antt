-- The places of a run's steps are those of the rules, each as a record holds it: one more step is held.
-- Assumes nothing.
use Rattle.std.specs.Prelude.{◌≡◌, List, [], ◌∷◌, ◌++◌, map, suc, ◌+◌, ◌-◌, ◌<◌, length, set, replicate}
use Rattle.std.proofs.Common.{sym, ◌∙◌, arith, length-append}
use Rattle.std.proofs.lemmas.List.{map-append, length-map, set_at}
use Rattle.std.proofs.Math.Seq.{append_snoc}
use Rattle.rules.specs.declared.Step.{Step}
use Rattle.rules.specs.Eliminate as rule
use Rattle.rules.specs.Record.{no_step, hold, hold_all}
use Rattle.state.specs.declared.steps.Steps.TheInside.{Inside}

pub record StepsHeld (s : Inside) (ss : List rule.Step) : Type 0 where
  pub list : s.list ≡ hold_all ss
  pub count : s.count ≡ length ss

pub held_more : (ss : List rule.Step) (y : rule.Step) → length ss < 64 → set (hold_all ss) (length ss) (hold y) ≡ hold_all (ss ++ y ∷ [])
unfolding hold_all
held_more ss y h =
    let room : 64 - length ss ≡ suc (64 - length (ss ++ y ∷ [])) = rw length-append (omega arith) in
    rw (room, map-append)
    (set_at (map hold ss) no_step (replicate (64 - length (ss ++ y ∷ [])) no_step) (hold y) (length ss) (length-map ss hold)
    ∙ sym (append_snoc (map hold ss) (hold y) (replicate (64 - length (ss ++ y ∷ [])) no_step)))

pub kept_more : (s : Inside) (ss : List rule.Step) (x : Step) (y : rule.Step) → StepsHeld s ss → x ≡ hold y → s.count < 64
    → StepsHeld (record { list = set s.list s.count x; count = s.count + 1 }) (ss ++ y ∷ [])
kept_more s ss x y k e h = record {
  list = rw (k.list, k.count, e) (held_more ss y (omega arith));
  count = rw length-append (omega arith);
}
