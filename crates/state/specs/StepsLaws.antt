-- One more step is kept, and what the record holds of them.
-- Assumes nothing.
use Rattle.std.specs.Prelude.{◌≡◌, refl, List, [], ◌∷◌, ◌++◌, map, ℕ, suc, ◌+◌, ◌-◌, ◌<◌, length, set, take, replicate}
use Rattle.std.proofs.Common.{sym, ap, ◌∙◌, arith, length-set}
use Rattle.std.proofs.lemmas.List.{map-append, length-map, length-take-le, set_at}
use Rattle.std.proofs.lemmas.Grind.{take-set_at}
use Rattle.std.proofs.Math.Seq.{append_snoc}
use Rattle.rules.specs.declared.Step.{Step}
use Rattle.rules.specs.Eliminate as rule
use Rattle.rules.specs.Record.{no_step, hold, hold_all}
use Rattle.state.specs.Steps.{StepsKept, places_of}
use Rattle.state.specs.declared.steps.Steps.TheInside.{Inside}

-- the places of a list of steps, as the record has them
pub held_whole : (made : List Step) (ss : List rule.Step) → made ≡ map hold ss → made ++ replicate (64 - length made) no_step ≡ hold_all ss
unfolding hold_all
held_whole made ss e = rw (e, length-map) refl

-- one more step is held
pub held_more : (made : List Step) (ss : List rule.Step) (y : rule.Step) → made ≡ map hold ss → made ++ hold y ∷ [] ≡ map hold (ss ++ y ∷ [])
held_more made ss y e = rw (e, map-append) refl

-- ---- the places
module _ (s : Inside) (k : StepsKept s) where
  pub made_length : length (take s.count s.list) ≡ s.count
  made_length = length-take-le s.count s.list (omega (arith, k.long, k.count))

  pub given_back : places_of (take s.count s.list) ≡ s
  given_back = rw (made_length, ← k.list) refl

  module _ (x : Step) (room : s.count < 64) where
    pub made_more : take (s.count + 1) (set s.list s.count x) ≡ take s.count s.list ++ x ∷ []
    made_more = take-set_at s.list s.count (s.count + 1) x refl (omega (arith, k.long))

    places : set s.list s.count x ≡ (take s.count s.list ++ x ∷ []) ++ replicate (64 - (s.count + 1)) no_step
    places =
        let left : 64 - s.count ≡ suc (64 - (s.count + 1)) = omega arith in
        ap (λ (xs : List Step). set xs s.count x) (k.list ∙ ap (λ (n : ℕ). take s.count s.list ++ replicate n no_step) left)
        ∙ set_at (take s.count s.list) no_step (replicate (64 - (s.count + 1)) no_step) x s.count made_length
        ∙ sym (append_snoc (take s.count s.list) x (replicate (64 - (s.count + 1)) no_step))

    pub kept_more : StepsKept (record { list = set s.list s.count x; count = s.count + 1 })
    kept_more = record {
      long = length-set s.list s.count x ∙ k.long;
      count = omega arith;
      list = places ∙ ap (λ (xs : List Step). xs ++ replicate (64 - (s.count + 1)) no_step) (sym made_more);
    }
