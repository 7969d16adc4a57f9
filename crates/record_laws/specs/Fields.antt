-- Where each field stands in a written block, and that a block is its fields.
-- Assumes nothing.
use Rattle.std.specs.Prelude.{◌≡◌, refl, List, [], ◌∷◌, ◌++◌, ℕ, ◌+◌, ◌*◌, length, take, drop, replicate}
use Rattle.std.proofs.Common.{sym, ap, ◌∙◌, append_assoc, arith, length-append, take_at, drop_at, drop-drop}
use Rattle.rules.specs.Record.{edition, little, twos, step_bytes, steps_bytes, body, check, sealed, block_of}
use Rattle.rules.specs.declared.Step.{Step}
use Rattle.rules.specs.declared.Record.{Record}
use Rattle.record_laws.specs.Bytes.{little_length}
use Rattle.record_laws.specs.Seal.{seal_of}

pub steps_length : (ss : List Step) → length (steps_bytes ss) ≡ 6 * length ss
unfolding steps_bytes
steps_length [] = refl
steps_length (s ∷ ss) = rw (length-append (step_bytes s) (steps_bytes ss), steps_length ss) (omega arith)

regroup : (a b c d e f g : List ℕ) → a ++ b ++ c ++ d ++ e ++ f ++ g ≡ a ++ (b ++ (c ++ (d ++ (e ++ (f ++ g)))))
regroup a b c d e f g = simp append_assoc

-- the arrays of a record are 64 long
pub record Held (r : Record) : Type 0 where
  pub states : length r.states ≡ 64
  pub steps : length r.steps ≡ 64

module _ (r : Record) (h : Held r) where
  pub body_length : length (body r) ≡ 508
  unfolding body
  body_length = simp (length-append, little_length, steps_length) (omega (arith, h.states, h.steps))

  -- what stands from each field on
  abbrev pub from460 : List ℕ
  from460 = replicate 48 0 ++ seal_of (body r)

  abbrev pub from76 : List ℕ
  from76 = steps_bytes r.steps ++ from460

  abbrev pub from12 : List ℕ
  from12 = r.states ++ from76

  abbrev pub from4 : List ℕ
  from4 = little 8 (twos r.constant) ++ from12

  pub whole : block_of r ≡ edition ∷ r.n ∷ r.count ∷ 0 ∷ from4
  unfolding block_of sealed body
  whole = regroup (edition ∷ r.n ∷ r.count ∷ 0 ∷ []) (little 8 (twos r.constant)) r.states (steps_bytes r.steps) (replicate 48 0) _ _

  pub drop4 : drop 4 (block_of r) ≡ from4
  drop4 = ap (drop 4) whole

  -- past a field that is n long
  past : (m n k : ℕ) (a b : List ℕ) → length a ≡ n → drop m (block_of r) ≡ a ++ b → m + n ≡ k → drop k (block_of r) ≡ b
  past m n k a b l e s = ap (λ (i : ℕ). drop i (block_of r)) (sym s) ∙ sym (drop-drop n m (block_of r)) ∙ ap (drop n) e ∙ drop_at a b n l

  pub drop12 : drop 12 (block_of r) ≡ from12
  drop12 = past 4 8 12 (little 8 (twos r.constant)) from12 (little_length 8 (twos r.constant)) drop4 refl

  pub drop76 : drop 76 (block_of r) ≡ from76
  drop76 = past 12 64 76 r.states from76 h.states drop12 refl

  pub drop460 : drop 460 (block_of r) ≡ from460
  drop460 = past 76 384 460 (steps_bytes r.steps) from460 (steps_length r.steps ∙ ap (λ (n : ℕ). 6 * n) h.steps) drop76 refl
