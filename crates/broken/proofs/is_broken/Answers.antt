use Rattle.std.proofs.Common.{rules, ◌≡◌, sym, ap, ◌∙◌, subst, arith, w64, Bool, true, false, ◌&&◌, ℕ, ◌-◌, leb, ltb, eqb, nat_abs, ℤ, List, [], ◌∷◌, length, get_or, take, get_or-take, le-leb, ltb-true, ◌≤◌}
use mathlib.Core.Bool.{not, and_assoc, and-true, and-false}
use Rattle.std.proofs.lemmas.Bool.{lt-leb}
use mir.Val.{SFits}
use Rattle.whole.specs.Ints.{rd}
use Rattle.whole.specs.Words.{from, upto, all, all_of}
use Rattle.whole.specs.Tests.{cases}
use Rattle.whole.specs.Chains.{all_places, all_past}
use Rattle.std.specs.List.{list_all}
use Rattle.rules.specs.Record.{no_step, is_none, state_at, step_at, sound}
use Rattle.broken.specs.Masks.{Picks, Sorted}
use Rattle.broken.proofs.is_broken.Goals as goal
use Rattle.broken.proofs.is_broken.Goals.{then-record-gt64-via-then-record-gt64, then-record-gt64-via-else-record-gt64+then-record-gt64-2, In_default, After-unused-rest}

pub returns-then-record-gt64 : goal.returns-then-record-gt64
unfolding sound all_of
returns-then-record-gt64 c =
    elim c.then-record-gt64.branch [
      | then-record-gt64-via-then-record-gt64 w ↦ rw (lt-leb _ _ w.if-record-gt64.true)
      | then-record-gt64-via-else-record-gt64+then-record-gt64-2 w ↦ rw (le-leb _ _ w.if-record-gt64.false, lt-leb _ _ w.if-record-gt64-2.true)
    ]

-- the states below n
known_is : (ss : List ℕ) (n : ℕ) → n ≤ length ss → list_all (λ s. leb s 3) (take n ss) ≡ all (λ i. leb (get_or ss i 0) 3) (upto n)
known_is ss n h = all_places (λ s. leb s 3) ss 0 n 0 (omega arith)

pub returns-in_default : goal.returns-in_default
unfolding sound all_of
returns-in_default c =
    let r = c.args.«record» in
    let l : length r.states ≡ 64 = search rules in
    let k : all (λ i. leb (state_at r i) 3) (upto r.n) ≡ false = sym (known_is r.states r.n (omega arith)) ∙ ap (list_all (λ s. leb s 3)) (sym c.split_at.ensures.front) ∙ c.in_default.ensures in
    rw (k, le-leb r.n 64 (omega arith), le-leb r.count 64 (omega arith), and-false)

-- a test of the states below n, asked of a mask
below : (ss : List ℕ) (n : ℕ) (p : ℕ → Bool) (m : ℕ) → Picks m (λ j. ltb j n && p (get_or (take n ss) j 0)) → Picks m (λ j. ltb j n && p (get_or ss j 0))
below ss n p m h j = h j ∙ cases (ltb j n) (λ t. ap (λ (x : ℕ). ltb j n && p x) (get_or-take n ss j 0 (ltb-true j n t))) (λ f. rw f)

pub steps_fine-steps-requires : goal.steps_fine-steps-requires
steps_fine-steps-requires c =
    let r = c.args.«record» in
    let l : length (take r.n r.states) ≡ r.n = ap length (sym c.split_at.ensures.front) ∙ c.split_at.ensures.front_len in
    let s : Sorted (take r.n r.states) c.in-Some.masks = subst (λ (x : List ℕ). Sorted x c.in-Some.masks) c.split_at.ensures.front c.in-Some.ensures in
    record {
      low = c.if-record-gt64.false;
      few = c.if-record-gt64-2.false;
      unfixed = below r.states r.n (leb 2) c.in-Some.masks.unfixed (rw l at s.unfixed);
      eliminated = below r.states r.n (λ x. eqb x 3) c.in-Some.masks.eliminated (rw l at s.eliminated);
    }

-- the tests in the order of the rules
in_order : (c z a b u : Bool) → (c && z && (a && b) && u) ≡ all_of (true ∷ true ∷ c ∷ true ∷ z ∷ a ∷ b ∷ u ∷ [])
unfolding all_of
in_order c z a b u = simp (and_assoc, and-true)

pub returns : goal.returns
unfolding sound
returns c =
    let r = c.args.«record» in
    let ls : length r.states ≡ 64 = search rules in
    let lt : length r.steps ≡ 64 = search rules in
    let f : SFits w64 r.constant = search rules in
    let s : Sorted (take r.n r.states) c.in-Some.masks = subst (λ (x : List ℕ). Sorted x c.in-Some.masks) c.split_at.ensures.front c.in-Some.ensures in
    let low : leb r.n 64 ≡ true = le-leb r.n 64 (omega arith) in
    let few : leb r.count 64 ≡ true = le-leb r.count 64 (omega arith) in
    let within : c.constant_fine-constant.result ≡ leb (nat_abs r.constant) 1099511627776 = c.constant_fine-constant.ensures ∙ ap (λ (z : ℤ). leb (nat_abs z) 1099511627776) (rd f) in
    let known : all (λ i. leb (state_at r i) 3) (upto r.n) ≡ true = sym (known_is r.states r.n (omega arith)) ∙ s.known in
    let ended : c.zero_bytes-ended.result ≡ all (λ i. eqb (state_at r i) 0) (from r.n (64 - r.n)) =
    c.zero_bytes-ended.ensures ∙ ap (list_all (λ b. eqb b 0)) c.split_at.ensures.back ∙ all_past (λ b. eqb b 0) r.states 0 r.n (omega arith)
    ∙ ap (λ (k : ℕ). all (λ i. eqb (state_at r i) 0) (from r.n (k - r.n))) ls in
    let rest : c.unused-rest.result ≡ all (λ k. is_none (step_at r k)) (from r.count (64 - r.count)) =
    c.unused-rest.ensures ∙ all_places is_none r.steps no_step (length r.steps - r.count) r.count (omega arith) ∙ ap (λ (n : ℕ). all (λ k. is_none (step_at r k)) (from r.count (n - r.count))) lt in
    let x : c.if-steps.result ≡ (c.constant_fine-constant.result && c.zero_bytes-ended.result && c.steps_fine-steps.result && c.unused-rest.result) = grind arith in
    rw (x, low, few, known, within, ended, c.steps_fine-steps.ensures, rest) (ap not (in_order _ _ _ _ _))
