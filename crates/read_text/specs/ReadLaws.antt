-- What the readers' definitions say of a text t at a place, as a reader's code meets it there.
-- Assumes nothing.
use Rattle.std.specs.Prelude.{◌≡◌, refl, List, [], ◌∷◌, ◌++◌, ℕ, ◌+◌, ◌-◌, ◌<◌, ◌≤◌, length, drop, ℤ}
use Rattle.std.proofs.Common.{sub-eq-zero_of_le, drop_of_length-le, drop-cons}
use borrow.Author.Tests.{lt-ltb, le-ltb}
use Rattle.rules.specs.ReadText.{got, bad, number8, number32, weight, then, line, Head, head, Terms, terms, refused, given, objective_of, last, after_fixings, after_weights, after_head, input}
use Rattle.whole.specs.Counts.{one_left}

-- the terms' lines
pub terms_step : (is js : List ℕ) (ws : List ℤ) (k m : ℕ) (s : List ℕ) → m < k
    → terms is js ws (k - m) s ≡ then (number32 32 s) (λ i s. then (number32 32 s) (λ j s. then (weight 10 s) (λ w s. terms (is ++ (i ∷ [])) (js ++ (j ∷ [])) (ws ++ (w ∷ [])) (k - (m + 1)) s)))
unfolding terms
terms_step is js ws k m s h = rw (one_left k m h)

pub terms_end : (is js : List ℕ) (ws : List ℤ) (k m : ℕ) (s : List ℕ) → k ≤ m → terms is js ws (k - m) s ≡ got (record { is = is; js = js; ws = ws }) s
unfolding terms
terms_end is js ws k m s h = rw (sub-eq-zero_of_le h)

-- the whole
module _ (t : List ℕ) where
  pub input_long : 32768 < length t → input t ≡ refused 13
  unfolding input
  input_long h = rw (lt-ltb 32768 (length t) h)

  pub input_head : length t ≤ 32768 → bad ≡ head t → input t ≡ refused 13
  unfolding input after_head
  input_head h e = rw (le-ltb 32768 (length t) h, ← e)

  -- the first line is good
  module _ (h : Head) (s : List ℕ) (short : length t ≤ 32768) (e : got h s ≡ head t) where
    pub input_many : 64 < h.n → input t ≡ refused 1
    unfolding input after_head
    input_many k = rw (le-ltb 32768 (length t) short, ← e, lt-ltb 64 h.n k)

    module _ (few : h.n ≤ 64) where
      pub input_terms : 1024 < h.terms → input t ≡ refused 13
      unfolding input after_head
      input_terms k = rw (le-ltb 32768 (length t) short, ← e, le-ltb 64 h.n few, lt-ltb 1024 h.terms k)

      pub input_lines : h.terms ≤ 1024 → input t ≡ after_weights h (line weight h.n s)
      unfolding input after_head
      input_lines k = rw (le-ltb 32768 (length t) short, ← e, le-ltb 64 h.n few, le-ltb 1024 h.terms k)

pub weights_bad : (h : Head) → after_weights h bad ≡ refused 13
unfolding after_weights
weights_bad h = refl

pub weights_good : (h : Head) (ws : List ℤ) (s : List ℕ) → after_weights h (got ws s) ≡ after_fixings h ws (line number8 h.n s)
unfolding after_weights
weights_good h ws s = refl

pub fixings_bad : (h : Head) (ws : List ℤ) → after_fixings h ws bad ≡ refused 13
unfolding after_fixings
fixings_bad h ws = refl

pub fixings_good : (h : Head) (ws : List ℤ) (fs s : List ℕ) → after_fixings h ws (got fs s) ≡ last h ws fs (terms [] [] [] h.terms s)
unfolding after_fixings
fixings_good h ws fs s = refl

pub last_bad : (h : Head) (ws : List ℤ) (fs : List ℕ) → last h ws fs bad ≡ refused 13
unfolding last
last_bad h ws fs = refl

pub last_more : (h : Head) (ws : List ℤ) (fs : List ℕ) (ts : Terms) (t : List ℕ) (d : ℕ) → d < length t → last h ws fs (got ts (drop d t)) ≡ refused 13
unfolding last
last_more h ws fs ts t d k = rw (drop-cons t d 0 k)

pub last_end : (h : Head) (ws : List ℤ) (fs : List ℕ) (ts : Terms) (t : List ℕ) (d : ℕ) → length t ≤ d → last h ws fs (got ts (drop d t)) ≡ given (objective_of h ws fs ts)
unfolding last
last_end h ws fs ts t d k = rw (drop_of_length-le t k)
