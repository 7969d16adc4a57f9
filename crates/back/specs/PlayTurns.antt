-- Steps played from the last to the first, one a turn: what is played, k steps before the end of the walk.
-- Assumes nothing.
use Rattle.std.specs.Prelude.{◌≡◌, refl, List, [], ◌∷◌, map, reverse, fold, ℕ, zero, suc, ◌-◌, ◌<◌, ◌≤◌, length, get_or, drop}
use Rattle.std.proofs.Common.{arith, ap, ◌∙◌, drop-cons}
use Rattle.std.proofs.lemmas.List.{reverse-append}
use Rattle.std.proofs.lemmas.List.Sums.{fold-append}
use Rattle.std.proofs.Math.Seq.{drop-length}
use Rattle.rules.specs.Back.{play, play_all}
use Rattle.rules.specs.Record.{played, no_step}
use Rattle.rules.specs.declared.Step.{Step}
use Rattle.whole.specs.Counts.{less_one}

-- what the steps of a record make of a plan
abbrev pub plays_back : List Step → List ℕ → List ℕ
plays_back ys x = play_all (map played ys) x

-- nothing is played yet
pub none_played : (ys : List Step) (x : List ℕ) → x ≡ plays_back (drop (length ys) ys) x
unfolding play_all
none_played ys x = rw (drop-length ys)

pub none_played_at : (ys : List Step) (k : ℕ) (x : List ℕ) → length ys ≡ k → x ≡ plays_back (drop k ys) x
none_played_at ys k x e = rw (← e) (none_played ys x)

-- one more is played
pub one_played : (ys : List Step) (k : ℕ) (x y r : List ℕ) → 0 < k → k ≤ length ys → y ≡ plays_back (drop k ys) x → r ≡ play (played (get_or ys (k - 1) no_step)) y → r ≡ plays_back (drop (k - 1) ys) x
unfolding play_all
one_played ys zero x y r h l e f = absurd (omega arith)
one_played ys (suc j) x y r h l e f =
    let p = less_one j in
    let q : j < length ys = omega arith in
    rw (p, drop-cons ys j no_step q) (cc)

-- all are played
pub all_played : (ys : List Step) (k : ℕ) (x y : List ℕ) → k ≤ 0 → y ≡ plays_back (drop k ys) x → y ≡ plays_back ys x
all_played ys zero x y h e = e
all_played ys (suc k) x y h e = absurd (omega arith)

-- the same as one fold over the steps, the last first
pub fold_back : (ys : List Step) (x : List ℕ) → fold (λ x s. play (played s) x) x (reverse ys) ≡ plays_back ys x
unfolding play_all
fold_back [] x = refl
fold_back (y ∷ ys) x =
    ap (fold (λ x s. play (played s) x) x) (reverse-append (y ∷ []) ys)
    ∙ fold-append (λ x s. play (played s) x) x (reverse ys) (y ∷ [])
    ∙ ap (play (played y)) (fold_back ys x)
