-- Laws of the run that need nothing of the reductions: each thing due uses one unit, and a run that is cut short has used them all.
-- Assumes nothing.
use Rattle.std.specs.Prelude.{◌≡◌, refl, true, false, cond, List, [], ◌∷◌, ◌++◌, ℕ, zero, suc, ◌+◌, ◌≤◌}
use Rattle.std.proofs.Common.{sym, ap, ◌∙◌, subst, append_assoc, append-nil, not-suc-le-zero, le_of_suc-le-suc, arith}
use Rattle.rules.specs.Eliminate.{Step}
use Rattle.rules.specs.SmallBlock.{Block, none, members, find_block}
use Rattle.rules.specs.Outcome.{units}
use Rattle.rules.specs.Options.{small_block}
use Rattle.rules.specs.declared.Options.{Options}
use Rattle.rules.specs.Run.{State, Way, inactive, low, into, three, failed, idle, way, reduced, skipped, go, take_front, blocked, Next, over, due, due_block, due_at, next, Ended, onward, run}
use Rattle.whole.specs.Tests.{clash}

go_units : (w : Way) (opt : Options) (i : ℕ) (s : State) → units (go w opt i s) ≡ units s
unfolding go reduced skipped
go_units inactive opt i s = refl
go_units low opt i s = refl
go_units (into j) opt i s = refl
go_units three opt i s = refl
go_units failed opt i s = refl
go_units idle opt i s = refl

-- what is due uses one unit
OneMore : State → Next → Type 0
OneMore s over = Unit {0}
OneMore s (due t) = units t ≡ units s + 1

block_one : (opt : Options) (s : State) (b : Block) → OneMore s (due_block opt s b)
unfolding OneMore due_block blocked
block_one opt s none = tt
block_one opt s (members b) = omega arith

due_one : (opt : Options) (s : State) (q : List ℕ) → OneMore s (due_at opt s q)
unfolding OneMore due_at take_front
due_one opt s [] = block_one opt s (cond (small_block opt) (find_block s.graph) none)
due_one opt s (i ∷ q) = omega (arith, go_units (way opt s.graph i) opt i (take_front q s))

pub next_unit : (opt : Options) (s t : State) → next opt s ≡ due t → units t ≡ units s + 1
unfolding OneMore
next_unit opt s t e = subst (OneMore s) e (due_one opt s s.queue)

-- a run uses at most its budget, and all of it where it is cut short
unfoldable pub Used : ℕ → State → Ended → Type 0
Used b s e = (units e.state ≤ units s + b) × (e.complete ≡ false → units e.state ≡ units s + b)

pub run_used : (b : ℕ) (opt : Options) (s : State) → Used b s (run b opt s)
unfolding Used OneMore run
run_used zero opt s = end (next opt s)
  where
    end : (x : Next) → Used zero s (onward x s (λ t. record { state = s; complete = false }))
    end over = (omega arith, λ p. clash {b = true} refl p)
    end (due t) = (omega arith, λ p. omega arith)
run_used (suc b) opt s = more (next opt s) (due_one opt s s.queue) (λ t. run_used b opt t)
  where
    more : (x : Next) → OneMore s x → ((t : State) → Used b t (run b opt t)) → Used (suc b) s (onward x s (λ t. run b opt t))
    more over o r = (omega arith, λ p. clash {b = true} refl p)
    more (due t) o r = (omega (arith, (r t).0), λ p. omega (arith, (r t).1 p))

-- ---- what everything due keeps is kept by the run, at every budget
pub run_keeps : (opt : Options) (P : State → Type 0) → ((s t : State) → next opt s ≡ due t → P s → P t) → (b : ℕ) (s : State) → P s → P (run b opt s).state
unfolding run
run_keeps opt P step zero s p = end (next opt s)
  where
    end : (x : Next) → P (onward x s (λ t. record { state = s; complete = false })).state
    end over = p
    end (due t) = p
run_keeps opt P step (suc b) s p = more (next opt s) refl (run_keeps opt P step b)
  where
    more : (x : Next) → next opt s ≡ x → ((t : State) → P t → P (run b opt t).state) → P (onward x s (λ t. run b opt t)).state
    more over e r = p
    more (due t) e r = r t (step s t e p)

-- ---- more budget, same path
-- the steps of t begin with those of s
pub record Prefix (s t : List Step) : Type 0 where
  pub then : List Step
  pub is : t ≡ s ++ then

prefix_refl : (s : List Step) → Prefix s s
prefix_refl s = record { then = []; is = sym (append-nil s) }

prefix_trans : {a b c : List Step} → Prefix a b → Prefix b c → Prefix a c
prefix_trans {a} {b} {c} p q = record { then = p.then ++ q.then; is = q.is ∙ ap (λ (l : List Step). l ++ q.then) p.is ∙ append_assoc a p.then q.then }

go_steps : (w : Way) (opt : Options) (i : ℕ) (s : State) → Prefix s.steps (go w opt i s).steps
unfolding go reduced skipped
go_steps inactive opt i s = prefix_refl s.steps
go_steps low opt i s = record { then = _; is = refl }
go_steps (into j) opt i s = record { then = _; is = refl }
go_steps three opt i s = record { then = _; is = refl }
go_steps failed opt i s = prefix_refl s.steps
go_steps idle opt i s = prefix_refl s.steps

Longer : State → Next → Type 0
Longer s over = Unit {0}
Longer s (due t) = Prefix s.steps t.steps

block_longer : (opt : Options) (s : State) (b : Block) → Longer s (due_block opt s b)
unfolding Longer due_block blocked
block_longer opt s none = tt
block_longer opt s (members b) = record { then = _; is = refl }

due_longer : (opt : Options) (s : State) (q : List ℕ) → Longer s (due_at opt s q)
unfolding Longer due_at take_front
due_longer opt s [] = block_longer opt s (cond (small_block opt) (find_block s.graph) none)
due_longer opt s (i ∷ q) = go_steps (way opt s.graph i) opt i (take_front q s)

run_longer : (c : ℕ) (opt : Options) (s : State) → Prefix s.steps (run c opt s).state.steps
unfolding Longer
run_longer c opt s = run_keeps opt (λ t. Prefix s.steps t.steps) (λ a t e p. prefix_trans p (subst (Longer a) e (due_longer opt a a.queue))) c s (prefix_refl s.steps)

-- the steps of a smaller budget begin those of a larger one
pub budget_path : (b c : ℕ) (opt : Options) (s : State) → b ≤ c → Prefix (run b opt s).state.steps (run c opt s).state.steps
unfolding run
budget_path zero c opt s h = end (next opt s) (run_longer c opt s)
  where
    end : (x : Next) → Prefix s.steps (run c opt s).state.steps
        → Prefix (onward x s (λ t. record { state = s; complete = false })).state.steps (run c opt s).state.steps
    end over r = r
    end (due t) r = r
budget_path (suc b) zero opt s h = absurd (not-suc-le-zero h)
budget_path (suc b) (suc c) opt s h = more (next opt s) (λ t. budget_path b c opt t (le_of_suc-le-suc h))
  where
    more : (x : Next) → ((t : State) → Prefix (run b opt t).state.steps (run c opt t).state.steps)
        → Prefix (onward x s (λ t. run b opt t)).state.steps (onward x s (λ t. run c opt t)).state.steps
    more over r = prefix_refl s.steps
    more (due t) r = r t
