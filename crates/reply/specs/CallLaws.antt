-- A call of `reduce` on outputs of the right lengths is fit to be written, and what is written of it is the program's reply.
-- Assumes nothing.
use Rattle.std.specs.Prelude.{◌≡◌, List, ℕ, length, ℤ, Result, IfOk}
use Rattle.rules.specs.Objective.{Objective}
use Rattle.rules.specs.ReadText.{given}
use Rattle.rules.specs.Program.{reply}
use Rattle.rules.specs.declared.Reduction.{Reduction}
use Rattle.rules.specs.declared.refusal.Refusal.{Refusal}
use Rattle.reduce.specs.Gives.{Gives}
use Rattle.write_text.specs.Outcomes.{Fair, replied}
use Rattle.decimal.specs.Puts.{AtFront}
use Rattle.write_text.specs.CallLaws.{call_fair, call_replied}
use Rattle.reply.specs.Shape.{reported_shape}

module _ {o : Objective} {l e l' e' : List ℤ} {r : Result Reduction Refusal} (weights : length l ≡ 64) (cells : length e ≡ 4096) (g : Gives o l e r l' e') where
  pub gives_fair : IfOk r (λ x. Fair x l' e') × (length l' ≡ 64) × (length e' ≡ 4096)
  gives_fair = rw (g.linear, g.edges) (call_fair o l e weights cells (reported_shape o) r g.reduction)

  pub gives_shown : {out out' : List ℕ} {n : ℕ} → AtFront out (replied r l' e') out' n → AtFront out (reply (given o)) out' n
  gives_shown s = rw (g.linear, g.edges, call_replied o l e weights cells (reported_shape o) r g.reduction) at s
