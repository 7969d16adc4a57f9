-- What a reader's answer says, as the definitions have it: a value, and what is left of the text. Assumes nothing.
use Rattle.std.specs.Prelude.{ℕ, List, take, Option, Some, None, Result, Ok, Err}
use Rattle.std.specs.Borrow.{Bor}
use Rattle.rules.specs.Objective as rule
use Rattle.rules.specs.ReadText.{Read, got, bad, Head, Terms, Input, given, refused, objective_of}
use Rattle.rules.specs.Numbers.{number_of}
use Rattle.rules.specs.declared.refusal.Refusal.{Refusal}
use Rattle.read_text.specs.declared.text.Head as code
use Rattle.read_text.specs.declared.text.Terms as code_terms
use Rattle.read_text.specs.declared.text.Text.{Text}

-- xs was read
abbrev pub seen_line : {A : Type 0} → A → Option (Bor (List ℕ)) → Read A
seen_line xs (Some rest) = got xs rest.now
seen_line xs None = bad

-- the code's first line is the definition's
abbrev pub head_of : code.Head → Head
head_of h = record { n = h.n; switches = h.switches; budget = h.budget; terms = h.terms }

-- the k terms at the fronts of the arrays
abbrev pub terms_in : ℕ → code_terms.Terms → Terms
terms_in k t = record { is = take k t.firsts; js = take k t.seconds; ws = take k t.weights }

-- the arrays hold n weights, n fixing bytes and the terms at their fronts
abbrev pub objective_in : Text → rule.Objective
objective_in t = objective_of (head_of t.head) (take t.head.n t.weights) (take t.head.n t.fixings) (terms_in t.head.terms t.terms)

abbrev pub seen_lists : Option Text → Input
seen_lists (Some t) = given (objective_in t)
seen_lists None = refused 13

abbrev pub seen_input : Result Text Refusal → Input
seen_input (Ok t) = given (objective_in t)
seen_input (Err r) = refused (number_of r)
