-- 01, "Numbers given back when a call says no": the number of each row, and of what a call answers.
-- Assumes nothing.
use Rattle.std.specs.Prelude.{ℕ, Result, Ok, Err}
use Rattle.rules.specs.declared.refusal.Refusal.{Refusal}
use Rattle.rules.specs.declared.refusal.Refusal.TheVariants.{Decisions, Lengths, Index, Fixing, Switches, Weight, AnswerLength, AnswerByte, BlockLength, Check, Edition, Body, Text}

abbrev pub number_of : Refusal → ℕ
-- "n over 64"
number_of Decisions = 1
-- "weight or fixing list not n long; term lists of unequal length or over 4,096; .."
number_of Lengths = 2
-- "a term index is n or more"
number_of Index = 3
-- "a fixing byte over 2"
number_of Fixing = 4
-- "a switch bit above bit 3"
number_of Switches = 5
-- "the size rule broken"
number_of Weight = 6
-- "answer or plan of wrong length, or output not n long"
number_of AnswerLength = 7
-- "an answer or plan byte over 1"
number_of AnswerByte = 8
-- "record block not 512 long"
number_of BlockLength = 9
-- "block check wrong"
number_of Check = 10
-- "edition byte not 3"
number_of Edition = 11
-- "record body broken, read or passed in"
number_of Body = 12
-- "program only: text malformed, .."
number_of Text = 13

-- a call that says yes answers 0, one that says no the number of its row
abbrev pub answer_of : {A : Type 0} → Result A Refusal → ℕ
answer_of (Ok x) = 0
answer_of (Err r) = number_of r
