-- What each case of a confirmation's answer is in document 01: its refusal number (0 is none), its word and its mark byte.
-- A refusal shows no word and has no mark: 0 and 255 stand there.
use Rattle.std.specs.Prelude.{ℕ}
use Rattle.rules.specs.declared.answers.Step.{Step}
use Rattle.rules.specs.Refusal.{number}
use Rattle.confirm.specs.declared.Confirm.{Confirm}
use Rattle.confirm.specs.declared.ConfirmAnswer.{ConfirmAnswer}
use Rattle.confirm.specs.declared.ConfirmAnswer.TheVariants.{Confirmed, Held, Refused}

-- beside the state that a step leaves
abbrev pub ConfirmStep : Type 0
ConfirmStep = Step Confirm ConfirmAnswer

abbrev pub number_of : ConfirmAnswer → ℕ
number_of (Confirmed w) = 0
number_of (Held w) = 0
number_of (Refused refusal) = number refusal

abbrev pub word_of : ConfirmAnswer → ℕ
word_of (Confirmed w) = w
word_of (Held w) = w
word_of (Refused refusal) = 0

abbrev pub mark_of : ConfirmAnswer → ℕ
mark_of (Confirmed w) = 0
mark_of (Held w) = 1
mark_of (Refused refusal) = 255
