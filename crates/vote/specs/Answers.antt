-- What each case of a vote's answer is in document 01: its refusal number (0 is none), its word, its mark byte, and, T-09 of
-- document 02, the byte that tells which unit still shows the last agreed word. A refusal shows no word, has no mark and tells of
-- no unit: 0, 255 and 0 stand there.
use Rattle.std.specs.Prelude.{ℕ}
use Rattle.rules.specs.declared.answers.Step.{Step}
use Rattle.rules.specs.Refusal.{number}
use Rattle.vote.specs.declared.Vote.{Vote}
use Rattle.vote.specs.declared.VoteAnswer.{VoteAnswer}
use Rattle.vote.specs.declared.VoteAnswer.TheVariants.{Agreed, Held, Alarm, Refused}
use Rattle.vote.specs.declared.Which.{Which}
use Rattle.vote.specs.declared.Which.TheVariants.{First, Second, Neither}

-- beside the state that a step leaves
abbrev pub VoteStep : Type 0
VoteStep = Step Vote VoteAnswer

abbrev pub number_of : VoteAnswer → ℕ
number_of (Agreed w) = 0
number_of (Held w u) = 0
number_of (Alarm w u) = 0
number_of (Refused refusal) = number refusal

abbrev pub word_of : VoteAnswer → ℕ
word_of (Agreed w) = w
word_of (Held w u) = w
word_of (Alarm w u) = w
word_of (Refused refusal) = 0

abbrev pub mark_of : VoteAnswer → ℕ
mark_of (Agreed w) = 0
mark_of (Held w u) = 1
mark_of (Alarm w u) = 2
mark_of (Refused refusal) = 255

-- "a byte 0 agreed, 1 first, 2 second, 3 neither"
abbrev pub byte_of : Which → ℕ
byte_of First = 1
byte_of Second = 2
byte_of Neither = 3

abbrev pub which_of : VoteAnswer → ℕ
which_of (Agreed w) = 0
which_of (Held w u) = byte_of u
which_of (Alarm w u) = byte_of u
which_of (Refused refusal) = 0
