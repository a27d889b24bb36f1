-- What each case of a tuple vote's answer is in document 01: its refusal number (0 is none), its word, its alarm mask (0 is no
-- alarm) and its mark byte. A refusal shows no word and no mask and has no mark: 0, 0 and 255 stand there.
use Rattle.std.specs.Prelude.{ℕ}
use Rattle.rules.specs.Refusal.{number}
use Rattle.tuple.specs.declared.TupleAnswer.{TupleAnswer}
use Rattle.tuple.specs.declared.TupleAnswer.TheVariants.{Confirmed, Held, Alarm, Refused}

abbrev pub number_of : TupleAnswer → ℕ
number_of (Confirmed w) = 0
number_of (Held w) = 0
number_of (Alarm w m) = 0
number_of (Refused refusal) = number refusal

abbrev pub word_of : TupleAnswer → ℕ
word_of (Confirmed w) = w
word_of (Held w) = w
word_of (Alarm w m) = w
word_of (Refused refusal) = 0

abbrev pub mask_of : TupleAnswer → ℕ
mask_of (Confirmed w) = 0
mask_of (Held w) = 0
mask_of (Alarm w m) = m
mask_of (Refused refusal) = 0

abbrev pub mark_of : TupleAnswer → ℕ
mark_of (Confirmed w) = 0
mark_of (Held w) = 1
mark_of (Alarm w m) = 2
mark_of (Refused refusal) = 255
