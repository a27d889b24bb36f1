-- Each public call's own contract, as the source states it, is its definition applied to the inputs, and so determines the
-- answer and every slice that is lent to be written. A slice that is lent as `&` cannot change: its type says so.
use mathlib.Core.List.{List, map, zip}
use Prim.Native.Nat.{ℕ}
use contract.Lifetimes.{Lfts}
use Rattle.rules.specs.Limits.{default_word}
use Rattle.rules.specs.Promise.{Fixes}
use Rattle.rules.proofs.Promise.{fixes}
use Rattle.trace.specs.Answers.{after}
use Rattle.trace.specs.Answers.{RunResult}
use Rattle.tuple.specs.Answers.{number_of, word_of, mask_of, mark_of}
use Rattle.tuple.specs.Tuple.{fresh, made_of, step_of}
use Rattle.tuple.specs.Run.{steps, shown_word, shown_mask, shown_mark, shown_second, answer_of}
use Rattle.tuple.proofs.TupleAnswer.number.Reads as number
use Rattle.tuple.proofs.TupleAnswer.word.Reads as word
use Rattle.tuple.proofs.TupleAnswer.mask.Reads as mask
use Rattle.tuple.proofs.TupleAnswer.mark.Reads as mark
use Rattle.tuple.proofs.Tuple.from_word.Reads as from-word
use Rattle.tuple.proofs.Tuple.new.Reads as new
use Rattle.tuple.proofs.Tuple.step.Reads as step
use Rattle.tuple.proofs.run.Reads as run

pub number_unique : Fixes (number.Learnt tt) (λ z e. z) (λ a. number_of a.0)
number_unique = fixes (λ a z e p. p)

pub word_unique : Fixes (word.Learnt tt) (λ z e. z) (λ a. word_of a.0)
word_unique = fixes (λ a z e p. p)

pub mask_unique : Fixes (mask.Learnt tt) (λ z e. z) (λ a. mask_of a.0)
mask_unique = fixes (λ a z e p. p)

pub mark_unique : Fixes (mark.Learnt tt) (λ z e. z) (λ a. mark_of a.0)
mark_unique = fixes (λ a z e p. p)

pub from_word_unique : Fixes (from-word.Learnt tt) (λ z e. z) (λ a. made_of a.0 a.1.0 a.1.1.0 a.1.1.1.0)
from_word_unique = fixes (λ a z e p. p)

pub new_unique : Fixes (new.Learnt tt) (λ z e. z) (λ a. made_of a.0 a.1.0 a.1.1.0 (default_word a.0))
new_unique = fixes (λ a z e p. p)

pub step_unique : Fixes (step.Learnt tt) (λ z e. z) (λ a. step_of a.0 a.1.0 a.1.1.0)
step_unique = fixes (λ a z e p. p.0)

-- a run: its answer, and each slice as it leaves it
abbrev pub Seen : Type 0
Seen = RunResult × List ℕ × List ℕ × List ℕ × List ℕ

abbrev pub ran : ℕ → ℕ → ℕ → ℕ → List ℕ → List ℕ → List ℕ → List ℕ → List ℕ → List ℕ → Seen
ran n votes need w a b words masks marks seconds =
    let r = answer_of n votes need w a b words masks marks seconds in
    let taken = steps (fresh n votes need w) (zip a b) in (
      r,
      after r words (map shown_word taken),
      after r masks (map shown_mask taken),
      after r marks (map shown_mark taken),
      after r seconds (map shown_second taken),
    )

pub run_unique :
    (κs : Lfts 6)
    → Fixes {O = Seen} (run.Learnt κs)
    (λ z e. let lent = e.1.1.1.1.1.1 in (z, lent.0.now, lent.1.0.now, lent.1.1.0.now, lent.1.1.1.0.now))
    (λ a.
    let lent = a.1.1.1.1 in
    ran a.0 a.1.0 a.1.1.0 a.1.1.1.0 lent.0.now lent.1.0.now
    lent.1.1.0.now lent.1.1.1.0.now lent.1.1.1.1.0.now lent.1.1.1.1.1.0.now)
run_unique κs = fixes (λ a z e p. cc)
