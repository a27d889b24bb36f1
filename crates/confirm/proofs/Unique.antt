-- Each public call's own contract, as the source states it, is its definition applied to the inputs, and so determines the
-- answer and every slice that is lent to be written. A slice that is lent as `&` cannot change: its type says so.
use mathlib.Core.List.{List, map}
use Prim.Native.Nat.{ℕ}
use contract.Lifetimes.{Lfts}
use Rattle.rules.specs.Limits.{default_word}
use Rattle.rules.specs.Promise.{Fixes}
use Rattle.rules.proofs.Promise.{fixes}
use Rattle.trace.specs.Answers.{after}
use Rattle.trace.specs.Answers.{RunResult}
use Rattle.confirm.specs.Answers.{number_of, word_of, mark_of}
use Rattle.confirm.specs.Confirm
use Rattle.confirm.specs.Confirm.{fresh, made_of, step_of}
use Rattle.confirm.specs.Run.{steps, shown_word, shown_mark, shown_count, answer_of}
use Rattle.confirm.proofs.ConfirmAnswer.number.Reads as number
use Rattle.confirm.proofs.ConfirmAnswer.word.Reads as word
use Rattle.confirm.proofs.ConfirmAnswer.mark.Reads as mark
use Rattle.confirm.proofs.Confirm.from_word.Reads as from-word
use Rattle.confirm.proofs.Confirm.new.Reads as new
use Rattle.confirm.proofs.Confirm.clauses.Reads as clauses
use Rattle.confirm.proofs.Confirm.step.Reads as step
use Rattle.confirm.proofs.run.Reads as run

pub number_unique : Fixes (number.Learnt tt) (λ z e. z) (λ a. number_of a.0)
number_unique = fixes (λ a z e p. p)

pub word_unique : Fixes (word.Learnt tt) (λ z e. z) (λ a. word_of a.0)
word_unique = fixes (λ a z e p. p)

pub mark_unique : Fixes (mark.Learnt tt) (λ z e. z) (λ a. mark_of a.0)
mark_unique = fixes (λ a z e p. p)

pub from_word_unique : Fixes (from-word.Learnt tt) (λ z e. z) (λ a. made_of a.0 a.1.0 a.1.1.0)
from_word_unique = fixes (λ a z e p. p)

pub new_unique : Fixes (new.Learnt tt) (λ z e. z) (λ a. made_of a.0 a.1.0 (default_word a.0))
new_unique = fixes (λ a z e p. p)

pub clauses_unique : Fixes (clauses.Learnt tt) (λ z e. z) (λ a. Confirm.clauses a.0 a.1.0)
clauses_unique = fixes (λ a z e p. p)

pub step_unique : Fixes (step.Learnt tt) (λ z e. z) (λ a. step_of a.0 a.1.0)
step_unique = fixes (λ a z e p. p)

-- a run: its answer, and the words, marks and counts as it leaves them
abbrev pub Seen : Type 0
Seen = RunResult × List ℕ × List ℕ × List ℕ

abbrev pub ran : ℕ → ℕ → ℕ → List ℕ → List ℕ → List ℕ → List ℕ → Seen
ran n need w samples words marks counts =
    let r = answer_of n need w samples words marks counts in
    let taken = steps (fresh n need w) samples in
    (r, after r words (map shown_word taken), after r marks (map shown_mark taken), after r counts (map shown_count taken))

pub run_unique :
    (κs : Lfts 4)
    → Fixes {O = Seen} (run.Learnt κs)
    (λ z e. (z, e.1.1.1.1.0.now, e.1.1.1.1.1.0.now, e.1.1.1.1.1.1.0.now))
    (λ a. ran a.0 a.1.0 a.1.1.0 a.1.1.1.0.now a.1.1.1.1.0.now a.1.1.1.1.1.0.now a.1.1.1.1.1.1.0.now)
run_unique κs = fixes (λ a z e p. cc)
