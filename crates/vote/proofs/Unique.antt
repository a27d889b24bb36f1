-- Each public call's own contract, as the source states it, is its definition applied to the inputs, and so determines the
-- answer and every slice that is lent to be written. A slice that is lent as `&` cannot change: its type says so.
use mathlib.Core.Bool.{Bool}
use mathlib.Core.List.{List, ◌++◌, map, zip}
use Prim.Native.Nat.{ℕ}
use lib.ListN.{take, drop}
use contract.Lifetimes.{Lfts}
use Rattle.rules.specs.Limits.{default_word}
use Rattle.rules.specs.Promise.{Fixes}
use Rattle.rules.proofs.Promise.{fixes}
use Rattle.trace.specs.Answers.{after}
use Rattle.trace.specs.Answers.{RunResult}
use Rattle.vote.specs.declared.Vote.{Vote as State}
use Rattle.vote.specs.declared.VotePart.{VotePart}
use Rattle.vote.specs.Answers.{number_of, word_of, mark_of, byte_of, which_of}
use Rattle.vote.specs.Parts.{part_of}
use Rattle.vote.specs.Vote
use Rattle.vote.specs.Vote.{fresh, made_of, step_of}
use Rattle.vote.specs.Run.{steps, shown_word, shown_mark, shown_which, answer_of}
use Rattle.vote.proofs.VoteAnswer.number.Reads as number
use Rattle.vote.proofs.VoteAnswer.word.Reads as word
use Rattle.vote.proofs.VoteAnswer.mark.Reads as mark
use Rattle.vote.proofs.VoteAnswer.which.Reads as which
use Rattle.vote.proofs.Which.byte.Reads as byte
use Rattle.vote.proofs.Vote.from_word.Reads as from-word
use Rattle.vote.proofs.Vote.new.Reads as new
use Rattle.vote.proofs.Vote.clauses.Reads as clauses
use Rattle.vote.proofs.Vote.step.Reads as step
use Rattle.vote.proofs.run.Reads as run
use Rattle.vote.proofs.columns.write_steps.Reads as write-steps

pub number_unique : Fixes (number.Learnt tt) (λ z e. z) (λ a. number_of a.0)
number_unique = fixes (λ a z e p. p)

pub word_unique : Fixes (word.Learnt tt) (λ z e. z) (λ a. word_of a.0)
word_unique = fixes (λ a z e p. p)

pub mark_unique : Fixes (mark.Learnt tt) (λ z e. z) (λ a. mark_of a.0)
mark_unique = fixes (λ a z e p. p)

pub which_unique : Fixes (which.Learnt tt) (λ z e. z) (λ a. which_of a.0)
which_unique = fixes (λ a z e p. p)

pub byte_unique : Fixes (byte.Learnt tt) (λ z e. z) (λ a. byte_of a.0)
byte_unique = fixes (λ a z e p. p)

pub from_word_unique : Fixes (from-word.Learnt tt) (λ z e. z) (λ a. made_of a.0 a.1.0 a.1.1.0)
from_word_unique = fixes (λ a z e p. p)

pub new_unique : Fixes (new.Learnt tt) (λ z e. z) (λ a. made_of a.0 a.1.0 (default_word a.0))
new_unique = fixes (λ a z e p. p)

pub clauses_unique : Fixes (clauses.Learnt tt) (λ z e. z) (λ a. Vote.clauses a.0 a.1.0 a.1.1.0 a.1.1.1.0)
clauses_unique = fixes (λ a z e p. p)

pub step_unique : Fixes (step.Learnt tt) (λ z e. z) (λ a. step_of a.0 a.1.0 a.1.1.0 a.1.1.1.0)
step_unique = fixes (λ a z e p. p.0)

-- a run: its answer, and each slice as it leaves it
abbrev pub Seen : Type 0
Seen = RunResult × List ℕ × List ℕ × List ℕ

abbrev pub ran : ℕ → ℕ → ℕ → List ℕ → List ℕ → List ℕ → List ℕ → List ℕ → Seen
ran n need w a b words marks which =
    let r = answer_of n need w a b words marks which in
    let taken = steps (fresh n need w) (zip a b) in
    (r, after r words (map shown_word taken), after r marks (map shown_mark taken), after r which (map shown_which taken))

pub run_unique :
    (κs : Lfts 5)
    → Fixes {O = Seen} (run.Learnt κs)
    (λ z e. let lent = e.1.1.1.1.1 in (z, lent.0.now, lent.1.0.now, lent.1.1.0.now))
    (λ a. let lent = a.1.1.1 in
    ran a.0 a.1.0 a.1.1.0 lent.0.now lent.1.0.now lent.1.1.0.now lent.1.1.1.0.now lent.1.1.1.1.0.now)
run_unique κs = fixes (λ a z e p. cc)

-- the steps over two columns: what is taken and left, and each slice
abbrev Went : Type 0
Went = VotePart × List ℕ × List ℕ × List ℕ

abbrev went : Bool → State → List ℕ → List ℕ → List ℕ → List ℕ → List ℕ → Went
went once s a b words marks which =
    let r = part_of once s a b words marks which in
    let taken = steps s (take r.end (zip a b)) in
    (r, map shown_word taken ++ drop r.end words, map shown_mark taken ++ drop r.end marks, map shown_which taken ++ drop r.end which)

pub write_steps_unique :
    (κs : Lfts 5)
    → Fixes {O = Went} (write-steps.Learnt κs)
    (λ z e. let lent = e.1.1.1.1 in (z, lent.0.now, lent.1.0.now, lent.1.1.0.now))
    (λ a. let lent = a.1.1 in
    went a.1.0 a.0 lent.0.now lent.1.0.now lent.1.1.0.now lent.1.1.1.0.now lent.1.1.1.1.0.now)
write_steps_unique κs = fixes (λ a z e p. cc)
