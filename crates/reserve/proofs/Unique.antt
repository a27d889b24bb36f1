-- Each public call's own contract, as the source states it, is its definition applied to the inputs, and so determines the
-- answer and every slice that is lent to be written. A slice that is lent as `&` cannot change: its type says so.
use mathlib.Core.List.{List, map}
use Prim.Native.Nat.{ℕ}
use contract.Lifetimes.{Lfts}
use Rattle.rules.specs.Limits.{default_word}
use Rattle.rules.specs.Promise.{Fixes}
use Rattle.rules.proofs.Promise.{fixes}
use Rattle.trace.specs.Answers.{after}
use Rattle.trace.specs.Answers.{RunResult}
use Rattle.reserve.specs.Pairs.{pairs_in}
use Rattle.reserve.specs.Reserve
use Rattle.reserve.specs.Reserve.{fresh, made_of, step_of}
use Rattle.reserve.specs.Run.{steps, shown_word, shown_mark, shown_which, samples_of, answer_of}
use Rattle.reserve.proofs.Reserve.from_word.Reads as from-word
use Rattle.reserve.proofs.Reserve.new.Reads as new
use Rattle.reserve.proofs.Reserve.clauses.Reads as clauses
use Rattle.reserve.proofs.Reserve.step.Reads as step
use Rattle.reserve.proofs.run.Reads as run
use Rattle.reserve.proofs.pairs.tell_pairs.Reads as tell-pairs

pub from_word_unique : Fixes (from-word.Learnt tt) (λ z e. z) (λ a. made_of a.0 a.1.0 a.1.1.0)
from_word_unique = fixes (λ a z e p. p)

pub new_unique : Fixes (new.Learnt tt) (λ z e. z) (λ a. made_of a.0 a.1.0 (default_word a.0))
new_unique = fixes (λ a z e p. p)

pub clauses_unique : Fixes (clauses.Learnt tt) (λ z e. z) (λ a. Reserve.clauses a.0 a.1.0 a.1.1.0 a.1.1.1.0 a.1.1.1.1.0)
clauses_unique = fixes (λ a z e p. p)

pub step_unique : Fixes (step.Learnt tt) (λ z e. z) (λ a. step_of a.0 a.1.0 a.1.1.0 a.1.1.1.0 a.1.1.1.1.0)
step_unique = fixes (λ a z e p. p.0)

-- a run: its answer, and each slice as it leaves it
abbrev pub Seen : Type 0
Seen = RunResult × List ℕ × List ℕ × List ℕ

abbrev pub ran : ℕ → ℕ → ℕ → List ℕ → List ℕ → List ℕ → List ℕ → List ℕ → List ℕ → List ℕ → Seen
ran n need w a b c d words marks which =
    let r = answer_of n need w a b c d words marks which in
    let taken = steps (fresh n need w) (samples_of a b c d) in
    (r, after r words (map shown_word taken), after r marks (map shown_mark taken), after r which (map shown_which taken))

pub run_unique :
    (κs : Lfts 7)
    → Fixes {O = Seen} (run.Learnt κs)
    (λ z e. let lent = e.1.1.1.1.1.1.1 in (z, lent.0.now, lent.1.0.now, lent.1.1.0.now))
    (λ a.
    let units = a.1.1.1 in
    let lent = units.1.1.1.1 in
    ran a.0 a.1.0 a.1.1.0 units.0.now units.1.0.now units.1.1.0.now units.1.1.1.0.now
    lent.0.now lent.1.0.now lent.1.1.0.now)
run_unique κs = fixes (λ a z e p. cc)

-- the pairs, told from marks: the slice as it is left
pub tell_pairs_unique : (κs : Lfts 2) → Fixes {O = List ℕ} (tell-pairs.Learnt κs) (λ z e. e.1.0.now) (λ a. pairs_in a.0.now a.1.0.now)
tell_pairs_unique κs = fixes (λ a z e p. p)
