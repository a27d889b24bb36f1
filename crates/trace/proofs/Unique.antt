-- Each public call's own contract, as the source states it, is its definition applied to the inputs, and so determines the
-- answer. A slice that is lent as `&` cannot change: its type says so.
use contract.Lifetimes.{Lfts}
use lib.ListN.{length}
use Rattle.rules.specs.Limits.{too_long, outside}
use Rattle.rules.specs.Promise.{Fixes}
use Rattle.rules.proofs.Promise.{fixes}
use Rattle.trace.specs.Answers.{at_once, run_number, run_sample, run_answer, pair_answer, four_answer}
use Rattle.trace.proofs.RefusedFromRefusal.from.Reads as from
use Rattle.trace.proofs.number.Reads as number
use Rattle.trace.proofs.sample.Reads as sample
use Rattle.trace.proofs.judge.Reads as judge
use Rattle.trace.proofs.judge_pair.Reads as judge-pair
use Rattle.trace.proofs.judge_four.Reads as judge-four

pub from_unique : Fixes (from.Learnt tt) (λ z e. z) (λ a. at_once a.0)
from_unique = fixes (λ a z e p. p)

pub number_unique : Fixes (number.Learnt tt) (λ z e. z) (λ a. run_number a.0)
number_unique = fixes (λ a z e p. p)

pub sample_unique : Fixes (sample.Learnt tt) (λ z e. z) (λ a. run_sample a.0)
sample_unique = fixes (λ a z e p. p)

pub judge_unique :
    (κs : Lfts 1)
    → Fixes (judge.Learnt κs) (λ z e. z)
    (λ a. let xs = a.1.1.1.0.now in run_answer outside a.0 a.1.0 a.1.1.0 (too_long (length xs)) a.1.1.1.1.0 xs)
judge_unique κs = fixes (λ a z e p. p)

pub judge_pair_unique :
    (κs : Lfts 2)
    → Fixes (judge-pair.Learnt κs) (λ z e. z)
    (λ a. pair_answer a.0 a.1.0 a.1.1.0 a.1.1.1.0.now a.1.1.1.1.0.now a.1.1.1.1.1.0)
judge_pair_unique κs = fixes (λ a z e p. p)

pub judge_four_unique :
    (κs : Lfts 4)
    → Fixes (judge-four.Learnt κs) (λ z e. z)
    (λ a. let units = a.1.1.1 in four_answer a.0 a.1.0 a.1.1.0 units.0.now units.1.0.now units.1.1.0.now units.1.1.1.0.now units.1.1.1.1.0)
judge_four_unique κs = fixes (λ a z e p. p)
