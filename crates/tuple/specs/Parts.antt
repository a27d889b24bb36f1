-- Serves proofs only: a step in parts, as a run takes it. The counts step in place, and what else is left stands apart
-- from them.
use Rattle.std.specs.Prelude.{ℕ, ◌≤◌, ◌<◌, ◌≡◌, List, ◌++◌, Bool, false, get_or, drop, replicate}
use Rattle.rules.specs.Bits.{bit}
use Rattle.rules.specs.Signals.{as_word, as_list}
use Rattle.confirm.specs.declared.Confirm.{Confirm}
use Rattle.tuple.specs.declared.Tuple.{Tuple}
use Rattle.tuple.specs.declared.TupleAnswer.{TupleAnswer}
use Rattle.tuple.specs.declared.TupleStep.{TupleStep}
use Rattle.tuple.specs.declared.Voters.{Voters}
use Rattle.tuple.specs.Disagreement.{count_by, alarm_by}
use Rattle.tuple.specs.Tuple.{changed, decided}

-- of the voters of n signals that look at the word d of disagreements, the alarms and the counts, as `voters_by` has them
abbrev pub alarms_by : ℕ → ℕ → List ℕ → ℕ → ℕ
alarms_by n need counts d = as_word n (λ i. alarm_by need (get_or counts i 0) (bit i d))

abbrev pub counts_by : ℕ → ℕ → List ℕ → ℕ → List ℕ
counts_by n need counts d = as_list n (λ i. count_by need (get_or counts i 0) (bit i d)) ++ drop n counts

-- a step: what is decided, with what the voters leave
abbrev pub step_with : Tuple → Voters → Confirm → TupleAnswer → TupleStep
step_with s v left answer = record { state = changed s left v.word v.counts; answer = answer; second = v.second }

-- what is decided of a voted word and an alarm mask: of a state only the confirmation's says what, and of the voters nothing else
abbrev pub Decides : Confirm → ℕ → ℕ → Confirm → TupleAnswer → Type 0
Decides confirm voted mask left answer =
    (s : Tuple) (v : Voters) → s.confirm ≡ confirm → v.word ≡ voted → v.mask ≡ mask → decided s v ≡ step_with s v left answer

-- no place at n or above counts, and none at all where no voter waits
pub record Resting (n : ℕ) (waiting : Bool) (counts : List ℕ) : Type 0 where
  pub above : (k : ℕ) → n ≤ k → k < 32 → get_or counts k 0 ≡ 0
  pub rest : waiting ≡ false → counts ≡ replicate 32 0
