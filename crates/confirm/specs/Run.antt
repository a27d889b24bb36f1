-- A run of confirmation over a lent trace: its answer, and what it writes.
use Rattle.std.specs.Prelude.{ℕ, ◌≡◌, List, map, Bool, ◌||◌, length, None}
use Rattle.rules.specs.Limits.{bad_count, too_long, differ, outside}
use Rattle.trace.specs.Trace.{trace}
use Rattle.trace.specs.Answers.{run_answer, after}
use Rattle.trace.specs.Answers.{RunResult}
use Rattle.confirm.specs.declared.Confirm.{Confirm}
use Rattle.confirm.specs.Answers.{ConfirmStep}
use Rattle.confirm.specs.Answers.{word_of, mark_of}
use Rattle.confirm.specs.Confirm.{fresh, clauses, made_of, step_of}

-- a step leaves a state, and shows a word, a mark byte and a count
abbrev pub leaves : ConfirmStep → Confirm
leaves t = t.state

abbrev pub shown_word : ConfirmStep → ℕ
shown_word t = word_of t.answer

abbrev pub shown_mark : ConfirmStep → ℕ
shown_mark t = mark_of t.answer

abbrev pub shown_count : ConfirmStep → ℕ
shown_count t = t.state.count

-- one step for each sample: by the clauses, and by the public call
abbrev pub steps : Confirm → List ℕ → List ConfirmStep
steps = trace clauses leaves

abbrev pub public_steps : Confirm → List ℕ → List ConfirmStep
public_steps = trace step_of leaves

-- 4: a lent slice has another length than the trace
abbrev pub unequal : List ℕ → List ℕ → List ℕ → List ℕ → Bool
unequal samples words marks counts =
    differ (length samples) (length words) || differ (length samples) (length marks) || differ (length samples) (length counts)

abbrev pub answer_of : ℕ → ℕ → ℕ → List ℕ → List ℕ → List ℕ → List ℕ → RunResult
answer_of n need word samples words marks counts =
    run_answer outside (bad_count need) n word (too_long (length samples)) (unequal samples words marks counts) samples

-- what a run promises of its answer and of each lent slice
pub record Ran (n need word : ℕ) (samples words marks counts : List ℕ) (r : RunResult) (words' marks' counts' : List ℕ) : Type 0 where
  pub answered : r ≡ answer_of n need word samples words marks counts
  pub words_after : words' ≡ after r words (map shown_word (steps (fresh n need word) samples))
  pub marks_after : marks' ≡ after r marks (map shown_mark (steps (fresh n need word) samples))
  pub counts_after : counts' ≡ after r counts (map shown_count (steps (fresh n need word) samples))

-- "a run equals its steps": the public constructor takes n, N and the word, and what the run wrote is what the public steps
-- show, one after the other, from the state that it made
pub record Stepwise (n need word : ℕ) (samples words' marks' counts' : List ℕ) : Type 0 where
  pub made : (made_of n need word).refusal ≡ None
  pub words_same : words' ≡ map shown_word (public_steps (made_of n need word).state samples)
  pub marks_same : marks' ≡ map shown_mark (public_steps (made_of n need word).state samples)
  pub counts_same : counts' ≡ map shown_count (public_steps (made_of n need word).state samples)
