-- A run of the plain vote over two lent columns, without resets: its answer, and what it writes.
use Rattle.std.specs.Prelude.{ℕ, ◌<◌, ◌≡◌, Bool, false, ◌||◌, length, get_or, None}
use mathlib.Core.List.{List, map, zip}
use Rattle.rules.specs.Limits.{bad_count, differ}
use Rattle.trace.specs.Trace.{trace}
use Rattle.trace.specs.Answers.{pair_answer, after}
use Rattle.trace.specs.Answers.{RunResult}
use Rattle.trace.specs.Answers.{done}
use Rattle.vote.specs.declared.Vote.{Vote}
use Rattle.vote.specs.Answers.{VoteStep}
use Rattle.vote.specs.Answers.{word_of, mark_of, which_of}
use Rattle.vote.specs.Vote.{fresh, clauses, made_of, step_of}
use Rattle.vote.specs.Which.{NotNeither}

-- a step leaves a state, and shows a word, a mark byte and which unit still shows the last agreed word
abbrev pub leaves : VoteStep → Vote
leaves t = t.state

abbrev pub shown_word : VoteStep → ℕ
shown_word t = word_of t.answer

abbrev pub shown_mark : VoteStep → ℕ
shown_mark t = mark_of t.answer

abbrev pub shown_which : VoteStep → ℕ
shown_which t = which_of t.answer

-- one step for each sample, a pair of words, with no reset: by the clauses, and by the public call
abbrev pub plain : Vote → ℕ × ℕ → VoteStep
plain s x = clauses s x.0 x.1 false

abbrev pub public_plain : Vote → ℕ × ℕ → VoteStep
public_plain s x = step_of s x.0 x.1 false

abbrev pub steps : Vote → List (ℕ × ℕ) → List VoteStep
steps = trace plain leaves

abbrev pub public_steps : Vote → List (ℕ × ℕ) → List VoteStep
public_steps = trace public_plain leaves

-- 4: an output slice has another length than the first column
abbrev pub unequal : List ℕ → List ℕ → List ℕ → List ℕ → Bool
unequal a words marks which = differ (length a) (length words) || differ (length a) (length marks) || differ (length a) (length which)

abbrev pub answer_of : ℕ → ℕ → ℕ → List ℕ → List ℕ → List ℕ → List ℕ → List ℕ → RunResult
answer_of n need word a b words marks which = pair_answer (bad_count need) n word a b (unequal a words marks which)

-- what a run promises of its answer and of each lent slice
pub record Ran (n need word : ℕ) (a b words marks which : List ℕ) (r : RunResult) (words' marks' which' : List ℕ) : Type 0 where
  pub answered : r ≡ answer_of n need word a b words marks which
  pub words_after : words' ≡ after r words (map shown_word (steps (fresh n need word) (zip a b)))
  pub marks_after : marks' ≡ after r marks (map shown_mark (steps (fresh n need word) (zip a b)))
  pub which_after : which' ≡ after r which (map shown_which (steps (fresh n need word) (zip a b)))
  pub not_neither : r ≡ done → (i : ℕ) → i < length which' → NotNeither n (get_or which' i 0)

-- "a run equals its steps": the public constructor takes n, N and the word, and what the run wrote is what the public steps
-- show, one after the other, from the state that it made
pub record Stepwise (n need word : ℕ) (a b words' marks' which' : List ℕ) : Type 0 where
  pub made : (made_of n need word).refusal ≡ None
  pub words_same : words' ≡ map shown_word (public_steps (made_of n need word).state (zip a b))
  pub marks_same : marks' ≡ map shown_mark (public_steps (made_of n need word).state (zip a b))
  pub which_same : which' ≡ map shown_which (public_steps (made_of n need word).state (zip a b))
