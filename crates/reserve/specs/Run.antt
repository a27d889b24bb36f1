-- A run of the reserve vote over four lent columns, units 1 to 4: its answer, and what it writes.
use Rattle.std.specs.Prelude.{ℕ, ◌<◌, ◌≡◌, length, get_or, None}
use mathlib.Core.List.{List, map, zip}
use Rattle.rules.specs.Limits.{bad_count}
use Rattle.trace.specs.Trace.{trace, left}
use Rattle.trace.specs.Answers.{four_answer, after}
use Rattle.trace.specs.Answers.{RunResult}
use Rattle.trace.specs.Answers.{done}
use Rattle.vote.specs.Answers.{word_of, mark_of, which_of}
use Rattle.vote.specs.Run.{unequal}
use Rattle.vote.specs.Which.{NotNeither}
use Rattle.reserve.specs.declared.Reserve.{Reserve}
use Rattle.reserve.specs.declared.ReserveStep.{ReserveStep}
use Rattle.reserve.specs.Reserve.{fresh, clauses, made_of, step_of}

-- a step leaves a state, and shows a word, a mark byte and which unit of its pair still shows the last agreed word
abbrev pub leaves : ReserveStep → Reserve
leaves t = t.state

abbrev pub shown_word : ReserveStep → ℕ
shown_word t = word_of t.answer

abbrev pub shown_mark : ReserveStep → ℕ
shown_mark t = mark_of t.answer

abbrev pub shown_which : ReserveStep → ℕ
shown_which t = which_of t.answer

-- and tells the pair that was voted on, which a run does not write
abbrev pub shown_pair : ReserveStep → ℕ
shown_pair t = t.pair

-- a sample is what both pairs show; one step for each: by the clauses, and by the public call
abbrev pub Sample : Type 0
Sample = (ℕ × ℕ) × (ℕ × ℕ)

abbrev pub stepped : Reserve → Sample → ReserveStep
stepped s x = clauses s x.0.0 x.0.1 x.1.0 x.1.1

abbrev pub public_step : Reserve → Sample → ReserveStep
public_step s x = step_of s x.0.0 x.0.1 x.1.0 x.1.1

abbrev pub steps : Reserve → List Sample → List ReserveStep
steps = trace stepped leaves

abbrev pub public_steps : Reserve → List Sample → List ReserveStep
public_steps = trace public_step leaves

-- the state that they leave
abbrev pub left_by : Reserve → List Sample → Reserve
left_by = left stepped leaves

abbrev pub left_by_public : Reserve → List Sample → Reserve
left_by_public = left public_step leaves

abbrev pub samples_of : List ℕ → List ℕ → List ℕ → List ℕ → List Sample
samples_of a b c d = zip (zip a b) (zip c d)

-- the slices are measured as the vote's are
abbrev pub answer_of : ℕ → ℕ → ℕ → List ℕ → List ℕ → List ℕ → List ℕ → List ℕ → List ℕ → List ℕ → RunResult
answer_of n need word a b c d words marks which = four_answer (bad_count need) n word a b c d (unequal a words marks which)

-- what a run promises of its answer and of each lent slice
pub record Ran (n need word : ℕ) (a b c d words marks which : List ℕ) (r : RunResult) (words' marks' which' : List ℕ) : Type 0 where
  pub answered : r ≡ answer_of n need word a b c d words marks which
  pub words_after : words' ≡ after r words (map shown_word (steps (fresh n need word) (samples_of a b c d)))
  pub marks_after : marks' ≡ after r marks (map shown_mark (steps (fresh n need word) (samples_of a b c d)))
  pub which_after : which' ≡ after r which (map shown_which (steps (fresh n need word) (samples_of a b c d)))
  pub not_neither : r ≡ done → (i : ℕ) → i < length which' → NotNeither n (get_or which' i 0)

-- "a run equals its steps": the public constructor takes n, N and the word, and what the run wrote is what the public steps
-- show, one after the other, from the state that it made
pub record Stepwise (n need word : ℕ) (a b c d words' marks' which' : List ℕ) : Type 0 where
  pub made : (made_of n need word).refusal ≡ None
  pub words_same : words' ≡ map shown_word (public_steps (made_of n need word).state (samples_of a b c d))
  pub marks_same : marks' ≡ map shown_mark (public_steps (made_of n need word).state (samples_of a b c d))
  pub which_same : which' ≡ map shown_which (public_steps (made_of n need word).state (samples_of a b c d))
