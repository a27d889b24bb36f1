-- A run of the tuple vote over two lent columns: its answer, and what it writes.
use Rattle.std.specs.Prelude.{ℕ, ◌<◌, ◌≡◌, Bool, ◌||◌, length, get_or, take, None}
use mathlib.Core.List.{List, map, zip}
use Rattle.rules.specs.Bits.{bit}
use Rattle.rules.specs.Limits.{differ}
use Rattle.trace.specs.Trace.{trace}
use Rattle.trace.specs.Answers.{pair_answer, after}
use Rattle.trace.specs.Answers.{RunResult}
use Rattle.trace.specs.Answers.{done}
use Rattle.vote.specs.Which.{last_agreed}
use Rattle.tuple.specs.declared.Tuple.{Tuple}
use Rattle.tuple.specs.declared.TupleStep.{TupleStep}
use Rattle.tuple.specs.Answers.{word_of, mask_of, mark_of}
use Rattle.tuple.specs.Second.{signal_of, FirstOrSecond}
use Rattle.tuple.specs.Tuple.{bad_counts, fresh, clauses, made_of, step_of}

-- a step leaves a state, and shows a word, a mask, a mark byte and where the second unit shows the agreed bit
abbrev pub leaves : TupleStep → Tuple
leaves t = t.state

abbrev pub shown_word : TupleStep → ℕ
shown_word t = word_of t.answer

abbrev pub shown_mask : TupleStep → ℕ
shown_mask t = mask_of t.answer

abbrev pub shown_mark : TupleStep → ℕ
shown_mark t = mark_of t.answer

abbrev pub shown_second : TupleStep → ℕ
shown_second t = t.second

-- one step for each sample, a pair of words: by the clauses, and by the public call
abbrev pub stepped : Tuple → ℕ × ℕ → TupleStep
stepped s x = clauses s x.0 x.1

abbrev pub public_step : Tuple → ℕ × ℕ → TupleStep
public_step s x = step_of s x.0 x.1

abbrev pub steps : Tuple → List (ℕ × ℕ) → List TupleStep
steps = trace stepped leaves

abbrev pub public_steps : Tuple → List (ℕ × ℕ) → List TupleStep
public_steps = trace public_step leaves

-- 4: an output slice has another length than the first column
abbrev pub unequal : List ℕ → List ℕ → List ℕ → List ℕ → List ℕ → Bool
unequal a words masks marks seconds =
    differ (length a) (length words) || differ (length a) (length masks) || differ (length a) (length marks) || differ (length a) (length seconds)

abbrev pub answer_of : ℕ → ℕ → ℕ → ℕ → List ℕ → List ℕ → List ℕ → List ℕ → List ℕ → List ℕ → RunResult
answer_of n votes need word a b words masks marks seconds = pair_answer (bad_counts votes need) n word a b (unequal a words masks marks seconds)

-- what a run promises of its answer and of each lent slice
pub record Ran (n votes need word : ℕ) (a b words masks marks seconds : List ℕ) (r : RunResult) (words' masks' marks' seconds' : List ℕ) : Type 0 where
  pub answered : r ≡ answer_of n votes need word a b words masks marks seconds
  pub words_after : words' ≡ after r words (map shown_word (steps (fresh n votes need word) (zip a b)))
  pub masks_after : masks' ≡ after r masks (map shown_mask (steps (fresh n votes need word) (zip a b)))
  pub marks_after : marks' ≡ after r marks (map shown_mark (steps (fresh n votes need word) (zip a b)))
  pub seconds_after : seconds' ≡ after r seconds (map shown_second (steps (fresh n votes need word) (zip a b)))
  -- no signal has neither: by the word that its own samples before agreed on last
  pub first_or_second :
      r ≡ done → (k : ℕ) → k < length a → (i : ℕ) → i < n → let x = signal_of i (get_or a k 0, get_or b k 0) in (x.0 ≡ x.1 → ⊥)
      → FirstOrSecond (last_agreed (bit i word) (map (signal_of i) (take k (zip a b)))) x (bit i (get_or seconds' k 0))

-- "a run equals its steps": the public constructor takes n, both counts and the word, and what the run wrote is what the public steps
-- show, one after the other, from the state that it made
pub record Stepwise (n votes need word : ℕ) (a b words' masks' marks' seconds' : List ℕ) : Type 0 where
  pub made : (made_of n votes need word).refusal ≡ None
  pub words_same : words' ≡ map shown_word (public_steps (made_of n votes need word).state (zip a b))
  pub masks_same : masks' ≡ map shown_mask (public_steps (made_of n votes need word).state (zip a b))
  pub marks_same : marks' ≡ map shown_mark (public_steps (made_of n votes need word).state (zip a b))
  pub seconds_same : seconds' ≡ map shown_second (public_steps (made_of n votes need word).state (zip a b))
