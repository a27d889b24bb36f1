-- Each number of each call is given exactly when its table says so; `Readings` of rules reads the tables out, number by number.
-- `new` is `from_word` of the default word.
use mathlib.Core.Path.{◌≡◌, refl, ◌∙◌}
use mathlib.Core.Logic.{◌↔◌}
use mathlib.Core.List.{List, [], zip}
use Prim.Native.Nat.{ℕ, ◌-◌, ◌^◌}
use Rattle.rules.specs.Limits.{default_word}
use Rattle.rules.specs.Refusal.{refusal_of, number_in}
use Rattle.rules.specs.Table.{first, answer, Given, known}
use Rattle.rules.specs.Refusals.{make_rows, new_rows, run_rows}
use Rattle.rules.proofs.Readings.{Makes, from_default_lem}
use Rattle.rules.proofs.Tables.{exactly_when, own_number}
use Rattle.trace.specs.Samples.{somewhere, Smallest, outside_pair}
use Rattle.trace.specs.Answers.{run_number, run_sample, long_pair, apart_pair}
use Rattle.trace.specs.Answers.{RunResult}
use Rattle.trace.specs.Answers.{done}
use Rattle.trace.proofs.Runs as runs
use Rattle.confirm.specs.Confirm as confirm
use Rattle.confirm.proofs.Exactly.{none_refused as confirm_none_refused}
use Rattle.tuple.specs.declared.Tuple.{Tuple}
use Rattle.rules.specs.declared.answers.Made.{Made}
use Rattle.tuple.specs.declared.TupleStep.{TupleStep}
use Rattle.tuple.specs.Answers.{number_of}
use Rattle.tuple.specs.Tuple.{bad_counts, voters_of, clauses, made, not_made, made_of, rows_of, not_taken, step_of}
use Rattle.tuple.specs.Run.{unequal, answer_of}
use Rattle.tuple.proofs.Clauses.{either_way, confirmed_as_lem}

pub from_word_exactly : (n votes need word k : ℕ) → (number_in (made_of n votes need word).refusal ≡ k) ↔ Given k (make_rows (bad_counts votes need) n word)
unfolding made_of known refusal_of
from_word_exactly n votes need word = exactly_when (λ (m : Made Tuple). number_in m.refusal) (make_rows (bad_counts votes need) n word) not_made (made n votes need word) refl (λ k. refl) refl

-- `new`: a table of two rows, and where neither is true the fresh state of all ones within the width
pub new_is :
    (n votes need : ℕ)
    → made_of n votes need (default_word n) ≡ answer (first (new_rows (bad_counts votes need) n)) not_made (made n votes need (2 ^ n - 1))
unfolding made_of
new_is n votes need = from_default_lem (bad_counts votes need) n not_made (made n votes need)

pub new_exactly : (n votes need k : ℕ) → (number_in (made_of n votes need (default_word n)).refusal ≡ k) ↔ Given k (new_rows (bad_counts votes need) n)
unfolding known refusal_of
new_exactly n votes need k =
    rw (new_is n votes need)
    (exactly_when (λ (m : Made Tuple). number_in m.refusal) (new_rows (bad_counts votes need) n) not_made (made n votes need (2 ^ n - 1)) refl (λ j. refl) refl k)

-- the clauses refuse nothing
pub none_refused : (s : Tuple) (a b : ℕ) → number_of (clauses s a b).answer ≡ 0
none_refused s a b =
    either_way s a b (λ (t : TupleStep). number_of t.answer ≡ 0) refl
    ((confirmed_as_lem (confirm.clauses s.confirm (voters_of s a b).word).answer).number ∙ confirm_none_refused s.confirm (voters_of s a b).word)

pub step_exactly : (s : Tuple) (a b k : ℕ) → (number_of (step_of s a b).answer ≡ k) ↔ Given k (rows_of s a b)
unfolding step_of known refusal_of
step_exactly s a b = exactly_when (λ (t : TupleStep). number_of t.answer) (rows_of s a b) (not_taken s) (clauses s a b) refl (λ k. refl) (none_refused s a b)

-- so a step's number is its table's
pub step_number : (s : Tuple) (a b : ℕ) → number_of (step_of s a b).answer ≡ first (rows_of s a b)
unfolding step_of known refusal_of
step_number s a b = own_number (λ (t : TupleStep). number_of t.answer) (rows_of s a b) (not_taken s) (clauses s a b) refl (λ r. refl) (none_refused s a b)

module _ (n votes need word : ℕ) (a b words masks marks seconds : List ℕ) where
  abbrev answered : RunResult
  answered = answer_of n votes need word a b words masks marks seconds

  pub run_exactly :
      (k : ℕ) → (run_number answered ≡ k)
      ↔ Given k (run_rows (bad_counts votes need) n word (long_pair a b) (apart_pair a b (unequal a words masks marks seconds)) (somewhere (outside_pair n) (zip a b)))
  run_exactly = runs.answer_exactly _ _ _ _ _ outside_pair (zip a b)

  -- 6 comes with the smallest sample outside the width, and any other number with sample 0
  pub run_six : run_number answered ≡ 6 → Smallest (outside_pair n) (zip a b) (run_sample answered)
  run_six = runs.six_smallest _ _ _ _ _ outside_pair (zip a b)

  pub run_others : (run_number answered ≡ 6 → ⊥) → run_sample answered ≡ 0
  run_others = runs.other_zero _ _ _ _ _ outside_pair (zip a b)

-- an empty trace is accepted; as there is no place, nothing is written
pub empty_taken : (n votes need word : ℕ) → Makes (bad_counts votes need) n word → answer_of n votes need word [] [] [] [] [] [] ≡ done
unfolding zip
empty_taken n votes need word = runs.empty_done outside_pair (bad_counts votes need) n word
