-- Each number of each call is given exactly when its table says so; `Readings` of rules reads the tables out, number by number.
-- `new` is `from_word` of the default word.
use mathlib.Core.Path.{◌≡◌, refl}
use mathlib.Core.Logic.{◌↔◌}
use mathlib.Core.List.{List, [], zip}
use mathlib.Core.Bool.{false}
use Prim.Native.Nat.{ℕ, ◌-◌, ◌^◌}
use Rattle.rules.specs.Limits.{bad_count, default_word}
use Rattle.rules.specs.Refusal.{refusal_of, number_in}
use Rattle.rules.specs.Table.{first, answer, Given, known}
use Rattle.rules.specs.Refusals.{make_rows, new_rows, run_rows}
use Rattle.rules.proofs.Readings.{Makes, from_default_lem}
use Rattle.rules.proofs.Tables.{exactly_when, own_number}
use Rattle.trace.specs.Samples.{somewhere, Smallest, outside_four}
use Rattle.trace.specs.Answers.{run_number, run_sample, long_four, apart_four}
use Rattle.trace.specs.Answers.{RunResult}
use Rattle.trace.specs.Answers.{done}
use Rattle.trace.proofs.Runs as runs
use Rattle.vote.specs.Answers.{number_of}
use Rattle.vote.specs.Run.{unequal}
use Rattle.vote.proofs.Exactly.{none_refused as vote_none_refused}
use Rattle.reserve.specs.declared.Reserve.{Reserve}
use Rattle.rules.specs.declared.answers.Made.{Made}
use Rattle.reserve.specs.declared.ReserveStep.{ReserveStep}
use Rattle.reserve.specs.Reserve.{clauses, made, not_made, made_of, rows_of, not_taken, step_of}
use Rattle.reserve.specs.Run.{samples_of, answer_of}
use Rattle.reserve.proofs.Clauses.{either_pair}

pub from_word_exactly : (n need word k : ℕ) → (number_in (made_of n need word).refusal ≡ k) ↔ Given k (make_rows (bad_count need) n word)
unfolding made_of known refusal_of
from_word_exactly n need word = exactly_when (λ (m : Made Reserve). number_in m.refusal) (make_rows (bad_count need) n word) not_made (made n need word) refl (λ k. refl) refl

-- `new`: a table of two rows, and where neither is true the fresh state of all ones within the width
pub new_is : (n need : ℕ) → made_of n need (default_word n) ≡ answer (first (new_rows (bad_count need) n)) not_made (made n need (2 ^ n - 1))
unfolding made_of
new_is n need = from_default_lem (bad_count need) n not_made (made n need)

pub new_exactly : (n need k : ℕ) → (number_in (made_of n need (default_word n)).refusal ≡ k) ↔ Given k (new_rows (bad_count need) n)
unfolding known refusal_of
new_exactly n need k =
    rw (new_is n need) (exactly_when (λ (m : Made Reserve). number_in m.refusal) (new_rows (bad_count need) n) not_made (made n need (2 ^ n - 1)) refl (λ j. refl) refl k)

-- the clauses refuse nothing, whichever pair is in force
pub none_refused : (s : Reserve) (a b c d : ℕ) → number_of (clauses s a b c d).answer ≡ 0
none_refused s a b c d = either_pair s ((a, b), (c, d)) (λ (t : ReserveStep). number_of t.answer ≡ 0) (vote_none_refused s.vote a b false) (vote_none_refused s.vote c d)

pub step_exactly : (s : Reserve) (a b c d k : ℕ) → (number_of (step_of s a b c d).answer ≡ k) ↔ Given k (rows_of s a b c d)
unfolding step_of known refusal_of
step_exactly s a b c d = exactly_when (λ (t : ReserveStep). number_of t.answer) (rows_of s a b c d) (not_taken s) (clauses s a b c d) refl (λ k. refl) (none_refused s a b c d)

-- so a step's number is its table's
pub step_number : (s : Reserve) (a b c d : ℕ) → number_of (step_of s a b c d).answer ≡ first (rows_of s a b c d)
unfolding step_of known refusal_of
step_number s a b c d = own_number (λ (t : ReserveStep). number_of t.answer) (rows_of s a b c d) (not_taken s) (clauses s a b c d) refl (λ r. refl) (none_refused s a b c d)

module _ (n need word : ℕ) (a b c d words marks which : List ℕ) where
  abbrev answered : RunResult
  answered = answer_of n need word a b c d words marks which

  pub run_exactly :
      (k : ℕ) → (run_number answered ≡ k)
      ↔ Given k (run_rows (bad_count need) n word (long_four a b c d) (apart_four a b c d (unequal a words marks which)) (somewhere (outside_four n) (samples_of a b c d)))
  run_exactly = runs.answer_exactly _ _ _ _ _ outside_four (samples_of a b c d)

  -- 6 comes with the smallest sample outside the width, and any other number with sample 0
  pub run_six : run_number answered ≡ 6 → Smallest (outside_four n) (samples_of a b c d) (run_sample answered)
  run_six = runs.six_smallest _ _ _ _ _ outside_four (samples_of a b c d)

  pub run_others : (run_number answered ≡ 6 → ⊥) → run_sample answered ≡ 0
  run_others = runs.other_zero _ _ _ _ _ outside_four (samples_of a b c d)

-- an empty trace is accepted; as there is no place, nothing is written
pub empty_taken : (n need word : ℕ) → Makes (bad_count need) n word → answer_of n need word [] [] [] [] [] [] [] ≡ done
unfolding zip
empty_taken n need word = runs.empty_done outside_four (bad_count need) n word
