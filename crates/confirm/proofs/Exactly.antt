-- Each number of each call is given exactly when its table says so; `Readings` of rules reads the tables out, number by number.
-- `new` is `from_word` of the default word.
use mathlib.Core.Path.{◌≡◌, refl}
use mathlib.Core.Logic.{◌↔◌}
use mathlib.Core.List.{List, []}
use Prim.Native.Nat.{ℕ, ◌-◌, ◌^◌}
use lib.ListN.{length}
use Rattle.rules.specs.Limits.{bad_count, too_long, outside, default_word}
use Rattle.rules.specs.Refusal.{refusal_of, number_in}
use Rattle.rules.specs.Table.{first, answer, known, Given}
use Rattle.rules.specs.Refusals.{make_rows, new_rows, run_rows}
use Rattle.rules.proofs.Readings.{Makes, from_default_lem}
use Rattle.rules.proofs.Tables.{exactly_when}
use Rattle.trace.specs.Samples.{somewhere, Smallest}
use Rattle.trace.specs.Answers.{run_number, run_sample}
use Rattle.trace.specs.Answers.{RunResult}
use Rattle.trace.specs.Answers.{done}
use Rattle.trace.proofs.Runs as runs
use Rattle.confirm.specs.declared.Confirm.{Confirm}
use Rattle.rules.specs.declared.answers.Made.{Made}
use Rattle.confirm.specs.Answers.{ConfirmStep}
use Rattle.confirm.specs.Answers.{number_of}
use Rattle.confirm.specs.Confirm.{clauses, made, not_made, made_of, rows_of, not_taken, step_of}
use Rattle.confirm.specs.Run.{unequal, answer_of}
use Rattle.confirm.proofs.Clauses.{each_clause}

pub from_word_exactly : (n need word k : ℕ) → (number_in (made_of n need word).refusal ≡ k) ↔ Given k (make_rows (bad_count need) n word)
unfolding made_of known refusal_of
from_word_exactly n need word = exactly_when (λ (m : Made Confirm). number_in m.refusal) (make_rows (bad_count need) n word) not_made (made n need word) refl (λ k. refl) refl

-- `new`: a table of two rows, and where neither is true the fresh state of all ones within the width
pub new_is : (n need : ℕ) → made_of n need (default_word n) ≡ answer (first (new_rows (bad_count need) n)) not_made (made n need (2 ^ n - 1))
unfolding made_of
new_is n need = from_default_lem (bad_count need) n not_made (made n need)

pub new_exactly : (n need k : ℕ) → (number_in (made_of n need (default_word n)).refusal ≡ k) ↔ Given k (new_rows (bad_count need) n)
unfolding known refusal_of
new_exactly n need k =
    rw (new_is n need) (exactly_when (λ (m : Made Confirm). number_in m.refusal) (new_rows (bad_count need) n) not_made (made n need (2 ^ n - 1)) refl (λ j. refl) refl k)

-- the clauses refuse nothing
pub none_refused : (s : Confirm) (x : ℕ) → number_of (clauses s x).answer ≡ 0
none_refused s x = each_clause s (λ (t : ConfirmStep). number_of t.answer ≡ 0) x refl refl refl

pub step_exactly : (s : Confirm) (x k : ℕ) → (number_of (step_of s x).answer ≡ k) ↔ Given k (rows_of s x)
unfolding step_of known refusal_of
step_exactly s x = exactly_when (λ (t : ConfirmStep). number_of t.answer) (rows_of s x) (not_taken s) (clauses s x) refl (λ k. refl) (none_refused s x)

module _ (n need word : ℕ) (samples words marks counts : List ℕ) where
  abbrev answered : RunResult
  answered = answer_of n need word samples words marks counts

  pub run_exactly :
      (k : ℕ) → (run_number answered ≡ k)
      ↔ Given k (run_rows (bad_count need) n word (too_long (length samples)) (unequal samples words marks counts) (somewhere (outside n) samples))
  run_exactly = runs.answer_exactly _ _ _ _ _ outside samples

  -- 6 comes with the smallest sample outside the width, and any other number with sample 0
  pub run_six : run_number answered ≡ 6 → Smallest (outside n) samples (run_sample answered)
  run_six = runs.six_smallest _ _ _ _ _ outside samples

  pub run_others : (run_number answered ≡ 6 → ⊥) → run_sample answered ≡ 0
  run_others = runs.other_zero _ _ _ _ _ outside samples

-- an empty trace is accepted; as there is no place, nothing is written
pub empty_taken : (n need word : ℕ) → Makes (bad_count need) n word → answer_of n need word [] [] [] [] ≡ done
empty_taken n need word = runs.empty_done outside (bad_count need) n word
