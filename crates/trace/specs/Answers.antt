-- A run's answer and what it leaves in a lent slice, for every voter.
use Rattle.std.specs.Prelude.{ℕ, Bool, ◌||◌, length, eqb, if◌then◌else◌, Option, Some, None, Result, Ok, Err}
use mathlib.Core.List.{List, zip}
use Rattle.rules.specs.declared.refusal.Refusal.{Refusal}
use Rattle.rules.specs.declared.refusal.Refusal.TheVariants.{Sample}
use Rattle.rules.specs.Limits.{too_long, differ}
use Rattle.rules.specs.Refusal.{number}
use Rattle.rules.specs.Refusals.{run_rows}
use Rattle.rules.specs.Table.{first, answer}
use Rattle.trace.specs.Samples.{first_where, somewhere, outside_pair, outside_four}
use Rattle.trace.specs.declared.Refused.{Refused}

abbrev pub RunResult : Type 0
RunResult = Result (Unit {0}) Refused

abbrev pub done : RunResult
done = Ok tt

abbrev pub refused : Refusal → ℕ → RunResult
refused refusal sample = Err (record { refusal = refusal; sample = sample })

-- each case's refusal number (0 is none) and sample number
abbrev pub run_number : RunResult → ℕ
run_number (Ok x) = 0
run_number (Err r) = number r.refusal

abbrev pub run_sample : RunResult → ℕ
run_sample (Ok x) = 0
run_sample (Err r) = r.sample

-- refused: the sample number is 0 except with 6, and then the smallest
abbrev pub not_run : ℕ → Refusal → RunResult
not_run smallest refusal = refused refusal (if eqb (number refusal) 6 then smallest else 0)

-- before a sample is looked at
abbrev pub at_once : Refusal → Refused
at_once refusal = record { refusal = refusal; sample = 0 }

-- a run over samples of any kind, of which `out n` says that a word is outside the width
unfoldable pub run_answer : {X : Type 0} → (ℕ → X → Bool) → Bool → ℕ → ℕ → Bool → Bool → List X → RunResult
run_answer out miscounted n word long unequal samples =
    answer (first (run_rows miscounted n word long unequal (somewhere (out n) samples))) (not_run (first_where (out n) samples)) done

-- the part that the samples decide, where nothing else is refused
abbrev pub sampled_of : Option ℕ → RunResult
sampled_of None = done
sampled_of (Some smallest) = refused Sample smallest

-- 3, of the columns of two units, and of two pairs: any of them has too many samples
abbrev pub long_pair : List ℕ → List ℕ → Bool
long_pair a b = too_long (length a) || too_long (length b)

abbrev pub long_four : List ℕ → List ℕ → List ℕ → List ℕ → Bool
long_four a b c d = too_long (length a) || too_long (length b) || too_long (length c) || too_long (length d)

-- 4: any of them, or an output slice, has another length than the first
abbrev pub apart_pair : List ℕ → List ℕ → Bool → Bool
apart_pair a b unequal = differ (length a) (length b) || unequal

abbrev pub apart_four : List ℕ → List ℕ → List ℕ → List ℕ → Bool → Bool
apart_four a b c d unequal = differ (length a) (length b) || differ (length a) (length c) || differ (length a) (length d) || unequal

-- runs over the columns of two units, and of two pairs
abbrev pub pair_answer : Bool → ℕ → ℕ → List ℕ → List ℕ → Bool → RunResult
pair_answer miscounted n word a b unequal = run_answer outside_pair miscounted n word (long_pair a b) (apart_pair a b unequal) (zip a b)

abbrev pub four_answer : Bool → ℕ → ℕ → List ℕ → List ℕ → List ℕ → List ℕ → Bool → RunResult
four_answer miscounted n word a b c d unequal =
    run_answer outside_four miscounted n word (long_four a b c d) (apart_four a b c d unequal) (zip (zip a b) (zip c d))

-- a lent slice afterwards: as it came if the run is refused, and what the run writes if not
abbrev pub after : RunResult → List ℕ → List ℕ → List ℕ
after (Ok x) lent written = written
after (Err r) lent written = lent
