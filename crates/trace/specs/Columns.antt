-- Serves proofs only: a run over any number of columns, as the code takes it.
use Rattle.std.specs.Prelude.{ℕ, Bool, false, ◌||◌, length, position, min, Option, Err}
use Rattle.std.specs.Borrow.{Bor}
use Rattle.std.specs.List.{list_any, filter_map, reduce}
use mathlib.Core.List.{List, [], ◌∷◌}
use Rattle.rules.specs.Limits.{too_long, differ, outside}
use Rattle.rules.specs.Refusals.{run_rows}
use Rattle.rules.specs.Table.{first, answer}
use Rattle.trace.specs.Answers.{RunResult, at_once, sampled_of}

-- 3: some column has too many samples
abbrev pub some_long : List (Bor (List ℕ)) → Bool
some_long columns = list_any (λ c. too_long (length c.now)) columns

-- 4: some column has another length than the first
abbrev pub some_apart : List (Bor (List ℕ)) → Bool
some_apart [] = false
some_apart (column ∷ others) = list_any (λ c. differ (length column.now) (length c.now)) others

-- 6: the first sample outside the width in any column
abbrev pub earliest : ℕ → List (Bor (List ℕ)) → Option ℕ
earliest n columns = reduce min (filter_map (λ c. position (outside n) c.now) columns)

abbrev pub columns_answer : Bool → ℕ → ℕ → List (Bor (List ℕ)) → Bool → RunResult
columns_answer miscounted n word columns unequal =
    answer (first (run_rows miscounted n word (some_long columns) (some_apart columns || unequal) false)) (λ r. Err (at_once r))
    (sampled_of (earliest n columns))
