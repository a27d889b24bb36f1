-- The pair that was voted on at each sample of a run, told from the run's marks: an alarm hands over, and nothing hands back.
use Rattle.std.specs.Prelude.{ℕ, List, map, eqb, length, if◌then◌else◌}
use Rattle.rules.specs.Limits.{differ}
use Rattle.trace.specs.Trace.{trace}

-- units 1 and 2 are voted on up to the first alarm, that sample included, and units 3 and 4 after it: the pair, and the next one
abbrev pub told : ℕ → ℕ → ℕ × ℕ
told pair mark = (pair, if eqb mark 2 then 2 else pair)

abbrev pub told_pair : ℕ × ℕ → ℕ
told_pair t = t.0

abbrev pub next_pair : ℕ × ℕ → ℕ
next_pair t = t.1

abbrev pub pairs_of : List ℕ → List ℕ
pairs_of marks = map told_pair (trace told next_pair 1 marks)

-- what is left in a lent slice: the pairs, where it has a place for each mark, and else what stood there
unfoldable pub pairs_in : List ℕ → List ℕ → List ℕ
pairs_in marks pairs = if differ (length marks) (length pairs) then pairs else pairs_of marks
