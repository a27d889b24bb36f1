-- How many lines a text has: as many as bytes that are a newline.
use Rattle.std.specs.Prelude.{ℕ, ◌+◌, List, [], ◌∷◌, eqb, if◌then◌else◌}

-- how many bytes of a text are c
unfoldable pub occurrences : ℕ → List ℕ → ℕ
occurrences c [] = 0
occurrences c (x ∷ xs) = (if eqb x c then 1 else 0) + occurrences c xs

abbrev pub newlines : List ℕ → ℕ
newlines = occurrences 10
