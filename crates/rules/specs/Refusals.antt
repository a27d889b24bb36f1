-- Document 01's refusal numbers 1 to 7, as the four kinds of call of every voter have them. A voter hands in the tests
-- that are its own; `miscounted` is row 1's, made of its count N, or of each of its counts.
use Rattle.std.specs.Prelude.{ℕ, ◌-◌, List, [], ◌∷◌, Bool, not, ◌&&◌, ◌||◌, ltb}
use Rattle.rules.specs.Limits.{bad_count, bad_width, outside}
use Rattle.rules.specs.Table.{Row, ◌when◌}

-- a constructor, from a width and an initial word
abbrev pub make_rows : Bool → ℕ → ℕ → List Row
make_rows miscounted n word =
    1 when miscounted ∷
    2 when bad_width n ∷
    5 when outside n word ∷
    []

-- one that takes no word: the default word is never outside, so there is no row for it
abbrev pub new_rows : Bool → ℕ → List Row
new_rows miscounted n =
    1 when miscounted ∷
    2 when bad_width n ∷
    []

-- a step: a word of its sample is outside the width; its state is not one that a step takes
abbrev pub step_rows : Bool → ℕ → Bool → Bool → List Row
step_rows miscounted n outlying damaged =
    1 when miscounted ∷
    2 when bad_width n ∷
    6 when outlying ∷
    7 when damaged ∷
    []

-- what rows 1 and 7 ask of a count, in one: N is 1 to 1,000, and the running count is at most N-1
abbrev pub counted : ℕ → ℕ → Bool
counted need count = not (bad_count need || ltb (need - 1) count)

-- a step, tested at once: every count of its state is `counted`, be there one or two, and the words of its sample and its state, in
-- one by OR, are inside the width
abbrev pub admits : Bool → ℕ → ℕ → Bool
admits counts n words = counts && not (bad_width n || outside n words)

-- a run: a trace is too long; the lent slices differ in length; some sample is outside the width
abbrev pub run_rows : Bool → ℕ → ℕ → Bool → Bool → Bool → List Row
run_rows miscounted n word long unequal outlying =
    1 when miscounted ∷
    2 when bad_width n ∷
    3 when long ∷
    4 when unequal ∷
    5 when outside n word ∷
    6 when outlying ∷
    []
