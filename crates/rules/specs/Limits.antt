-- The limits of document 01: each test is true exactly when the condition behind its refusal number holds.
use Rattle.std.specs.Prelude.{ℕ, ◌-◌, ◌^◌, Bool, not, ◌||◌, ltb, eqb, if◌then◌else◌}

-- 1: a count N is 0 or above 1,000
abbrev pub bad_count : ℕ → Bool
bad_count need = eqb need 0 || ltb 1000 need

-- 2: a width n is 0 or above 32
abbrev pub bad_width : ℕ → Bool
bad_width n = eqb n 0 || ltb 32 n

-- 3: a trace has more than 2,048 samples
abbrev pub too_long : ℕ → Bool
too_long samples = ltb 2048 samples

-- 4: two lent slices of one run differ in length
abbrev pub differ : ℕ → ℕ → Bool
differ a b = not (eqb a b)

-- 5, 6, 7: a word has a bit at n or above
abbrev pub outside : ℕ → ℕ → Bool
outside n w = not (ltb w (2 ^ n))

-- the word of a constructor that takes none: all ones within the width; zero where the width is refused
abbrev pub default_word : ℕ → ℕ
default_word n = if bad_width n then 0 else 2 ^ n - 1
