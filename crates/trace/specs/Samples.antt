-- The smallest sample number with which a test is true.
use Rattle.std.specs.Prelude.{ℕ, suc, ◌<◌, ◌≡◌, List, [], ◌∷◌, Bool, true, false, ◌||◌, length, get_or, ltb, if◌then◌else◌}
use Rattle.rules.specs.Limits.{outside}

-- the number of the first sample that the test marks; the number of samples if it marks none
unfoldable pub first_where : {X : Type 0} → (X → Bool) → List X → ℕ
first_where test [] = 0
first_where test (x ∷ xs) = if test x then 0 else suc (first_where test xs)

-- the test marks some sample
abbrev pub somewhere : {X : Type 0} → (X → Bool) → List X → Bool
somewhere test xs = ltb (first_where test xs) (length xs)

-- k is the smallest number of a sample that the test marks (d stands past the end, where nothing is looked at)
pub record Smallest {X : Type 0} (test : X → Bool) (xs : List X) (k : ℕ) : Type 0 where
  pub there : k < length xs
  pub marked : (d : X) → test (get_or xs k d) ≡ true
  pub none_before : (d : X) (j : ℕ) → j < k → test (get_or xs j d) ≡ false

-- a sample of two units, and of two pairs, is outside the width where a word of it is
abbrev pub outside_pair : ℕ → ℕ × ℕ → Bool
outside_pair n x = outside n x.0 || outside n x.1

abbrev pub outside_four : ℕ → (ℕ × ℕ) × (ℕ × ℕ) → Bool
outside_four n x = outside_pair n x.0 || outside_pair n x.1
