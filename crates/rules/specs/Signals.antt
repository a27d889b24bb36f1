-- What is said of each signal, put together below n: a word, a list, a question. One definition for every n.
use Rattle.std.specs.Prelude.{ℕ, zero, suc, ◌+◌, ◌*◌, ◌^◌, List, [], ◌∷◌, ◌++◌, Bool, false, ◌||◌}

-- the word whose bit i is f i, for each i below n
unfoldable pub as_word : ℕ → (ℕ → ℕ) → ℕ
as_word zero f = 0
as_word (suc n) f = as_word n f + f n * 2 ^ n

-- the list of f 0, f 1, … below n
unfoldable pub as_list : ℕ → (ℕ → ℕ) → List ℕ
as_list zero f = []
as_list (suc n) f = as_list n f ++ (f n ∷ [])

-- some i below n has the property
unfoldable pub some_below : ℕ → (ℕ → Bool) → Bool
some_below zero f = false
some_below (suc n) f = some_below n f || f n
