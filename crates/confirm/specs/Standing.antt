-- "It takes N+1: the one that changed and N more", of sample i of a trace: the N samples up to i exist, and each shows what stood before it; the
-- initial word stands before the first.
use Rattle.std.specs.Prelude.{ℕ, ◌+◌, ◌≤◌, ◌<◌, ◌≡◌, List, ◌∷◌, get_or}

pub record Standing (need word : ℕ) (xs : List ℕ) (i : ℕ) : Type 0 where
  pub exist : need ≤ i + 1
  pub same : (j : ℕ) → j ≤ i → i < j + need → get_or xs j 0 ≡ get_or (word ∷ xs) j 0
