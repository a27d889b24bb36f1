-- "This and the N−1 samples before it exist and all disagree", of sample i of a trace.
use Rattle.std.specs.Prelude.{ℕ, ◌+◌, ◌≤◌, ◌<◌, ◌≡◌, List, Bool, false, eqb, get_or}

abbrev pub equal : ℕ × ℕ → Bool
equal x = eqb x.0 x.1

pub record Disagreeing (need : ℕ) (xs : List (ℕ × ℕ)) (i : ℕ) : Type 0 where
  pub exist : need ≤ i + 1
  pub apart : (j : ℕ) → j ≤ i → i < j + need → equal (get_or xs j (0, 0)) ≡ false
