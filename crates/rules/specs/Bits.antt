-- A word's bits: signal k of a tuple stands at bit k.
use Rattle.std.specs.Prelude.{ℕ, ◌≤◌, ◌<◌, ◌/◌, ◌%◌, ◌^◌, ◌≡◌}

-- bit k of w: 0 or 1
abbrev pub bit : ℕ → ℕ → ℕ
bit k w = w / 2 ^ k % 2

-- a tuple of n signals: bits n and above are zero
abbrev pub Within : ℕ → ℕ → Type 0
Within n w = (k : ℕ) → n ≤ k → bit k w ≡ 0

-- all ones within the width: every signal below n is a one, and there is none at n and above
abbrev pub AllOnes : ℕ → ℕ → Type 0
AllOnes n w = ((i : ℕ) → i < n → bit i w ≡ 1) × Within n w
