-- T-09: what the pair that was voted on showed at each sample; the byte tells which unit of it still shows the last agreed word.
use Rattle.std.specs.Prelude.{ℕ, eqb, if◌then◌else◌}
use mathlib.Core.List.{List, zip_with}
use Rattle.reserve.specs.Run.{Sample}

-- pair 2 is units 3 and 4
abbrev pub voted_on : ℕ → Sample → ℕ × ℕ
voted_on pair x = if eqb pair 2 then x.1 else x.0

abbrev pub voted_words : List ℕ → List Sample → List (ℕ × ℕ)
voted_words pairs xs = zip_with voted_on pairs xs
