-- Each number of a sizing is given exactly when its row is true and no lower row is.
use mathlib.Core.Path.{◌≡◌, refl}
use mathlib.Core.Logic.{◌↔◌}
use mathlib.Core.Bool.{true, false, ◌||◌}
use Prim.Native.Nat.{ℕ}
use lib.Dec.{ltb}
use Rattle.rules.specs.Limits.{bad_width}
use Rattle.rules.specs.Refusal.{refusal_of, number_in}
use Rattle.rules.specs.Table.{known, rising, Given, LowestOf, ◌and◌}
use Rattle.rules.proofs.Tables.{exactly_when, lowest}
use Rattle.sizing.specs.declared.Sizing.{Sizing}
use Rattle.sizing.specs.Sizing.{bad_gaps, bad_delay, count_of, votes_of, size_rows, not_sized, sized, sizing_of}

module _ (n tm tM d : ℕ) where
  pub size_exactly : (k : ℕ) → (number_in (sizing_of n tm tM d).refusal ≡ k) ↔ Given k (size_rows n tm tM d)
  unfolding sizing_of known refusal_of
  size_exactly = exactly_when (λ (s : Sizing). number_in s.refusal) (size_rows n tm tM d) not_sized (sized n tm tM d) refl (λ k. refl) refl

  -- read out, number by number
  pub size_2 : (number_in (sizing_of n tm tM d).refusal ≡ 2) ↔ bad_width n ≡ true
  size_2 = size_exactly 2

  pub size_9 : (number_in (sizing_of n tm tM d).refusal ≡ 9) ↔ bad_width n ≡ false and bad_gaps tm tM || bad_delay d ≡ true
  size_9 = size_exactly 9

  pub size_10 : (number_in (sizing_of n tm tM d).refusal ≡ 10) ↔ bad_width n ≡ false and bad_gaps tm tM || bad_delay d ≡ false and ltb 1000 (count_of tm d) || ltb 1000 (votes_of tm d) ≡ true
  size_10 = size_exactly 10

  -- where several apply, the lowest number is given
  pub size_lowest : LowestOf (size_rows n tm tM d)
  unfolding rising
  size_lowest = lowest (size_rows n tm tM d) refl
