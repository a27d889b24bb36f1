-- "From a hand-over on, what units 1 and 2 show": the phases after one, and two samples that differ in units 1 and 2 alone.
use Rattle.std.specs.Prelude.{ℕ, ◌<◌, ◌≡◌, List, Bool, true, false, length, get_or}
use Rattle.trace.specs.Samples.{outside_pair}
use Rattle.reserve.specs.declared.Phase.{Phase}
use Rattle.reserve.specs.declared.Phase.TheVariants.{Primary, TakingOver, Reserve as Reserved}
use Rattle.reserve.specs.Run.{Sample}

abbrev pub handed_over : Phase → Bool
handed_over Primary = false
handed_over TakingOver = true
handed_over Reserved = true

-- units 1 and 2 inside the width in both, and units 3 and 4 the same, whatever they show
pub record Alike (n : ℕ) (x y : Sample) : Type 0 where
  pub inside : outside_pair n x.0 ≡ false
  pub inside_too : outside_pair n y.0 ≡ false
  pub reserve : x.1 ≡ y.1

-- so sample by sample
pub record AllAlike (n : ℕ) (xs ys : List Sample) : Type 0 where
  pub lengths : length xs ≡ length ys
  pub each : (i : ℕ) → i < length xs → Alike n (get_or xs i ((0, 0), (0, 0))) (get_or ys i ((0, 0), (0, 0)))
