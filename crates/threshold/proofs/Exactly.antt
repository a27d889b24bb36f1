-- Number 11 is given exactly when its row is true; no other number is given.
use mathlib.Core.Path.{◌≡◌, refl}
use mathlib.Core.Logic.{◌↔◌}
use mathlib.Core.Bool.{Bool, true, false}
use Prim.Native.Nat.{ℕ}
use Rattle.std.specs.Prelude.{if◌then◌else◌}
use Rattle.rules.specs.Refusal.{refusal_of}
use Rattle.rules.specs.Table.{known, Given}
use Rattle.rules.proofs.Tables.{exactly_when}
use Rattle.threshold.specs.declared.Readings.{Readings}
use Rattle.threshold.specs.declared.Threshold.TheVariants.{Agreed, Alarm, Refused}
use Rattle.threshold.specs.Threshold.{number_of, median_of, agrees, bad_readings, threshold_rows, judged, threshold_of}

module _ (r : Readings) where
  -- the vote itself refuses nothing
  none_refused : (b : Bool) → number_of (if b then Agreed (median_of r) else Alarm) ≡ 0
  none_refused true = refl
  none_refused false = refl

  pub vote_exactly : (k : ℕ) → (number_of (threshold_of r) ≡ k) ↔ Given k (threshold_rows r)
  unfolding threshold_of known refusal_of
  vote_exactly = exactly_when number_of (threshold_rows r) Refused (judged r) refl (λ k. refl) (none_refused (agrees r))

  pub vote_11 : (number_of (threshold_of r) ≡ 11) ↔ bad_readings r ≡ true
  vote_11 = vote_exactly 11
