-- What document 01 says of an agreed reading, and of an alarm; `proofs/Promises.antt` shows it of every vote.
use Rattle.std.specs.Prelude.{◌≡◌, ◌⊎◌, T, Float}
use Rattle.std.specs.Float.{binary64}
use Rattle.std.specs.Float.Ieee.{sub, le, lt}
use Rattle.std.specs.Float.Ieee.Scale.{finite}
use Rattle.threshold.specs.Threshold.{magnitude_of, within}
use Rattle.threshold.specs.declared.Readings.{Readings}

-- m lies between a and b, ends included, whichever is the greater
abbrev pub Between : Float → Float → Float → Type 0
Between a b m = (T (le a m) × T (le m b)) ⊎ (T (le b m) × T (le m a))

-- the rounded difference a − b agrees: it is finite, and its magnitude is at most the tolerance
abbrev pub Agrees : Float → Float → Float → Type 0
Agrees a b tolerance = T (finite (sub binary64 a b)) × T (within a b tolerance)

-- its magnitude exceeds the tolerance
abbrev pub Exceeds : Float → Float → Float → Type 0
Exceeds a b tolerance = T (lt tolerance (magnitude_of (sub binary64 a b)))

pub record Sound (r : Readings) (m : Float) : Type 0 where
  pub between12 : Between r.x1 r.x2 m
  pub between23 : Between r.x2 r.x3 m
  pub between31 : Between r.x3 r.x1 m
  pub one_of_three : (m ≡ r.x1) ⊎ ((m ≡ r.x2) ⊎ (m ≡ r.x3))
  pub two_agree : Agrees r.x2 r.x1 r.tolerance ⊎ (Agrees r.x3 r.x2 r.tolerance ⊎ Agrees r.x1 r.x3 r.tolerance)

pub record Apart (r : Readings) : Type 0 where
  pub apart21 : Exceeds r.x2 r.x1 r.tolerance
  pub apart32 : Exceeds r.x3 r.x2 r.tolerance
  pub apart13 : Exceeds r.x1 r.x3 r.tolerance
