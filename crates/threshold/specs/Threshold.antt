-- The 2/3 threshold vote: document 01, "Threshold vote"; document 000, 6.1. Floats are the logic's account of IEEE 754, at binary64.
use Rattle.std.specs.Prelude.{ℕ, List, [], ◌∷◌, Bool, not, ◌||◌, Float, if◌then◌else◌}
use Rattle.std.specs.Float.{binary64}
use Rattle.std.specs.Float.Ieee.{of_bits, sub, neg, le, lt}
use Rattle.std.specs.Float.Ieee.Scale.{finite}
use Rattle.rules.specs.Refusal.{number}
use Rattle.rules.specs.Table.{Row, ◌when◌, first, answer}
use Rattle.threshold.specs.declared.Readings.{Readings}
use Rattle.threshold.specs.declared.Threshold.{Threshold}
use Rattle.threshold.specs.declared.Threshold.TheVariants.{Agreed, Alarm, Refused}

-- each case's refusal number, 0 is none, and its mark byte; a refusal has no mark, and 255 stands there
abbrev pub number_of : Threshold → ℕ
number_of (Agreed m) = 0
number_of Alarm = 0
number_of (Refused refusal) = number refusal

abbrev pub mark_of : Threshold → ℕ
mark_of (Agreed m) = 0
mark_of Alarm = 2
mark_of (Refused refusal) = 255

-- +0
abbrev pub nought : Float
nought = of_bits binary64 0

-- min(a,b) is a if a ≤ b, else b; max(a,b) is a if a ≥ b, else b
abbrev pub lesser : Float → Float → Float
lesser a b = if le a b then a else b

abbrev pub greater : Float → Float → Float
greater a b = if le b a then a else b

-- the median is max(max(min(x1,x2), min(x2,x3)), min(x3,x1)), bits and all
abbrev pub median_of : Readings → Float
median_of r = greater (greater (lesser r.x1 r.x2) (lesser r.x2 r.x3)) (lesser r.x3 r.x1)

-- the magnitude, by negation
abbrev pub magnitude_of : Float → Float
magnitude_of d = if lt d nought then neg d else d

-- the magnitude of the rounded difference a − b is at most the tolerance
abbrev pub within : Float → Float → Float → Bool
within a b tolerance = le (magnitude_of (sub binary64 a b)) tolerance

-- the differences x2−x1, x3−x2, x1−x3: the magnitude of any is at most the tolerance
abbrev pub agrees : Readings → Bool
agrees r = within r.x2 r.x1 r.tolerance || within r.x3 r.x2 r.tolerance || within r.x1 r.x3 r.tolerance

-- 11: a reading or the tolerance is not finite, or the tolerance is below zero (−0 counts as 0)
abbrev pub bad_readings : Readings → Bool
bad_readings r = not (finite r.x1) || not (finite r.x2) || not (finite r.x3) || not (finite r.tolerance) || lt r.tolerance nought

abbrev pub threshold_rows : Readings → List Row
threshold_rows r =
    11 when bad_readings r ∷
    []

-- the answer is an agreed reading or an alarm
abbrev pub judged : Readings → Threshold
judged r = if agrees r then Agreed (median_of r) else Alarm

unfoldable pub threshold_of : Readings → Threshold
threshold_of r = answer (first (threshold_rows r)) Refused (judged r)
