-- A rounded difference of finite readings is a number, if an infinite one; a finite tolerance holds no infinite difference.
use mathlib.Core.Path.{◌≡◌, refl}
use mathlib.Core.Bool.{Bool, true, false, not, cond, beq, ◌&&◌}
use Prim.Native.Nat.{ℕ, zero, suc, ◌+◌, ◌-◌, ◌*◌, ◌^◌}
use lib.Dec.{T, ltb}
use lib.Ieee.{Float, nan, inf, fin, binary64, of_bits, sub, add, neg, sum, round, units, odd, le, lt, is_nan, up, down, low, emax, prec}
use lib.Ieee.Fits.{round_is}
use lib.Ieee.Scale.{finite}
use Rattle.threshold.specs.Threshold.{nought, magnitude_of}
use Rattle.threshold.proofs.Median.{either}

abbrev Number : Float → Type 0
Number x = is_nan x ≡ false

picked : (b : Bool) (x y : Float) → Number x → Number y → Number (cond b x y)
picked true x y p q = p
picked false x y p q = q

odd_number : (d : ℕ) (s : Bool) (q k l : ℕ) → Number (odd d s q k l)
unfolding odd is_nan
odd_number d s zero k l = refl
odd_number d s (suc q) k l = refl

infinite : (s : Bool) → Number (inf s)
unfolding is_nan
infinite s = refl

units_number : (s : Bool) (q k : ℕ) → Number (units binary64 s q k)
unfolding units
units_number s q k = picked (ltb (q * 2 ^ k) (2 ^ (low binary64 + suc (emax binary64)))) _ _ (odd_number (suc (prec binary64)) s q k (low binary64)) (infinite s)

round_number : (s : Bool) (a c : ℕ) → Number (round binary64 s a c)
round_number s a c = rw (round_is binary64 s a c) (units_number s _ _)

sum_number : (s : Bool) (a : ℕ) (t : Bool) (b c : ℕ) → Number (sum binary64 s a t b c)
unfolding sum
sum_number s a t b c = picked (beq s t) _ _ (round_number s (a + b) c) (picked (ltb a b) _ _ (round_number t (b - a) c) (round_number (s && ltb b a) (a - b) c))

pub sub_number : (x y : Float) → T (finite x) → T (finite y) → Number (sub binary64 x y)
unfolding sub add neg
sub_number nan y f g = absurd f
sub_number (inf s) y f g = absurd f
sub_number (fin s m e) nan f g = absurd g
sub_number (fin s m e) (inf t) f g = absurd g
sub_number (fin s m e) (fin t n d) f g = sum_number s (m * up e * down d) (not t) (n * up d * down e) (down e * down d)

neg_number : (x : Float) → Number x → Number (neg x)
unfolding neg is_nan
neg_number nan n = n
neg_number (inf s) n = refl
neg_number (fin s m e) n = refl

pub magnitude_number : (x : Float) → Number x → Number (magnitude_of x)
magnitude_number x n = either Number (lt x nought) (neg_number x n) n

-- an infinite difference does not agree
pub finite_within : (d t : Float) → T (finite t) → T (le (magnitude_of d) t) → T (finite d)
unfolding of_bits lt neg le
finite_within nan t f h = h
finite_within (inf true) nan f h = f
finite_within (inf true) (inf s) f h = f
finite_within (inf true) (fin s m e) f h = h
finite_within (inf false) nan f h = f
finite_within (inf false) (inf s) f h = f
finite_within (inf false) (fin s m e) f h = h
finite_within (fin s m e) t f h = tt
