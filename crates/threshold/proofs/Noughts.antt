-- Nought times a reading is a nought where the reading is finite, and a NaN where it is not; a sum of such products is
-- a nought where all are, and then at most what is not below zero.
use mathlib.Core.Path.{◌≡◌, refl, sym, ap, ◌∙◌}
use mathlib.Core.Bool.{Bool, true, false, not, ◌&&◌, ◌||◌, true≢false}
use Prim.Native.Nat.compare
use Prim.Native.Nat.{ℕ, zero, suc, ◌*◌, ◌<◌}
use native.Mathlib.Nat.{zero-div, zero-mod, mul-zero, mul-one}
use native.Mathlib.Omega.{arith}
use lib.IntN.{pos}
use lib.Ieee.{Float, nan, inf, fin, binary64, of_bits, mul, add, le, lt, is_nan, sum, round, units, odd, size, span, climb, unlike, up, down}
use lib.Dec.{T}
use lib.Ieee.Fits.{down_pos}
use lib.Ieee.Scale.{finite}
use Rattle.std.proofs.lemmas.Bool.Decides.{nat_tests}
use Rattle.threshold.specs.Threshold.{nought, bad_readings}
use Rattle.threshold.specs.declared.Readings.{Readings}
use Rattle.threshold.proofs.Order.{exceeds}

round_zero : (s : Bool) (c : ℕ) → 0 < c → round binary64 s 0 c ≡ fin s 0 (pos 0)
unfolding round units odd size span climb
round_zero s zero h = absurd (omega arith)
round_zero s (suc c) h = rw (zero-div (suc c), mul-one (suc c), zero-div (suc c), zero-mod (suc c), compare.zero-suc c)

-- a nought of either sign, or a NaN
abbrev pub nought_if : Bool → Bool → Float
nought_if true s = fin s 0 (pos 0)
nought_if false s = nan

abbrev pub sign_of : Float → Bool
sign_of nan = false
sign_of (inf s) = false
sign_of (fin s m e) = unlike s false

pub times_nought : (x : Float) → mul binary64 x nought ≡ nought_if (finite x) (sign_of x)
unfolding mul of_bits
times_nought nan = refl
times_nought (inf s) = refl
times_nought (fin s m e) =
    let none : m * up e * (0 * up (pos 0)) ≡ 0 = mul-zero (m * up e) in
    rw none (round_zero (unlike s false) (down e * 1) (rw (mul-one (down e)) (down_pos e)))

pub plus_nought : (p q s t : Bool) → add binary64 (nought_if p s) (nought_if q t) ≡ nought_if (p && q) (s && t)
unfolding add sum
plus_nought false q s t = refl
plus_nought true false s t = refl
plus_nought true true false false = round_zero false 1 (omega arith)
plus_nought true true false true = round_zero false 1 (omega arith)
plus_nought true true true false = round_zero false 1 (omega arith)
plus_nought true true true true = round_zero true 1 (omega arith)

-- a nought is at most what is not below it, whatever its sign
below_nought : (s : Bool) (t : Float) → lt t (fin s 0 (pos 0)) ≡ lt t nought
unfolding lt of_bits
below_nought false t = refl
below_nought true nan = refl
below_nought true (inf s) = refl
below_nought true (fin false m e) = grind (arith, nat_tests)
below_nought true (fin true m e) = grind (arith, nat_tests)

at_most : (p s : Bool) (t : Float) → (p ≡ true → T (finite t)) → le (nought_if p s) t ≡ p && not (lt t nought)
unfolding le is_nan
at_most false s t f = refl
at_most true s t f = exceeds (fin s 0 (pos 0)) t refl (f refl) ∙ ap not (below_nought s t)

-- so one test tells whether four values are finite, and the fourth not below zero
abbrev o : Float → Float
o x = mul binary64 x nought

pub one_test : (r : Readings) → not (le (add binary64 (add binary64 (add binary64 (o r.x1) (o r.x2)) (o r.x3)) (o r.tolerance)) r.tolerance) ≡ bad_readings r
one_test r =
    let p = finite r.x1 in
    let q = finite r.x2 in
    let s = finite r.x3 in
    let u = finite r.tolerance in
    let a = sign_of r.x1 in
    let b = sign_of r.x2 in
    let d = sign_of r.x3 in
    let e = sign_of r.tolerance in
    rw (times_nought r.x1, times_nought r.x2, times_nought r.x3, times_nought r.tolerance, plus_nought p q a b, plus_nought (p && q) s (a && b) d, plus_nought ((p && q) && s) u ((a && b) && d) e)
    (ap not (at_most (((p && q) && s) && u) _ r.tolerance (last ((p && q) && s) u)) ∙ one_not p q s u (lt r.tolerance nought))
  where
    last : (p q : Bool) → p && q ≡ true → T q
    last true true h = tt
    last true false h = absurd (true≢false (sym h))
    last false q h = absurd (true≢false (sym h))

    one_not : (p q r s t : Bool) → not ((((p && q) && r) && s) && not t) ≡ not p || not q || not r || not s || t
    one_not true true true true true = refl
    one_not true true true true false = refl
    one_not true true true false t = refl
    one_not true true false s t = refl
    one_not true false r s t = refl
    one_not false q r s t = refl

-- readings that are not bad are finite, and so is their tolerance
pub four_finite : (r : Readings) → bad_readings r ≡ false → T (finite r.x1) × T (finite r.x2) × T (finite r.x3) × T (finite r.tolerance)
four_finite r e = go (finite r.x1) (finite r.x2) (finite r.x3) (finite r.tolerance) (lt r.tolerance nought) e where
  go : (p q s t u : Bool) → not p || not q || not s || not t || u ≡ false → T p × T q × T s × T t
  go true true true true u h = (tt, tt, tt, tt)
  go true true true false u h = absurd (true≢false h)
  go true true false t u h = absurd (true≢false h)
  go true false s t u h = absurd (true≢false h)
  go false q s t u h = absurd (true≢false h)
