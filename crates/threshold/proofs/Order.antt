-- The order of floats, of either sign: any two finite ones compare, `le` is transitive, and `lt` is its opposite. A
-- magnitude is at most a bound exactly when both the value and its negation are.
use mathlib.Core.Path.{◌≡◌, refl, sym, subst}
use mathlib.Core.Logic.{◌⊎◌, inl, inr}
use mathlib.Core.Bool.{Bool, true, false, not, ◌&&◌, ◌||◌, true≢false}
use Prim.Native.Nat.{ℕ, ◌+◌, ◌*◌}
use native.Mathlib.Nat.{zero-mul}
use native.Mathlib.Omega.{arith}
use lib.IntN.{ℤ}
use lib.Dec.{T, ltb, eqb}
use borrow.Author.Tests.{ltb-true}
use lib.Ieee.{Float, nan, inf, fin, up, down, of_bits, neg, lt, le, eq, is_nan}
use lib.Ieee.Scale.{finite}
use Rattle.std.specs.Float.{NotNan}
use Rattle.std.proofs.lemmas.Float.{le_trans, le_of_lt, le_of_not-lt, lt_of_le_of_lt, lt_irrefl, le_left, T_from_true, T_from_false}
use Rattle.std.proofs.lemmas.Bool.Decides.{nat_tests}
use Rattle.std.specs.Prelude.{if◌then◌else◌}
use Rattle.threshold.specs.Threshold.{nought, magnitude_of}

number : (x : Float) → T (finite x) → NotNan x
unfolding is_nan
number nan f = absurd f
number (inf s) f = absurd f
number (fin s m e) f = tt

pub total : (x y : Float) → T (finite x) → T (finite y) → T (le x y) ⊎ T (le y x)
total x y f g = go (lt x y) refl where
  go : (t : Bool) → lt x y ≡ t → T (le x y) ⊎ T (le y x)
  go true e = inl (le_of_lt x y (T_from_true _ e))
  go false e = inr (le_of_not-lt x y (number x f) (number y g) (T_from_false _ e))

pub trans : (x y z : Float) → T (finite x) → T (finite y) → T (finite z) → T (le x y) → T (le y z) → T (le x z)
trans x y z f g i h k = le_trans x y z h k

-- a number is not at most a finite one exactly when that one is below it; an infinity counts as a number here
pub exceeds : (x y : Float) → is_nan x ≡ false → T (finite y) → le x y ≡ not (lt y x)
exceeds x y n f = go (le x y) (lt y x) refl refl where
  go : (p q : Bool) → le x y ≡ p → lt y x ≡ q → p ≡ not q
  go true true p q = absurd (lt_irrefl x (lt_of_le_of_lt x y x (T_from_true _ p) (T_from_true _ q)))
  go true false p q = refl
  go false true p q = refl
  go false false p q = absurd (subst T p (le_of_not-lt y x (number y f) (T_from_false _ n) (T_from_false _ q)))

-- a value below nought is at most its negation, and any other number at least its own
sides : (m : ℕ) (e : ℤ) → T (le (fin true m e) (fin false m e))
unfolding le lt eq
sides m e = go (m * up e * down e) where
  go : (a : ℕ) → T (ltb 0 (a + a) || (eqb a a && eqb a 0))
  go a = grind (arith, nat_tests)

rise : (d : Float) → lt d nought ≡ true → T (le d (neg d))
unfolding lt le neg of_bits
rise nan h = absurd (true≢false (sym h))
rise (inf true) h = tt
rise (inf false) h = absurd (true≢false (sym h))
rise (fin true m e) h = sides m e
rise (fin false m e) h = absurd (omega (arith, ltb-true (m * up e * 1) (0 * down e) h))

fall : (d : Float) → NotNan d → lt d nought ≡ false → T (le (neg d) d)
unfolding lt le neg of_bits is_nan eq
fall nan n h = absurd n
fall (inf true) n h = absurd (true≢false h)
fall (inf false) n h = tt
fall (fin false m e) n h = sides m e
fall (fin true m e) n h =
    let none : m * up e ≡ 0 = grind (arith, nat_tests, h) in
    rw (none, zero-mul (down e)) tt

-- of two facts the one that gives the other is both
first_gives : (p q : Bool) → (T p → T q) → p && q ≡ p
first_gives true true f = refl
first_gives true false f = absurd (f tt)
first_gives false q f = refl

second_gives : (p q : Bool) → (T q → T p) → p && q ≡ q
second_gives true q f = refl
second_gives false true f = absurd (f tt)
second_gives false false f = refl

pub both_signs : (d t : Float) → le d t && le (neg d) t ≡ le (magnitude_of d) t
both_signs d t = go (lt d nought) refl where
  go : (b : Bool) → lt d nought ≡ b → le d t && le (neg d) t ≡ le (if b then neg d else d) t
  go true e = second_gives (le d t) (le (neg d) t) (λ h. le_trans d (neg d) t (rise d e) h)
  go false e = first_gives (le d t) (le (neg d) t) (λ h. le_trans (neg d) d t (fall d (le_left d t h) e) h)
