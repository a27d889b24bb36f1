-- The word of a constructor that takes none (T-04). For every n it is inside the width; for n from 1 to 32 it is the one word that has
-- all ones within it.
use Prim.Native.Nat.{ℕ, ◌-◌, ◌<◌, ◌^◌}
use mathlib.Core.Path.{◌≡◌, sym, ap, ◌∙◌}
use mathlib.Core.Logic.{◌↔◌}
use mathlib.Core.Bool.{Bool, true, false}
use native.Mathlib.Omega.{arith}
use lib.Pow.{pow_pos}
use Rattle.rules.specs.Bits.{bit, AllOnes}
use Rattle.std.specs.Prelude.{if◌then◌else◌}
use Rattle.rules.specs.Limits.{bad_width, outside, default_word}
use Rattle.rules.proofs.Bits.{not_bit}
use Rattle.rules.proofs.Width.{inside_lt, lt_inside, high_zero, within, words_agree}

-- a width that is refused included
pub default_small : (n : ℕ) → default_word n < 2 ^ n
default_small n = go (bad_width n) where
  go : (b : Bool) → (if b then 0 else 2 ^ n - 1) < 2 ^ n
  go true = pow_pos n
  go false = omega (arith, pow_pos n)

pub default_inside : (n : ℕ) → outside n (default_word n) ≡ false
default_inside n = lt_inside n (default_word n) (default_small n)

pub default_is : (n : ℕ) → bad_width n ≡ false → default_word n ≡ 2 ^ n - 1
default_is n wide = rw wide

-- all ones are what NOT makes of zero
pub default_ones : (n : ℕ) → bad_width n ≡ false → AllOnes n (default_word n)
default_ones n wide = (ones, high_zero n (default_word n) (default_small n)) where
  not_zero : default_word n ≡ (2 ^ n - 1) - 0
  not_zero = omega (arith, default_is n wide)

  ones : (i : ℕ) → i < n → bit i (default_word n) ≡ 1
  ones i l = ap (bit i) not_zero ∙ omega (arith, not_bit n i 0 l (pow_pos n), high_zero 0 0 (pow_pos 0) i (omega arith))

-- and no other word has
pub default_exactly : (n w : ℕ) → bad_width n ≡ false → (w ≡ default_word n) ↔ AllOnes n w
default_exactly n w wide = (
  λ e. rw e (default_ones n wide),
  λ a. words_agree n w (default_word n) (inside_lt n w ((within n w).1 a.1)) (default_small n) (λ i l. a.0 i l ∙ sym ((default_ones n wide).0 i l)),
)
