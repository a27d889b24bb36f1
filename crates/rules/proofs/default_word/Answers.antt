-- `rules::default_word` meets its contract: in 64 bits a shift by a width that is taken loses nothing.
use Prim.Native.Nat.{ℕ, ◌-◌, ◌*◌, ◌%◌, ◌^◌, ◌≤◌}
use mathlib.Core.Path.{◌≡◌, sym, ap, ◌∙◌}
use mathlib.Core.Bool.{false}
use native.Mathlib.Nat.{mod-eq_of_lt, one-mul}
use native.Mathlib.Omega.{arith}
use lib.Pow.{pow_pos, pow_mono}
use Rattle.rules.specs.Limits.{bad_width}
use Rattle.rules.proofs.Default.{default_is}
use Rattle.rules.proofs.Ranges.{width_range}
use Rattle.rules.proofs.default_word.Goals as goal

pub returns-then-bad_width : goal.returns-then-bad_width
returns-then-bad_width c = rw (← c.bad_width.ensures, c.if-bad_width.true)

-- one shifted by a width that is taken is 2 ^ 32 at the most
module _ (n : ℕ) (wide : bad_width n ≡ false) where
  most : 2 ^ n ≤ 2 ^ 32
  most = pow_mono (width_range n wide).1

  shifted : 1 * 2 ^ n % 2 ^ 64 ≡ 2 ^ n
  shifted = rw (one-mul (2 ^ n)) (mod-eq_of_lt (omega (arith, most)))

pub overflow_shl-above : goal.overflow_shl-above
overflow_shl-above c =
    let wide = sym c.bad_width.ensures ∙ c.if-bad_width.false in
    omega (arith, (width_range c.args.n wide).1)

pub overflow_sub-result : goal.overflow_sub-result
overflow_sub-result c =
    let n = c.args.n in
    let wide = sym c.bad_width.ensures ∙ c.if-bad_width.false in
    omega (arith, shifted n wide, pow_pos n)

pub overflow_cast-result : goal.overflow_cast-result
overflow_cast-result c =
    let n = c.args.n in
    let wide = sym c.bad_width.ensures ∙ c.if-bad_width.false in
    omega (arith, shifted n wide, most n wide)

pub returns : goal.returns
returns c =
    let n = c.args.n in
    let wide = sym c.bad_width.ensures ∙ c.if-bad_width.false in
    ap (λ (k : ℕ). k - 1) (shifted n wide) ∙ sym (default_is n wide)
