-- A one at place i asks for signal i: what it has in common with a word is that signal, at its place. A signal at its place goes in
-- front of those below it.
use mathlib.Core.Path.{◌≡◌, refl, sym, ◌∙◌}
use mathlib.Core.Bool.{Bool, true, false}
use Prim.Native.Nat.{ℕ, zero, suc, ◌+◌, ◌-◌, ◌*◌, ◌%◌, ◌≤◌, ◌<◌, ◌^◌}
use native.Mathlib.Nat.{add_comm, mod-eq_of_lt, zero-mul}
use native.Mathlib.Omega.{arith}
use lib.Bits.{bit_and, bit_or, and_high, or_shifted_r}
use lib.Dec.{ltb, lit<}
use lib.Pow.{pow-add, pow-lt}
use mir.Val.{bool_byte}
use borrow.Author.Tests.{ne_eqb}
use Rattle.rules.specs.Bits.{bit}
use Rattle.std.specs.Prelude.{if◌then◌else◌}
use Rattle.rules.specs.Signals.{as_word}
use Rattle.rules.proofs.Signals.{word_small, word_more}
use Rattle.tuple.specs.Disagreement.{count_by, alarm_by}
use Rattle.tuple.proofs.Small.{either_small}

pub common : (i w : ℕ) → bit_and w (2 ^ i) ≡ bit i w * 2 ^ i
common i w =
    let e : 2 ^ (1 + i) - 2 ^ i ≡ 2 ^ i = omega (arith, pow-add 2 1 i) in
    rw e at (and_high w 1 i)

pub one_at : (i : ℕ) → i < 32 → 1 * 2 ^ i % 4294967296 ≡ 2 ^ i
one_at i l = let e : 1 * 2 ^ i ≡ 2 ^ i = omega arith in rw e (mod-eq_of_lt (pow-lt l))

-- a test, shifted to a place, is a one there or none
pub one_placed : (t : Bool) (i : ℕ) → i < 32 → bool_byte t * 2 ^ i % 4294967296 ≡ (if t then 1 else 0) * 2 ^ i
one_placed true i l = one_at i l ∙ omega arith
one_placed false i l = rw (zero-mul (2 ^ i)) refl

pub in_front : (f : ℕ → ℕ) → ((i : ℕ) → f i < 2) → (i : ℕ) → bit_or (as_word i f) (f i * 2 ^ i) ≡ as_word (i + 1) f
in_front f small i = or_shifted_r (f i) i (as_word i f) (word_small f small i) ∙ add_comm (f i * 2 ^ i) (as_word i f) ∙ sym (word_more f i)

-- a signal that is looked at where it stands: x times the power p of its place
module _ (need count : ℕ) where
  pub count_placed : (x p : ℕ) → 1 ≤ p → count_by need count (x * p) ≡ count_by need count x
  count_placed zero p l = rw (zero-mul p)
  count_placed (suc x) p l = rw (ne_eqb (suc x * p) 0 (λ e. omega (arith, e, l)), ne_eqb (suc x) 0 (λ e. omega (arith, e)))

  pub alarm_placed : (x p : ℕ) → alarm_by need count (x * p) ≡ alarm_by need count x * p
  alarm_placed x p = go (ltb count (need - 1)) where
    go : (q : Bool) → (if q then 0 else x * p) ≡ (if q then 0 else x) * p
    go true = sym (zero-mul p)
    go false = refl

  pub alarm_by_small : {x : ℕ} → x < 2 → alarm_by need count x < 2
  alarm_by_small l = either_small (ltb count (need - 1)) (lit< tt) l
