-- The width: the test of the contracts, w < 2 ^ n, says what document 01 says, that bits n and above are zero, for every n.
use mathlib.Core.Path.{◌≡◌, refl, sym, ap, ◌∙◌}
use mathlib.Core.Logic.{◌↔◌, dite}
use mathlib.Core.Bool.{Bool, true, false, not, ◌||◌}
use Prim.Native.Nat.{ℕ, zero, suc, ◌+◌, ◌*◌, ◌≤◌, ◌<◌, ◌/◌, ◌%◌, ◌^◌}
use native.Mathlib.Nat.{div-eq_of_lt, div-lt_iff_lt-mul, mod-eq_of_lt, add-zero, div-one, pow-suc}
use native.Mathlib.Decide.{dec_lt}
use native.Mathlib.Numerals.{one-add}
use native.Mathlib.Omega.{arith}
use lib.Bits.{bit_or, or_lt, or_add_and, and_le_l, and_le_r}
use lib.Pow.{pow_pos, pow_mono, shr_lt, shr-shr}
use lib.Dec.{ltb, eqb}
use borrow.Author.Tests.{lt-ltb, le-ltb, ltb-true, ltb-false, eq-eqb, ne_eqb, not-false, not-true}
use Rattle.rules.specs.Bits.{bit, Within}
use Rattle.rules.specs.Limits.{bad_width, outside}
use Rattle.rules.proofs.Ranges.{width_range}

pub inside_lt : (n w : ℕ) → outside n w ≡ false → w < 2 ^ n
inside_lt n w e = ltb-true w (2 ^ n) (not-false (ltb w (2 ^ n)) e)

pub lt_inside : (n w : ℕ) → w < 2 ^ n → outside n w ≡ false
lt_inside n w h = ap not (lt-ltb w (2 ^ n) h)

outside_le : (n w : ℕ) → outside n w ≡ true → 2 ^ n ≤ w
outside_le n w e = ltb-false w (2 ^ n) (not-true (ltb w (2 ^ n)) e)

outside_ge : (n w : ℕ) → 2 ^ n ≤ w → outside n w ≡ true
outside_ge n w h = ap not (le-ltb w (2 ^ n) h)

pub high_zero : (n w : ℕ) → w < 2 ^ n → Within n w
high_zero n w h k le = ap (λ (q : ℕ). q % 2) (div-eq_of_lt (let m : 2 ^ n ≤ 2 ^ k = pow_mono le in omega arith))

-- a word below 2 ^ (n + m) whose bits n and above are zero is below 2 ^ n: one bit after the other from the top
small : (m n w : ℕ) → w < 2 ^ (n + m) → Within n w → w < 2 ^ n
small zero n w h z = rw add-zero at h
small (suc m) n w h z =
    let h1 : w < 2 ^ (1 + (n + m)) = rw (← one_more n m) h in
    let q : w / 2 ^ (n + m) < 2 = shr_lt 1 (n + m) h1 in
    let b : w / 2 ^ (n + m) % 2 ≡ 0 = z (n + m) (omega arith) in
    let e : w / 2 ^ (n + m) < 1 = omega (arith, mod-eq_of_lt q) in
    let f : w < 1 * 2 ^ (n + m) = (div-lt_iff_lt-mul (pow_pos (n + m))).0 e in
    small m n w (omega arith) z
  where
    one_more : (n m : ℕ) → n + suc m ≡ 1 + (n + m)
    one_more n m = omega arith

-- every word ends: it is below a power of two
below_power : (w : ℕ) → w < 2 ^ w
below_power zero = pow_pos 0
below_power (suc w) = rw pow-suc (omega (arith, below_power w))

-- for every word and every n
pub within : (n w : ℕ) → (outside n w ≡ false) ↔ Within n w
within n w = (
  λ e. high_zero n w (inside_lt n w e),
  λ z. lt_inside n w (small w n w (let m : 2 ^ w ≤ 2 ^ (n + w) = pow_mono {i = w} {j = n + w} (omega arith) in omega (arith, below_power w)) z),
)

-- n 32, or more, accepts every word
pub every_word_lem : (n w : ℕ) → 32 ≤ n → w < 2 ^ 32 → outside n w ≡ false
every_word_lem n w wide h = lt_inside n w (omega (arith, pow_mono wide))

-- n 31 refuses 80000000 hex
pub top_bit : outside 31 0x8000_0000 ≡ true
top_bit = refl

-- a word shifted right by n is zero exactly when it is below 2 ^ n
pub shifted_out : (n w : ℕ) → eqb (w / 2 ^ n) 0 ≡ ltb w (2 ^ n)
shifted_out n w =
    dite (dec_lt w (2 ^ n))
    (λ h. eq-eqb _ _ (div-eq_of_lt h) ∙ sym (lt-ltb _ _ h))
    (λ h. ne_eqb (w / 2 ^ n) 0 (λ e. h (let q : w < 1 * 2 ^ n = (div-lt_iff_lt-mul (pow_pos n)).0 (omega arith) in omega arith)) ∙ sym (le-ltb w (2 ^ n) (omega arith)))

-- the OR of two words is outside exactly when one of them is
pub outside_or : (n a b : ℕ) → outside n (bit_or a b) ≡ outside n a || outside n b
outside_or n a b = go (outside n a) (outside n b) refl refl where
  or_ge : (a ≤ bit_or a b) × (b ≤ bit_or a b)
  or_ge = (omega (arith, or_add_and a b, and_le_r a b), omega (arith, or_add_and a b, and_le_l a b))

  go : (p q : Bool) → outside n a ≡ p → outside n b ≡ q → outside n (bit_or a b) ≡ p || q
  go true q ea eb = outside_ge n (bit_or a b) (omega (arith, or_ge.0, outside_le n a ea))
  go false true ea eb = outside_ge n (bit_or a b) (omega (arith, or_ge.1, outside_le n b eb))
  go false false ea eb = lt_inside n (bit_or a b) (or_lt n a b (inside_lt n a ea) (inside_lt n b eb))

-- the word with no bit is inside every width
pub zero_inside : (n : ℕ) → outside n 0 ≡ false
zero_inside n = lt_inside n 0 (pow_pos n)

-- a word inside a width is one of 32 bits
pub below : (n w : ℕ) → bad_width n ≡ false → outside n w ≡ false → w < 2 ^ 32
below n w wide inside = let m : 2 ^ n ≤ 2 ^ 32 = pow_mono (width_range n wide).1 in omega (arith, inside_lt n w inside)

-- a tuple of n signals is known by its signals: signal i + 1 is signal i of the word's other signals
next_signal : (i w : ℕ) → bit (suc i) w ≡ bit i (w / 2)
next_signal i w = sym (ap (λ x. x % 2) (shr-shr w 1 i ∙ ap (λ j. w / 2 ^ j) (one-add i)))

pub words_agree : (n a b : ℕ) → a < 2 ^ n → b < 2 ^ n → ((i : ℕ) → i < n → bit i a ≡ bit i b) → a ≡ b
words_agree zero a b la lb h = omega arith
words_agree (suc n) a b la lb h =
    let la' : a < 2 ^ n * 2 = rw pow-suc at la in
    let lb' : b < 2 ^ n * 2 = rw pow-suc at lb in
    let others : a / 2 ≡ b / 2 =
    words_agree n (a / 2) (b / 2) (omega arith) (omega arith)
    (λ i l. sym (next_signal i a) ∙ h (suc i) (omega arith) ∙ next_signal i b) in
    let lowest : a % 2 ≡ b % 2 = simp div-one at (h 0 (omega arith)) in
    omega arith
