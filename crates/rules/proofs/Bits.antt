-- A signal of two words put together by AND, OR and XOR is the two signals put together, for every signal. So AND has a one where both
-- have, OR where one has, and XOR where they differ. NOT, of a word of w bits, has one where the word has none.
use Prim.Native.Nat.{ℕ, zero, suc, ◌+◌, ◌-◌, ◌*◌, ◌/◌, ◌%◌, ◌^◌, ◌<◌, min, max}
use mathlib.Core.Path.{◌≡◌, refl, sym, ap, ◌∙◌}
use mathlib.Core.Logic.{◌↔◌}
use native.Mathlib.Nat.{add-mul, add-mul-div_right, div-add-mod', div-eq_of_lt, div-lt_iff_lt-mul, mod-lt, mul_assoc, zero-add}
use native.Mathlib.Omega.{arith}
use lib.Pow.{pow_pos, pow-add}
use lib.Bits.{bit_and, bit_or, bit_xor, differ, and_shr, or_shr, xor_shr, and_step, or_step, xor_step}
use Rattle.rules.specs.Bits.{bit}
use Rattle.rules.proofs.Signals.{bit_small}

-- an operation on words that goes by their digits, f of each
module _
    (op f : ℕ → ℕ → ℕ)
    (shr : (a b k : ℕ) → op a b / 2 ^ k ≡ op (a / 2 ^ k) (b / 2 ^ k))
    (step : (a b : ℕ) → op a b ≡ op (a / 2) (b / 2) * 2 + f (a % 2) (b % 2))
    (small : (x y : ℕ) → x < 2 → y < 2 → f x y < 2)
  where
    op_bit : (k a b : ℕ) → bit k (op a b) ≡ f (bit k a) (bit k b)
    op_bit k a b =
        let low = small (bit k a) (bit k b) (bit_small k a) (bit_small k b) in
        ap (λ (w : ℕ). w % 2) (shr a b k ∙ step (a / 2 ^ k) (b / 2 ^ k)) ∙ omega (arith, low)

-- differing digits, 0 or 1
differ_small : (x y : ℕ) → x < 2 → y < 2 → differ x y < 2
differ_small zero y l m = m
differ_small (suc x) zero l m = l
differ_small (suc x) (suc y) l m = differ_small x y (omega (arith, l)) (omega (arith, m))

one_told : (x y : ℕ) → x < 2 → y < 2 → (differ x y ≡ 1) ↔ (x ≡ y → ⊥)
one_told zero zero l m = (λ e q. omega arith, λ h. absurd (h refl))
one_told zero (suc y) l m = (λ e q. omega arith, λ h. omega (arith, m))
one_told (suc x) zero l m = (λ e q. omega arith, λ h. omega (arith, l))
one_told (suc x) (suc y) l m =
    let both = one_told x y (omega (arith, l)) (omega (arith, m)) in
    (λ e q. both.0 e (omega (arith, q)), λ h. both.1 (λ q. h (ap suc q)))

module _ (k a b : ℕ) where
  pub and_bit : bit k (bit_and a b) ≡ min (bit k a) (bit k b)
  and_bit = op_bit bit_and min and_shr and_step (λ x y l m. omega arith) k a b

  pub or_bit : bit k (bit_or a b) ≡ max (bit k a) (bit k b)
  or_bit = op_bit bit_or max or_shr or_step (λ x y l m. omega arith) k a b

  pub xor_bit : bit k (bit_xor a b) ≡ differ (bit k a) (bit k b)
  xor_bit = op_bit bit_xor differ xor_shr xor_step differ_small k a b

  -- a one exactly where the two differ
  pub xor_exactly : (bit k (bit_xor a b) ≡ 1) ↔ (bit k a ≡ bit k b → ⊥)
  xor_exactly = rw xor_bit (one_told (bit k a) (bit k b) (bit_small k a) (bit_small k b))

-- NOT of a word of w bits is what is left of all ones: from place k on the NOT of the quotient, below it that of the remainder
pub not_bit : (w k a : ℕ) → k < w → a < 2 ^ w → bit k ((2 ^ w - 1) - a) ≡ 1 - bit k a
not_bit w k a l h =
    let p = 2 ^ k in
    let half = 2 ^ (w - suc k) in
    let q = a / p in
    let r = a % p in
    let e : w ≡ (w - suc k) + (1 + k) = omega (arith, l) in
    let whole : 2 ^ w ≡ (half * 2) * p =
    ap (λ (j : ℕ). 2 ^ j) e ∙ pow-add 2 (w - suc k) (1 + k) ∙ ap (λ (j : ℕ). half * j) (pow-add 2 1 k) ∙ sym (mul_assoc half 2 p) in
    let small : q < half * 2 = (div-lt_iff_lt-mul (pow_pos k)).1 (rw (← whole) h) in
    let u = (half * 2 - 1) - q in
    let split : half * 2 ≡ (u + 1) + q = omega (arith, small) in
    let parts : (half * 2) * p ≡ (u * p + 1 * p) + q * p = ap (λ (j : ℕ). j * p) split ∙ add-mul (u + 1) q p ∙ ap (λ (j : ℕ). j + q * p) (add-mul u 1 p) in
    let left : (2 ^ w - 1) - a ≡ (p - 1 - r) + u * p = omega (arith, whole, parts, div-add-mod' a p, mod-lt a (pow_pos k)) in
    let high : ((2 ^ w - 1) - a) / p ≡ u =
    ap (λ (j : ℕ). j / p) left ∙ add-mul-div_right (p - 1 - r) u (pow_pos k)
    ∙ ap (λ (j : ℕ). j + u) (div-eq_of_lt (omega (arith, mod-lt a (pow_pos k)))) ∙ zero-add u in
    ap (λ (j : ℕ). j % 2) high ∙ omega (arith, split)
