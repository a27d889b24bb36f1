-- Laws of digits: how many there are, and the two loops that count and write them.
use mathlib.Core.Path.{◌≡◌, refl, ap, ◌∙◌}
use mathlib.Core.Bool.{Bool, true, false}
use mathlib.Core.List.{List, [], ◌∷◌, ◌++◌, append_assoc}
use Prim.Native.Nat.{ℕ, zero, suc, ◌+◌, ◌-◌, ◌/◌, ◌%◌, ◌^◌, ◌<◌, ◌≤◌}
use native.Mathlib.Nat.{div-lt_iff_lt-mul, pow-suc}
use native.Mathlib.Numerals.{add-one}
use native.Mathlib.Omega.{arith}
use lib.Dec.{ltb}
use lib.ListN.{length, drop, set, length-append}
use borrow.Author.Tests.{lt-ltb, le-ltb}
use Rattle.std.specs.Prelude.{if◌then◌else◌}
use Rattle.std.proofs.lemmas.List.{drop-set}
use Rattle.text.specs.Text.{bytes, glyph, digits, places_up_to, places, decimal, hex8, line}

pub digits_length : (base k n : ℕ) → length (digits base k n) ≡ k
unfolding digits
digits_length base zero n = refl
digits_length base (suc k) n =
    length-append (digits base k (n / base)) (glyph (n % base) ∷ [])
    ∙ add-one (length (digits base k (n / base)))
    ∙ ap suc (digits_length base k (n / base))

pub decimal_length : (n : ℕ) → length (decimal n) ≡ places n
decimal_length n = digits_length 10 (places n) n

pub hex_length : (w : ℕ) → length (hex8 w) ≡ 8
hex_length w = digits_length 16 8 w

pub line_length : (number word letter last : ℕ) → length (line number word letter last) ≡ places number + 21
unfolding line bytes
line_length number word letter last = simp (length-append, decimal_length, hex_length) (omega arith)

-- a tenth of a number below 10 ^ suc k is below 10 ^ k
pub tenth : (k n : ℕ) → n < 10 ^ suc k → n / 10 < 10 ^ k
tenth k n h = (div-lt_iff_lt-mul {k = 10} (omega arith)).1 (rw (pow-suc 10 k) at h)

-- the two cases of the number of places
pub places_one : (k n : ℕ) → n < 10 → places_up_to k n ≡ 1
unfolding places_up_to
places_one zero n h = refl
places_one (suc k) n h = rw (lt-ltb n 10 h)

places_more : (k n : ℕ) → 10 ≤ n → places_up_to (suc k) n ≡ suc (places_up_to k (n / 10))
unfolding places_up_to
places_more k n h = rw (le-ltb n 10 h)

-- a bound on a tenth's places is one on the number's
one_more : (b : Bool) (m k : ℕ) → m ≤ k → (if b then 1 else suc m) ≤ suc k
one_more true m k h = omega arith
one_more false m k h = omega arith

most_up_to : (k n : ℕ) → places_up_to k n ≤ suc k
unfolding places_up_to
most_up_to zero n = omega arith
most_up_to (suc k) n = one_more (ltb n 10) _ _ (most_up_to k (n / 10))

few_up_to : (k j n : ℕ) → n < 10 ^ suc j → places_up_to k n ≤ suc j
unfolding places_up_to
few_up_to zero j n h = omega arith
few_up_to (suc k) zero n h = omega (arith, places_one (suc k) n h)
few_up_to (suc k) (suc j) n h = one_more (ltb n 10) _ _ (few_up_to k j (n / 10) (tenth (suc j) n h))

-- ten at the most; two below 100, four below 10,000, and so for every power of ten
pub places_most : (n : ℕ) → places n ≤ 10
places_most = most_up_to 9

pub places_few : (j n : ℕ) → n < 10 ^ suc j → places n ≤ suc j
places_few = few_up_to 9

-- and so exactly: j + 1 from the j-th power on to the next
some_up_to : (k n : ℕ) → 1 ≤ places_up_to k n
unfolding places_up_to
some_up_to zero n = omega arith
some_up_to (suc k) n = go (ltb n 10) where
  go : (b : Bool) → 1 ≤ (if b then 1 else suc (places_up_to k (n / 10)))
  go true = omega arith
  go false = omega arith

power : (j : ℕ) → 1 ≤ 10 ^ j
power zero = omega arith
power (suc j) = omega (arith, pow-suc 10 j, power j)

many_up_to : (k j n : ℕ) → j ≤ k → 10 ^ j ≤ n → suc j ≤ places_up_to k n
many_up_to k zero n l h = some_up_to k n
many_up_to zero (suc j) n l h = absurd (omega arith)
many_up_to (suc k) (suc j) n l h =
    let p = pow-suc 10 j in
    let some = power j in
    omega (arith, places_more k n (omega arith), many_up_to k j (n / 10) (omega arith) (omega arith))

pub places_exactly : (j n : ℕ) → j ≤ 9 → 10 ^ j ≤ n → n < 10 ^ suc j → suc j ≡ places n
places_exactly j n l low high = omega (arith, places_few j n high, many_up_to 9 j n l low)

-- a digit is stored, and those before it are still to come
pub store_digit :
    (base i rest g : ℕ) (place whole : List ℕ) → 0 < i → i ≤ length place → g ≡ glyph (rest % base)
    → digits base i rest ++ drop i place ≡ whole
    → digits base (i - 1) (rest / base) ++ drop (i - 1) (set place (i - 1) g) ≡ whole
unfolding digits
store_digit base zero rest g place whole h l q e = absurd (omega arith)
store_digit base (suc i) rest g place whole h l q e =
    let p : suc i - 1 ≡ i = omega arith in
    let here = drop-set place i g (omega arith) in
    rw (p, here, q, add-one) (rw (append_assoc (digits base i (rest / base)) (glyph (rest % base) ∷ []) (drop (suc i) place)) at e)
