-- Digits read back: the text of a u32, decimal or hexadecimal, gives the number, so no two numbers have one text; and a decimal
-- text has no zero in front.
use mathlib.Core.Path.{◌≡◌, refl, sym, ap, ◌∙◌}
use mathlib.Core.Bool.{Bool, true, false}
use mathlib.Core.List.{List, [], ◌∷◌, ◌++◌}
use Prim.Native.Nat.{ℕ, zero, suc, ◌+◌, ◌-◌, ◌*◌, ◌/◌, ◌%◌, ◌^◌, ◌<◌, ◌≤◌}
use native.Mathlib.Nat.{div-lt_iff_lt-mul, div-div-eq-div-mul, div-add-mod', div-one, mod-eq_of_lt, mod-lt, pow-suc, pow-succ', pow-zero}
use native.Mathlib.Omega.{arith}
use borrow.Author.Tests.{ltb-true, ltb-false, lt-ltb, le-ltb}
use lib.Dec.{ltb}
use Rattle.std.specs.Prelude.{if◌then◌else◌}
use Rattle.text.specs.Text.{bytes, glyph, digits, places_up_to, places, decimal, hex8}
use Rattle.text.proofs.Digits.{tenth, places_few}

-- what a digit's code stands for
abbrev pub unglyph : ℕ → ℕ
unglyph c = if ltb c 58 then c - 48 else c - 87

-- the number that digits stand for, the most significant first, after what was read already
unfoldable pub value : ℕ → ℕ → List ℕ → ℕ
value base acc [] = acc
value base acc (c ∷ cs) = value base (acc * base + unglyph c) cs

value_last : (base acc : ℕ) (cs : List ℕ) (c : ℕ) → value base acc (cs ++ (c ∷ [])) ≡ value base acc cs * base + unglyph c
unfolding value
value_last base acc [] c = refl
value_last base acc (x ∷ cs) c = value_last base (acc * base + unglyph x) cs c

pub glyph_read : (d : ℕ) → d < 16 → unglyph (glyph d) ≡ d
unfolding glyph
glyph_read d h = go (ltb d 10) refl where
  go : (b : Bool) → ltb d 10 ≡ b → unglyph (if b then 48 + d else 87 + d) ≡ d
  go true e = let l = ltb-true d 10 e in rw (lt-ltb (48 + d) 58 (omega arith)) (omega arith)
  go false e = let l = ltb-false d 10 e in rw (le-ltb (87 + d) 58 (omega arith)) (omega arith)

pub digits_read : (base k n : ℕ) → 0 < base → base ≤ 16 → n < base ^ k → value base 0 (digits base k n) ≡ n
unfolding digits value
digits_read base zero n h g l = let z : n < 1 = rw pow-zero at l in omega arith
digits_read base (suc k) n h g l =
    let r = digits_read base k (n / base) h g ((div-lt_iff_lt-mul h).1 (rw (pow-suc base k) at l)) in
    let d : n % base < 16 = omega (arith, mod-lt n h) in
    value_last base 0 (digits base k (n / base)) (glyph (n % base)) ∙ rw (r, glyph_read (n % base) d) (div-add-mod' n base)

-- a number's places are enough for it
enough : (k n : ℕ) → n < 10 ^ suc k → n < 10 ^ places_up_to k n
unfolding places_up_to
enough zero n h = h
enough (suc k) n h = go (ltb n 10) refl (enough k (n / 10) (tenth (suc k) n h)) where
  go : (b : Bool) → ltb n 10 ≡ b → n / 10 < 10 ^ places_up_to k (n / 10) → n < 10 ^ (if b then 1 else suc (places_up_to k (n / 10)))
  go true e l = ltb-true n 10 e
  go false e l = rw (pow-suc 10 (places_up_to k (n / 10))) ((div-lt_iff_lt-mul {k = 10} (omega arith)).0 l)

pub decimal_read : (n : ℕ) → n < 2 ^ 32 → value 10 0 (decimal n) ≡ n
decimal_read n h = digits_read 10 (places n) n (omega arith) (omega arith) (enough 9 n (omega arith))

pub hex_read : (w : ℕ) → w < 2 ^ 32 → value 16 0 (hex8 w) ≡ w
hex_read w h = digits_read 16 8 w (omega arith) (omega arith) h

pub decimal_inj : (n m : ℕ) → n < 2 ^ 32 → m < 2 ^ 32 → decimal n ≡ decimal m → n ≡ m
decimal_inj n m h k e = sym (decimal_read n h) ∙ ap (value 10 0) e ∙ decimal_read m k

pub hex_inj : (v w : ℕ) → v < 2 ^ 32 → w < 2 ^ 32 → hex8 v ≡ hex8 w → v ≡ w
hex_inj v w h k e = sym (hex_read v h) ∙ ap (value 16 0) e ∙ hex_read w k

-- the digit in front
digits_first : (base k n : ℕ) → digits base (suc k) n ≡ glyph (n / base ^ k % base) ∷ digits base k n
unfolding digits
digits_first base zero n = rw (pow-zero, div-one)
digits_first base (suc k) n = rw (digits_first base k (n / base), div-div-eq-div-mul, ← pow-succ')

-- where it is 0, there is one too many
shorter : (k n : ℕ) → n < 10 ^ suc k → glyph (n / 10 ^ k % 10) ≡ 48 → n < 10 ^ k
shorter k n h g =
    let s : n < 10 * 10 ^ k = rw (pow-succ' 10 k) at h in
    let d : n / 10 ^ k < 10 = (div-lt_iff_lt-mul {k = 10 ^ k} (omega arith)).1 s in
    let m = mod-eq_of_lt d in
    let z : n / 10 ^ k ≡ 0 = sym m ∙ sym (glyph_read (n / 10 ^ k % 10) (omega arith)) ∙ ap unglyph g in
    let l : n < 1 * 10 ^ k = (div-lt_iff_lt-mul {k = 10 ^ k} (omega arith)).0 (omega arith) in
    omega arith

-- only the number 0 begins with a zero
pub no_zero : (n : ℕ) (rest : List ℕ) → n < 2 ^ 32 → decimal n ≡ 48 ∷ rest → n ≡ 0
no_zero n rest h e = go (places n) (enough 9 n (omega arith)) e (λ j. places_few j n) where
  go : (p : ℕ) → n < 10 ^ p → digits 10 p n ≡ 48 ∷ rest → ((j : ℕ) → n < 10 ^ suc j → p ≤ suc j) → n ≡ 0
  go zero l e few = omega arith
  go (suc zero) l e few = let first = digits_first 10 0 n in let s = shorter 0 n l (cc) in omega arith
  go (suc (suc j)) l e few = let first = digits_first 10 (suc j) n in absurd (omega (arith, few j (shorter (suc j) n l (cc))))

-- with a pencil
pub zero_decimal : decimal 0 ≡ bytes "0"
unfolding bytes glyph digits places_up_to
zero_decimal = refl

pub greatest_decimal : decimal 4_294_967_295 ≡ bytes "4294967295"
unfolding bytes glyph digits places_up_to
greatest_decimal = refl

pub letters_hex : hex8 11_259_375 ≡ bytes "00abcdef"
unfolding bytes glyph digits
letters_hex = refl
