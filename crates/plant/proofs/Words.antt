-- In how many signals two words differ, and how that grows while each signal moves at most once.
use mathlib.Core.Path.{◌≡◌, sym, ◌∙◌}
use mathlib.Core.Logic.{◌≢◌, dite}
use Prim.Native.Nat.{ℕ, zero, suc, ◌+◌, ◌^◌, ◌≤◌, ◌<◌}
use native.Mathlib.Omega.{arith}
use native.Mathlib.Decide.{ℕ_discrete, dec_lt}
use lib.Dec.{eqb}
use borrow.Author.Tests.{eq-eqb, ne_eqb}
use Rattle.rules.specs.Bits.{bit}
use Rattle.std.specs.Prelude.{if◌then◌else◌}
use Rattle.rules.proofs.Width.{words_agree}

-- 1 where two values differ
unfoldable unlike : ℕ → ℕ → ℕ
unlike a b = if eqb a b then 0 else 1

unlike_same : (a b : ℕ) → a ≡ b → unlike a b ≡ 0
unfolding unlike
unlike_same a b e = rw (eq-eqb a b e)

unlike_other : (a b : ℕ) → a ≢ b → unlike a b ≡ 1
unfolding unlike
unlike_other a b d = rw (ne_eqb a b d)

unlike_most : (a b : ℕ) → unlike a b ≤ 1
unlike_most a b = dite (ℕ_discrete a b) (λ e. omega (arith, unlike_same a b e)) (λ d. omega (arith, unlike_other a b d))

-- a value that moves at most once on its way from a by b to c
module _ (a b c : ℕ) (once : a ≢ b → b ≢ c → ⊥) where
  unlike_grows : unlike a b ≤ unlike a c
  unlike_grows =
      dite (ℕ_discrete a b) (λ e. omega (arith, unlike_same a b e))
      (λ d. dite (ℕ_discrete b c) (λ e. rw e (omega arith)) (λ f. absurd (once d f)))

  unlike_stays : unlike a b ≡ unlike a c → b ≡ c
  unlike_stays same =
      dite (ℕ_discrete b c) (λ e. e)
      (λ f. dite (ℕ_discrete a b)
      (λ e. absurd (omega (arith, same, unlike_same a b e, unlike_other a c (λ p. f (sym e ∙ p)))))
      (λ d. absurd (once d f)))

-- the sum of f i for each i below n
unfoldable sum : ℕ → (ℕ → ℕ) → ℕ
sum zero f = 0
sum (suc n) f = sum n f + f n

sum_most : (n : ℕ) (f : ℕ → ℕ) → ((i : ℕ) → f i ≤ 1) → sum n f ≤ n
unfolding sum
sum_most zero f h = omega arith
sum_most (suc n) f h = omega (arith, sum_most n f h, h n)

sum_grows : (n : ℕ) (f g : ℕ → ℕ) → ((i : ℕ) → i < n → f i ≤ g i) → sum n f ≤ sum n g
unfolding sum
sum_grows zero f g h = omega arith
sum_grows (suc n) f g h = omega (arith, sum_grows n f g (λ i l. h i (omega arith)), h n (omega arith))

-- a sum that does not grow where no part falls has the same parts
sum_stays : (n : ℕ) (f g : ℕ → ℕ) → ((i : ℕ) → i < n → f i ≤ g i) → sum n g ≤ sum n f → (i : ℕ) → i < n → f i ≡ g i
unfolding sum
sum_stays zero f g h e i l = omega arith
sum_stays (suc n) f g h e i l =
    let below : (j : ℕ) → j < n → f j ≤ g j = λ j m. h j (omega arith) in
    let grows = sum_grows n f g below in
    let last = h n (omega arith) in
    dite (ℕ_discrete i n) (λ q. rw q (omega arith)) (λ q. sum_stays n f g below (omega arith) i (omega arith))

-- in how many of n signals two words differ
pub apart : ℕ → ℕ → ℕ → ℕ
apart n v w = sum n (λ i. unlike (bit i v) (bit i w))

pub apart_most : (n v w : ℕ) → apart n v w ≤ n
unfolding apart
apart_most n v w = sum_most n (λ i. unlike (bit i v) (bit i w)) (λ i. unlike_most (bit i v) (bit i w))

-- where each signal moves at most once on its way from u by v to w, and w is not v, w differs from u in more signals than v does
pub apart_grows :
    (n u v w : ℕ) → v < 2 ^ n → w < 2 ^ n
    → ((i : ℕ) → i < n → bit i u ≢ bit i v → bit i v ≢ bit i w → ⊥)
    → v ≢ w → apart n u v < apart n u w
unfolding apart
apart_grows n u v w lv lw once d =
    dite (dec_lt (sum n before) (sum n after)) (λ l. l)
    (λ m. absurd (d (words_agree n v w lv lw (λ i l. unlike_stays (bit i u) (bit i v) (bit i w) (once i l)
    (sum_stays n before after (λ j q. unlike_grows (bit j u) (bit j v) (bit j w) (once j q)) (omega arith) i l)))))
  where
    before : ℕ → ℕ
    before i = unlike (bit i u) (bit i v)

    after : ℕ → ℕ
    after i = unlike (bit i u) (bit i w)
