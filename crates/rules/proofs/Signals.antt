-- The laws of what is put together signal by signal: for a loop over the signals, none and one more; for a reader, signal i.
use Prim.Native.Nat.{ℕ, zero, suc, ◌+◌, ◌-◌, ◌*◌, ◌/◌, ◌^◌, ◌≤◌, ◌<◌}
use mathlib.Core.Path.{◌≡◌, refl, sym, ap, ◌∙◌}
use mathlib.Core.List.{List, [], ◌∷◌, ◌++◌, append_assoc}
use mathlib.Core.Bool.{Bool, false, ◌||◌}
use mathlib.Core.Logic.{◌↔◌, ⊎_elim}
use native.Mathlib.Omega.{arith}
use native.Mathlib.Numerals.{add-one}
use native.Mathlib.Nat.{add-mul-div_right, add-mul-mod_self_right, div-eq_of_lt, eq-or-lt_of_le, le_of_suc-le-suc, mod-eq_of_lt, mod-lt, mul_assoc, mul-le-mul_right, pow-suc, zero-add}
use lib.Dec.{lit<}
use lib.ListN.{length, get_or, set, drop, length-append, length-drop, get_or-append}
use lib.Pow.{pow_pos, pow-add}
use lib.Seq.{drop-cons, set_at, get_or-append-add, get_or_at, get_or-drop, ext_get_or}
use Rattle.rules.specs.Bits.{bit}
use Rattle.rules.specs.Signals.{as_word, as_list, some_below}
use Rattle.rules.proofs.Tables.{or_neither}

-- i below n+1 is n or below n
up_to : {A : Type 0} (n i : ℕ) → i < suc n → (i ≡ n → A) → (i < n → A) → A
up_to n i l last lower = ⊎_elim last lower (eq-or-lt_of_le (le_of_suc-le-suc l))

pub bit_small : (i w : ℕ) → bit i w < 2
bit_small i w = mod-lt (w / 2 ^ i) (lit< tt)

module _ (f : ℕ → ℕ) where
  pub word_none : 0 ≡ as_word 0 f
  unfolding as_word
  word_none = refl

  pub word_more : (i : ℕ) → as_word (i + 1) f ≡ as_word i f + f i * 2 ^ i
  unfolding as_word
  word_more i = rw add-one

  -- it is known by what was put below n
  pub word_same : (g : ℕ → ℕ) (n : ℕ) → ((i : ℕ) → i < n → f i ≡ g i) → as_word n f ≡ as_word n g
  unfolding as_word
  word_same g zero h = refl
  word_same g (suc n) h = rw (word_same g n (λ i l. h i (omega (arith, l))), h n (omega arith))

  -- where nothing is put at n and above, it is the word of n signals
  pub word_ends : (n m : ℕ) → n ≤ m → ((i : ℕ) → n ≤ i → f i ≡ 0) → as_word m f ≡ as_word n f
  unfolding as_word
  word_ends n zero l h = let e : n ≡ 0 = omega (arith, l) in rw e
  word_ends n (suc m) l h =
      ⊎_elim (λ (e : n ≡ suc m). rw e)
      (λ (q : n < suc m). rw (h m (omega (arith, q)), word_ends n m (omega (arith, q)) h) (omega arith)) (eq-or-lt_of_le l)

  pub word_small : ((i : ℕ) → f i < 2) → (n : ℕ) → as_word n f < 2 ^ n
  unfolding as_word
  word_small h zero = lit< tt
  word_small h (suc n) =
      let one : f n ≤ 1 = omega (arith, h n) in
      rw pow-suc (omega (arith, word_small h n, mul-le-mul_right (2 ^ n) one))

  -- bit i of the word is what was put there
  pub word_bit : ((i : ℕ) → f i < 2) → (n i : ℕ) → i < n → bit i (as_word n f) ≡ f i
  unfolding as_word
  word_bit h zero i l = absurd (omega (arith, l))
  word_bit h (suc n) i l = up_to n i l (λ q. rw q top) (λ q. below q ∙ word_bit h n i q) where
    top : bit n (as_word n f + f n * 2 ^ n) ≡ f n
    top = rw (add-mul-div_right (as_word n f) (f n) (pow_pos n), div-eq_of_lt (word_small h n), zero-add) (mod-eq_of_lt (h n))

    split : i < n → 2 ^ n ≡ (2 ^ (n - suc i) * 2) * 2 ^ i
    split q =
        let e : n ≡ (n - suc i) + (1 + i) = omega arith in
        ap (λ (k : ℕ). 2 ^ k) e ∙ pow-add 2 (n - suc i) (1 + i) ∙ ap (λ (k : ℕ). 2 ^ (n - suc i) * k) (pow-add 2 1 i) ∙ sym (mul_assoc (2 ^ (n - suc i)) 2 (2 ^ i))

    below : i < n → bit i (as_word n f + f n * 2 ^ n) ≡ bit i (as_word n f)
    below q =
        rw (split q, ← mul_assoc (f n) (2 ^ (n - suc i) * 2) (2 ^ i), add-mul-div_right (as_word n f) (f n * (2 ^ (n - suc i) * 2)) (pow_pos i), ← mul_assoc (f n) (2 ^ (n - suc i)) 2)
        (add-mul-mod_self_right (as_word n f / 2 ^ i) (f n * 2 ^ (n - suc i)) 2)

  -- it is zero exactly when each is
  pub word_zero : ((i : ℕ) → f i < 2) → (n : ℕ) → (as_word n f ≡ 0) ↔ ((i : ℕ) → i < n → f i ≡ 0)
  unfolding as_word
  word_zero h n = (λ e i l. sym (word_bit h n i l) ∙ rw e (rw (div-eq_of_lt (pow_pos i))), back n) where
    back : (n : ℕ) → ((i : ℕ) → i < n → f i ≡ 0) → as_word n f ≡ 0
    back zero z = refl
    back (suc n) z = rw (back n (λ i l. z i (omega (arith, l))), z n (omega arith)) (omega arith)

  pub list_same : (g : ℕ → ℕ) (n : ℕ) → ((i : ℕ) → i < n → f i ≡ g i) → as_list n f ≡ as_list n g
  unfolding as_list
  list_same g zero h = refl
  list_same g (suc n) h = rw (list_same g n (λ i l. h i (omega (arith, l))), h n (omega arith))

  pub list_length : (n : ℕ) → length (as_list n f) ≡ n
  unfolding as_list
  list_length zero = refl
  list_length (suc n) = simp (length-append, list_length n, add-one)

  pub list_at : (n i : ℕ) → i < n → get_or (as_list n f) i 0 ≡ f i
  unfolding as_list
  list_at zero i l = absurd (omega (arith, l))
  list_at (suc n) i l = up_to n i l (λ q. rw q (get_or_at (as_list n f) (f n) [] 0 n (list_length n))) (λ q. get_or-append (as_list n f) (f n ∷ []) 0 i (rw list_length q) ∙ list_at n i q)

  -- places of which those below i are written, and the others are as they were
  module _ (xs : List ℕ) where
    pub places_none : xs ≡ as_list 0 f ++ drop 0 xs
    unfolding as_list
    places_none = refl

    pub places_more : (i : ℕ) → i < length xs → set (as_list i f ++ drop i xs) i (f i) ≡ as_list (i + 1) f ++ drop (i + 1) xs
    unfolding as_list
    places_more i h =
        rw (drop-cons xs i 0 h, set_at (as_list i f) (get_or xs i 0) (drop (suc i) xs) (f i) i (list_length i), add-one) (sym (append_assoc (as_list i f) (f i ∷ []) (drop (suc i) xs)))

    pub places_length : (i : ℕ) → i ≤ length xs → length (as_list i f ++ drop i xs) ≡ length xs
    places_length i h = simp (length-append, list_length, length-drop) (omega arith)

    pub place_below : (n i : ℕ) → i < n → get_or (as_list n f ++ drop n xs) i 0 ≡ f i
    place_below n i l = get_or-append (as_list n f) (drop n xs) 0 i (rw list_length l) ∙ list_at n i l

    pub place_above : (n i : ℕ) → n ≤ i → get_or (as_list n f ++ drop n xs) i 0 ≡ get_or xs i 0
    place_above n i l =
        let e : i ≡ n + (i - n) = omega arith in
        let g = get_or-append-add (as_list n f) (drop n xs) (i - n) 0 in
        ap (λ (k : ℕ). get_or (as_list n f ++ drop n xs) k 0) e ∙ (rw (list_length n) at g) ∙ get_or-drop n xs (i - n) 0 ∙ ap (λ (k : ℕ). get_or xs k 0) (sym e)

-- places that were copied from a list of as many are the list
pub copied : (xs old : List ℕ) (n : ℕ) → length xs ≡ n → length old ≡ n → as_list n (λ k. get_or xs k 0) ++ drop n old ≡ xs
copied xs old n e q =
    let f : ℕ → ℕ = λ k. get_or xs k 0 in
    let same : length (as_list n f ++ drop n old) ≡ n = places_length f old n (omega (arith, q)) ∙ q in
    ext_get_or 0 (as_list n f ++ drop n old) xs (same ∙ sym e) (λ i l. let m : i < n = rw same at l in place_below f old n i m)

module _ (f : ℕ → Bool) where
  pub some_none : false ≡ some_below 0 f
  unfolding some_below
  some_none = refl

  pub some_more : (i : ℕ) → some_below (i + 1) f ≡ some_below i f || f i
  unfolding some_below
  some_more i = rw add-one

  pub none_below : (n : ℕ) → ((i : ℕ) → i < n → f i ≡ false) → some_below n f ≡ false
  unfolding some_below
  none_below zero h = refl
  none_below (suc n) h = simp (none_below n (λ i l. h i (omega (arith, l))), h n (omega arith))

  pub not_at : (n : ℕ) → some_below n f ≡ false → (i : ℕ) → i < n → f i ≡ false
  unfolding some_below
  not_at zero h i l = absurd (omega (arith, l))
  not_at (suc n) h i l =
      let p = or_neither (some_below n f) (f n) h in
      up_to n i l (λ q. rw q p.1) (λ q. not_at n p.0 i q)
