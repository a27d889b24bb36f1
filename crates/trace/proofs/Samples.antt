-- The first sample that a test marks, and whether there is one: one more sample looked at, that it is the smallest, and both over several
-- columns.
use mathlib.Core.Path.{◌≡◌, refl, sym, ◌∙◌}
use mathlib.Core.List.{List, [], ◌∷◌, zip, zip_with}
use mathlib.Core.Bool.{Bool, true, false, cond, ◌||◌, false≢true}
use Prim.Native.Nat.{ℕ, zero, suc, ◌+◌, ◌<◌, ◌≤◌, min}
use native.Mathlib.Numerals.{add-one}
use native.Mathlib.Omega.{arith}
use lib.ListN.{length, get_or, drop, drop_of_length-le}
use lib.Seq.{drop-cons}
use lib.Dec.{ltb, leb-zero, leb-suc-suc}
use borrow.Author.Tests.{ltb-true, ltb-false}
use Rattle.std.specs.Prelude.{if◌then◌else◌, position, Some, None}
use Rattle.std.proofs.lemmas.List.Recursion.{is_position_or_len}
use Rattle.rules.specs.Signals.{some_below}
use Rattle.rules.proofs.Signals.{none_below, not_at}
use Rattle.trace.specs.Samples.{first_where, somewhere, Smallest}

module _ {X : Type 0} (test : X → Bool) where
  -- the next sample is marked, or it is not
  pub found : (xs : List X) (i : ℕ) (d : X) → i < length xs → test (get_or xs i d) ≡ true → first_where test (drop i xs) ≡ 0
  unfolding first_where
  found xs i d h e = rw (drop-cons xs i d h) (simp e)

  pub missed : (xs : List X) (i : ℕ) (d : X) → i < length xs → test (get_or xs i d) ≡ false → first_where test (drop i xs) ≡ suc (first_where test (drop (i + 1) xs))
  unfolding first_where
  missed xs i d h e = rw (drop-cons xs i d h, add-one) (simp e)

  pub no_more : (xs : List X) (i : ℕ) → length xs ≤ i → first_where test (drop i xs) ≡ 0
  unfolding first_where
  no_more xs i h = rw (drop_of_length-le xs h)

  -- some sample is marked: the next one, or one of those after it
  one_of : (b : Bool) (m k : ℕ) → ltb (if b then 0 else suc m) (suc k) ≡ b || ltb m k
  one_of true m k = leb-suc-suc 0 k ∙ leb-zero k
  one_of false m k = leb-suc-suc (suc m) k

  pub somewhere_next : (xs : List X) (i : ℕ) (d : X) → i < length xs → somewhere test (drop i xs) ≡ test (get_or xs i d) || somewhere test (drop (i + 1) xs)
  unfolding first_where
  somewhere_next xs i d h = rw (drop-cons xs i d h, add-one) (one_of (test (get_or xs i d)) _ _)

  pub nowhere_more : (xs : List X) (i : ℕ) → length xs ≤ i → somewhere test (drop i xs) ≡ false
  unfolding first_where
  nowhere_more xs i h = rw (drop_of_length-le xs h)

  -- the number found is the smallest: its sample is marked, and none before it is
  marked : (xs : List X) (d : X) → somewhere test xs ≡ true → test (get_or xs (first_where test xs) d) ≡ true
  unfolding first_where
  marked [] d e = absurd (false≢true e)
  marked (x ∷ xs) d e = go (test x) refl (sym (one_of (test x) _ _) ∙ e) (marked xs d) where
    go :
        (b : Bool) → test x ≡ b → b || somewhere test xs ≡ true
        → (somewhere test xs ≡ true → test (get_or xs (first_where test xs) d) ≡ true)
        → test (get_or (x ∷ xs) (if b then 0 else suc (first_where test xs)) d) ≡ true
    go true q h later = q
    go false q h later = later h

  none_before : (xs : List X) (d : X) (k : ℕ) → k < first_where test xs → test (get_or xs k d) ≡ false
  unfolding first_where
  none_before [] d k h = absurd (omega arith)
  none_before (x ∷ xs) d k h = go (test x) refl k h (none_before xs d) where
    go :
        (b : Bool) → test x ≡ b → (k : ℕ) → k < (if b then 0 else suc (first_where test xs))
        → ((k : ℕ) → k < first_where test xs → test (get_or xs k d) ≡ false)
        → test (get_or (x ∷ xs) k d) ≡ false
    go true q k h later = absurd (omega arith)
    go false q zero h later = q
    go false q (suc k) h later = later k (omega arith)

  pub smallest : (xs : List X) → somewhere test xs ≡ true → Smallest test xs (first_where test xs)
  smallest xs e = record { there = ltb-true _ _ e; marked = λ d. marked xs d e; none_before = none_before xs }

  -- and where no sample is marked, none is
  pub nowhere : (xs : List X) (d : X) → somewhere test xs ≡ false → (i : ℕ) → i < length xs → test (get_or xs i d) ≡ false
  nowhere xs d e i h = none_before xs d i (omega (arith, ltb-false (first_where test xs) (length xs) e))

  pub nowhere_if : (xs : List X) (d : X) → ((i : ℕ) → i < length xs → test (get_or xs i d) ≡ false) → somewhere test xs ≡ false
  nowhere_if xs d h = go (somewhere test xs) refl where
    go : (b : Bool) → somewhere test xs ≡ b → b ≡ false
    go false e = refl
    go true e = absurd (false≢true (sym (h (first_where test xs) (ltb-true _ _ e)) ∙ marked xs d e))

  -- where none is marked, the number found is that of all samples
  at_most : (xs : List X) → first_where test xs ≤ length xs
  unfolding first_where
  at_most [] = omega arith
  at_most (x ∷ xs) = go (test x) (at_most xs) where
    go : (b : Bool) → first_where test xs ≤ length xs → (if b then 0 else suc (first_where test xs)) ≤ suc (length xs)
    go true h = omega arith
    go false h = omega arith

  pub all_passed : (xs : List X) → somewhere test xs ≡ false → length xs ≡ first_where test xs
  all_passed xs e = omega (arith, at_most xs, ltb-false (first_where test xs) (length xs) e)

  -- the library's search finds it
  by_test : (b : Bool) (k : ℕ) → (if b then 0 else suc k) ≡ cond b 0 (1 + k)
  by_test true k = refl
  by_test false k = omega arith

  pub position_is : (xs : List X) → position test xs ≡ (if somewhere test xs then Some (first_where test xs) else None)
  unfolding first_where
  position_is xs = rw (is_position_or_len (first_where test) test refl (λ x xs. by_test (test x) (first_where test xs)) xs)

-- samples of two columns: the first that either test marks is the smaller of the two numbers
pub either :
    {X Y : Type 0} (p : X → Bool) (q : Y → Bool) (xs : List X) (ys : List Y) → length xs ≡ length ys
    → first_where (λ (z : X × Y). p z.0 || q z.1) (zip xs ys) ≡ min (first_where p xs) (first_where q ys)
unfolding first_where zip zip_with
either p q [] [] e = refl
either p q [] (y ∷ ys) e = absurd (omega arith)
either p q (x ∷ xs) [] e = absurd (omega arith)
either p q (x ∷ xs) (y ∷ ys) e = go _ _ (p x) (q y) (either p q xs ys (omega arith)) where
  go :
      (k l : ℕ) {m : ℕ} (a b : Bool) → m ≡ min k l
      → (if a || b then 0 else suc m) ≡ min (if a then 0 else suc k) (if b then 0 else suc l)
  go k l true b h = omega arith
  go k l false true h = omega arith
  go k l false false h = omega arith

-- samples of n columns: where none is marked in any column, none is marked by the tests of all
pub nowhere_below :
    {X : Type 0} (test : ℕ → X → Bool) (n : ℕ) (xs : List X) (d : X) → some_below n (λ k. somewhere (test k) xs) ≡ false
    → somewhere (λ x. some_below n (λ k. test k x)) xs ≡ false
nowhere_below test n xs d e =
    nowhere_if (λ x. some_below n (λ k. test k x)) xs d
    (λ i l. none_below (λ k. test k (get_or xs i d)) n (λ k m. nowhere (test k) xs d (not_at (λ k. somewhere (test k) xs) n e k m) i l))
