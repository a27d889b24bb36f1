-- What a search over the numbers below n finds: whether some number has the property, and the first that has it.
use mathlib.Core.Path.{◌≡◌, refl, sym, ap, ◌∙◌}
use mathlib.Core.Bool.{Bool, true, false, ◌||◌, or-false}
use mathlib.Core.List.{List, [], ◌∷◌, ◌++◌}
use Prim.Native.Nat.{ℕ, zero, suc, ◌+◌}
use native.Mathlib.Nat.{zero-add}
use native.Mathlib.Omega.{arith}
use lib.Dec.{ltb, leb-zero, leb-suc-suc}
use Rattle.std.specs.Prelude.{Option, Some, None, if◌then◌else◌}
use denote.Param.Members.{Mut}
use Rattle.std.proofs.iter.Yields.{nat_range_steps}
use Rattle.std.proofs.lemmas.Iterator.{YieldsList-from_range}
use Rattle.std.proofs.lemmas.Iterator.Search.{any_from_yields_List}
use Rattle.std.specs.Fn.{Called}
use Rattle.std.specs.Iterator.{YieldsThen}
use Rattle.std.specs.List.{FoldsTo, list_any, find, range_with_len}
use Rattle.std.specs.declared.ops.Range.{Range}
use Rattle.std.specs.Option.{MatchOption, option_map}
use Rattle.std.proofs.lemmas.Iterator.Adapters.{option_map_id}
use Rattle.std.proofs.lemmas.List.Folds.{list_any-append}
use Rattle.rules.specs.Signals.{as_list, some_below}
use Rattle.trace.specs.Samples.{first_where, somewhere}

-- one number more
range_more : (a n : ℕ) → range_with_len a (suc n) ≡ range_with_len a n ++ (a + n) ∷ []
range_more a zero = let e : a + 0 ≡ a = omega arith in rw e
range_more a (suc n) = let e : a + suc n ≡ a + 1 + n = omega arith in rw e (ap (λ xs. a ∷ xs) (range_more (a + 1) n))

any_below : (f : ℕ → Bool) (n : ℕ) → list_any f (range_with_len 0 n) ≡ some_below n f
unfolding some_below
any_below f zero = refl
any_below f (suc n) =
    ap (list_any f) (range_more 0 n) ∙ list_any-append f (range_with_len 0 n) ((0 + n) ∷ []) ∙ rw (any_below f n, zero-add, or-false)

module _ {F : Type 0} {g : Mut F (ℕ × Unit {0}) Bool} {f : F} {s u : Range ℕ} {r : Bool} (test : ℕ → Bool) (n : ℕ) where
  -- so it is what `any` answers of the numbers below n, where the closure is the test
  pub asked_below :
      s ≡ record { start = 0; end = n }
      → (xs : List ℕ) × (o : Option ℕ) × (j : F)
      × YieldsThen nat_range_steps s xs o u × FoldsTo (λ p x q. Called g p (x, tt) false q) f xs j
      × MatchOption o (r ≡ false) (λ x. (r ≡ true) × ((h : F) × Called g j (x, tt) true h))
      → ((x : ℕ) (b : Bool) (q : F) → Called g f (x, tt) b q → (q ≡ f) × (b ≡ test x))
      → r ≡ some_below n test
  asked_below e ran called =
      any_from_yields_List test _ _ _ ran (YieldsList-from_range 0 n n e (omega arith)) called ∙ any_below test n

-- and the first that has it
list_of : (n : ℕ) → as_list n (λ i. i) ≡ range_with_len 0 n
unfolding as_list
list_of zero = refl
list_of (suc n) = sym (range_more 0 n ∙ rw (list_of n, zero-add))

first_from : (test : ℕ → Bool) (a n : ℕ) → find test (range_with_len a n) ≡ (if somewhere test (range_with_len a n) then Some (a + first_where test (range_with_len a n)) else None)
unfolding first_where
first_from test a zero = refl
first_from test a (suc n) = go (test a) _ _ (first_from test (a + 1) n) where
  go :
      (b : Bool) (m l : ℕ) {r : Option ℕ} → r ≡ (if ltb m l then Some (a + 1 + m) else None)
      → (if b then Some a else r) ≡ (if ltb (if b then 0 else suc m) (suc l) then Some (a + (if b then 0 else suc m)) else None)
  go true m l e = let here : a + 0 ≡ a = omega arith in rw (leb-suc-suc 0 l, leb-zero l, here)
  go false m l e = let more : a + suc m ≡ a + 1 + m = omega arith in rw (leb-suc-suc (suc m) l, more) e

pub first_below :
    (test : ℕ → Bool) (n : ℕ) (r : Option ℕ) → option_map (λ i. i) r ≡ find test (range_with_len 0 n)
    → r ≡ (if somewhere test (as_list n (λ i. i)) then Some (first_where test (as_list n (λ i. i))) else None)
first_below test n r e = sym (option_map_id r) ∙ e ∙ first_from test 0 n ∙ rw (list_of n, zero-add)

-- some number has it where the first that has it is there
any_is_somewhere : (test : ℕ → Bool) (xs : List ℕ) → list_any test xs ≡ somewhere test xs
unfolding first_where
any_is_somewhere test [] = refl
any_is_somewhere test (x ∷ xs) = go (test x) _ _ (any_is_somewhere test xs) where
  go : (b : Bool) (m l : ℕ) {r : Bool} → r ≡ ltb m l → b || r ≡ ltb (if b then 0 else suc m) (suc l)
  go true m l e = rw (leb-suc-suc 0 l, leb-zero l)
  go false m l e = rw (leb-suc-suc (suc m) l) e

pub any_of_numbers : (test : ℕ → Bool) (n : ℕ) → list_any test (range_with_len 0 n) ≡ somewhere test (as_list n (λ i. i))
any_of_numbers test n = rw (list_of n) (any_is_somewhere test (range_with_len 0 n))
