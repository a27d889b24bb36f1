-- Runs over one column, over two and over four: a run over columns answers each by its table.
use mathlib.Core.Path.{◌≡◌, refl, ap, ◌∙◌}
use mathlib.Core.Logic.{◌↔◌}
use mathlib.Core.List.{List, [], ◌∷◌, zip}
use mathlib.Core.Bool.{Bool, true, false, ◌||◌, or-false}
use Prim.Native.Nat.{ℕ, ◌≤◌, min}
use native.Mathlib.Omega.{arith}
use lib.ListN.{length}
use lib.Dec.{ltb}
use borrow.Author.Tests.{ltb-true, ltb-false, lt-ltb, le-ltb, eq-eqb}
use Rattle.rules.specs.Limits.{too_long, differ, outside}
use Rattle.rules.proofs.Ranges.{same}
use Rattle.rules.proofs.Readings.{run_0}
use Rattle.rules.proofs.Tables.{or_each, or_neither}
use Rattle.std.specs.Borrow.{Bor}
use Rattle.std.specs.List.{fold, filter_map, reduce, cons_option}
use Rattle.std.specs.Prelude.{if◌then◌else◌, position, Option, Some, None}
use Rattle.trace.specs.Samples.{first_where, somewhere, outside_pair, outside_four}
use Rattle.trace.specs.Answers.{long_pair, long_four, apart_pair, apart_four, run_answer, pair_answer, four_answer}
use Rattle.trace.specs.Columns.{some_long, some_apart, earliest, columns_answer}
use Rattle.trace.proofs.Columns.{zip_length}
use Rattle.trace.proofs.Runs.{early, early_or_sampled, Fits32, few_found}
use Rattle.trace.proofs.Samples.{all_passed, either, position_is}

-- where neither column has a marked sample, the two together have none
pub neither :
    {X Y : Type 0} (p : X → Bool) (q : Y → Bool) (xs : List X) (ys : List Y) → length xs ≡ length ys
    → somewhere p xs ≡ false → somewhere q ys ≡ false → somewhere (λ (z : X × Y). p z.0 || q z.1) (zip xs ys) ≡ false
neither p q xs ys e f g =
    let passed : length xs ≤ min (first_where p xs) (first_where q ys) = omega (arith, all_passed p xs f, all_passed q ys g) in
    rw (either p q xs ys e, zip_length xs ys e) (le-ltb _ _ passed)

-- the smaller of two numbers, of which either may be missing
abbrev earlier : Option ℕ → Option ℕ → Option ℕ
earlier None j = j
earlier (Some i) None = Some i
earlier (Some i) (Some j) = Some (min i j)

-- the smaller of the numbers found in two columns is the one found in both together
smaller :
    (k m l : ℕ) → earlier (if ltb k l then Some k else None) (if ltb m l then Some m else None)
    ≡ (if ltb (min k m) l then Some (min k m) else None)
smaller k m l = go (ltb k l) (ltb m l) refl refl where
  go :
      (p q : Bool) → ltb k l ≡ p → ltb m l ≡ q
      → earlier (if p then Some k else None) (if q then Some m else None) ≡ (if ltb (min k m) l then Some (min k m) else None)
  go true true e f = rw (lt-ltb (min k m) l (omega (arith, ltb-true k l e)))
  go true false e f =
      let same : min k m ≡ k = omega (arith, ltb-true k l e, ltb-false m l f) in
      rw (same, e)
  go false true e f =
      let same : min k m ≡ m = omega (arith, ltb-false k l e, ltb-true m l f) in
      rw (same, f)
  go false false e f = rw (le-ltb (min k m) l (omega (arith, ltb-false k l e, ltb-false m l f)))

pub earlier_found :
    {X Y : Type 0} (p : X → Bool) (q : Y → Bool) (xs : List X) (ys : List Y) → length xs ≡ length ys
    → earlier (position p xs) (position q ys) ≡ position (λ (z : X × Y). p z.0 || q z.1) (zip xs ys)
earlier_found p q xs ys e =
    rw (position_is p xs, position_is q ys, position_is (λ z. p z.0 || q z.1) (zip xs ys), either p q xs ys e, zip_length xs ys e, ← e)
    (smaller (first_where p xs) (first_where q ys) (length xs))

-- numbers 3 and 4 of two columns, and of four: no column is too long, and each, with every output slice, is as long as the first
pub short_pair : (a b : List ℕ) → (long_pair a b ≡ false) ↔ ((length a ≤ 2048) × (length b ≤ 2048))
short_pair a b = (or_each (ltb-false 2048 _) (ltb-false 2048 _), λ h. rw (le-ltb 2048 (length a) h.0, le-ltb 2048 (length b) h.1))

pub short_four : (a b c d : List ℕ) → (long_four a b c d ≡ false) ↔ (((length a ≤ 2048) × (length b ≤ 2048)) × ((length c ≤ 2048) × (length d ≤ 2048)))
short_four a b c d = (
  λ e. let p = or_each (or_each (short_pair a b).0 (ltb-false 2048 (length c))) (ltb-false 2048 (length d)) e in (p.0.0, (p.0.1, p.1)),
  λ h. rw ((short_pair a b).1 h.0, le-ltb 2048 (length c) h.1.0, le-ltb 2048 (length d) h.1.1),
)

pub alike_pair : (a b : List ℕ) (unequal : Bool) → (apart_pair a b unequal ≡ false) ↔ ((length a ≡ length b) × (unequal ≡ false))
alike_pair a b unequal = (or_each (same _ _) (λ e. e), λ h. rw (eq-eqb (length a) (length b) h.0) h.1)

pub alike_four :
    (a b c d : List ℕ) (unequal : Bool)
    → (apart_four a b c d unequal ≡ false) ↔ (((length a ≡ length b) × (length a ≡ length c) × (length a ≡ length d)) × (unequal ≡ false))
alike_four a b c d unequal = (
  λ e. let p = or_each (or_each (or_each (same _ _) (same _ _)) (same _ _)) (λ u. u) e in ((p.0.0.0, p.0.0.1, p.0.1), p.1),
  λ h. rw (eq-eqb (length a) (length b) h.0.0, eq-eqb (length a) (length c) h.0.1, eq-eqb (length a) (length d) h.0.2) h.1,
)

-- one of three, and of four
or_three : (p q r : Bool) → p || (q || (r || false)) ≡ p || q || r
or_three true q r = refl
or_three false q r = ap (λ b. q || b) (or-false r)

or_four : (p q r s : Bool) → p || (q || (r || (s || false))) ≡ p || q || r || s
or_four true q r s = refl
or_four false q r s = or_three q r s

-- the earlier of three numbers, whichever two are compared first
earlier_assoc : (i j k : Option ℕ) → earlier (earlier i j) k ≡ earlier i (earlier j k)
earlier_assoc None j k = refl
earlier_assoc (Some i) None k = refl
earlier_assoc (Some i) (Some j) None = refl
earlier_assoc (Some i) (Some j) (Some k) =
    let same : min (min i j) k ≡ min i (min j k) = omega arith in
    rw same

-- the smallest number that is there, taken one by one
module _ {X : Type 0} (h : X → Option ℕ) where
  abbrev by_one : Option ℕ → List X → Option ℕ
  by_one found xs = fold (λ i x. earlier i (h x)) found xs

  from_some : (i : ℕ) (xs : List X) → Some (fold min i (filter_map h xs)) ≡ by_one (Some i) xs
  from_some i [] = refl
  from_some i (x ∷ xs) = go (h x) (λ j. from_some j xs) where
    go : (o : Option ℕ) → ((j : ℕ) → Some (fold min j (filter_map h xs)) ≡ by_one (Some j) xs) → Some (fold min i (cons_option o (filter_map h xs))) ≡ by_one (earlier (Some i) o) xs
    go None later = later i
    go (Some j) later = later (min i j)

  one_by_one : (xs : List X) → reduce min (filter_map h xs) ≡ by_one None xs
  one_by_one [] = refl
  one_by_one (x ∷ xs) = go (h x) (one_by_one xs) where
    go : (o : Option ℕ) → reduce min (filter_map h xs) ≡ by_one None xs → reduce min (cons_option o (filter_map h xs)) ≡ by_one o xs
    go None later = later
    go (Some j) later = from_some j xs

-- numbers found in short columns fit
earlier_fits : (i j : Option ℕ) → Fits32 i → Fits32 j → Fits32 (earlier i j)
earlier_fits None j f g = g
earlier_fits (Some i) None f g = f
earlier_fits (Some i) (Some j) f g = omega (arith, f, g)

all_fit :
    (n : ℕ) (columns : List (Bor (List ℕ))) (found : Option ℕ) → Fits32 found → some_long columns ≡ false
    → Fits32 (by_one (λ c. position (outside n) c.now) found columns)
all_fit n [] found f short = f
all_fit n (c ∷ columns) found f short =
    let p = or_neither (too_long (length c.now)) _ short in
    let few = few_found (outside n) c.now (ltb-false 2048 (length c.now) p.0) in
    all_fit n columns _ (earlier_fits found (position (outside n) c.now) f few) p.1

module _ (miscounted : Bool) (n word : ℕ) where
  pub columns_fit :
      (columns : List (Bor (List ℕ))) (unequal : Bool)
      → early miscounted n word (some_long columns) (some_apart columns || unequal) ≡ 0
      → Fits32 (earliest n columns)
  columns_fit columns unequal none =
      let fine = (run_0 miscounted n word _ (some_apart columns || unequal) false).0 none in
      rw (one_by_one (λ c. position (outside n) c.now) columns) (all_fit n columns None tt fine.short)

  -- the answer over one column, over two and over four
  pub one_column :
      (a : Bor (List ℕ)) (unequal : Bool)
      → columns_answer miscounted n word (a ∷ []) unequal ≡ run_answer outside miscounted n word (too_long (length a.now)) unequal a.now
  one_column a unequal =
      rw (or-false (too_long (length a.now)))
      (early_or_sampled miscounted n word _ unequal outside a.now _ (λ none. one_by_one (λ c. position (outside n) c.now) (a ∷ [])))

  module _ (a b : Bor (List ℕ)) (unequal : Bool) where
    pair_found :
        early miscounted n word (long_pair a.now b.now) (apart_pair a.now b.now unequal) ≡ 0
        → earliest n (a ∷ b ∷ []) ≡ position (outside_pair n) (zip a.now b.now)
    pair_found none =
        let fine = (run_0 miscounted n word (long_pair a.now b.now) _ false).0 none in
        one_by_one (λ c. position (outside n) c.now) (a ∷ b ∷ [])
        ∙ earlier_found (outside n) (outside n) a.now b.now ((alike_pair a.now b.now unequal).0 fine.alike).0

    pub two_columns : columns_answer miscounted n word (a ∷ b ∷ []) unequal ≡ pair_answer miscounted n word a.now b.now unequal
    two_columns =
        rw (or-false (too_long (length b.now)), or-false (differ (length a.now) (length b.now)))
        (early_or_sampled miscounted n word _ _ outside_pair (zip a.now b.now) _ pair_found)

  module _ (a b c d : Bor (List ℕ)) (unequal : Bool) where
    four_found :
        early miscounted n word (long_four a.now b.now c.now d.now) (apart_four a.now b.now c.now d.now unequal) ≡ 0
        → earliest n (a ∷ b ∷ c ∷ d ∷ []) ≡ position (outside_four n) (zip (zip a.now b.now) (zip c.now d.now))
    four_found none =
        let fine = (run_0 miscounted n word (long_four a.now b.now c.now d.now) _ false).0 none in
        let alike = ((alike_four a.now b.now c.now d.now unequal).0 fine.alike).0 in
        let cd : length c.now ≡ length d.now = omega (arith, alike) in
        let pairs : length (zip a.now b.now) ≡ length (zip c.now d.now) =
        omega (arith, alike, zip_length a.now b.now alike.0, zip_length c.now d.now cd) in
        one_by_one (λ e. position (outside n) e.now) (a ∷ b ∷ c ∷ d ∷ [])
        ∙ earlier_assoc _ (position (outside n) c.now) (position (outside n) d.now)
        ∙ rw (earlier_found (outside n) (outside n) a.now b.now alike.0, earlier_found (outside n) (outside n) c.now d.now cd)
        (earlier_found (outside_pair n) (outside_pair n) (zip a.now b.now) (zip c.now d.now) pairs)

    pub four_columns : columns_answer miscounted n word (a ∷ b ∷ c ∷ d ∷ []) unequal ≡ four_answer miscounted n word a.now b.now c.now d.now unequal
    four_columns =
        rw (or_four, or_three)
        (early_or_sampled miscounted n word _ _ outside_four (zip (zip a.now b.now) (zip c.now d.now)) _ four_found)
