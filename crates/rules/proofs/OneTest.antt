-- A step tested at once: the one test is true exactly when no row of its table is, and where it is false the table's number is the
-- one that it has with its last row, the state's, taken as true.
use Prim.Native.Nat.{ℕ, ◌-◌}
use mathlib.Core.Path.{◌≡◌, refl, sym, ◌∙◌}
use mathlib.Core.Logic.{dite}
use mathlib.Core.List.{List, [], ◌∷◌}
use mathlib.Core.Bool.{Bool, true, false, not, ◌&&◌, ◌||◌, or-true}
use native.Mathlib.Decide.{dec_lt}
use native.Mathlib.Omega.{arith}
use lib.Bits.{bit_or}
use lib.Dec.{ltb, leb, eqb}
use borrow.Author.Tests.{ltb-true, ltb-false, leb-true, leb-false, lt-ltb, le-ltb, eq-eqb, ne_eqb}
use Rattle.std.specs.Prelude.{if◌then◌else◌}
use Rattle.rules.specs.Limits.{bad_count, bad_width, outside}
use Rattle.rules.specs.declared.refusal.Refusal.{Refusal}
use Rattle.rules.specs.Refusal.{number, refusal_of}
use Rattle.rules.specs.Table.{Row, ◌when◌, first, answer, or_else}
use Rattle.rules.specs.Refusals.{step_rows, counted, admits}
use Rattle.rules.proofs.Width.{outside_or}

-- a step's rows, by their tests
abbrev four_rows : Bool → Bool → Bool → Bool → List Row
four_rows m w o d = 1 when m ∷ 2 when w ∷ 6 when o ∷ 7 when d ∷ []

-- a count below N, where N is 1,000 at the most, is what the first row and the state's leave
pub count_below : (need count : ℕ) → ltb count need && leb need 1000 ≡ counted need count
count_below need count = go (ltb count need) (leb need 1000) refl refl where
  go : (p q : Bool) → ltb count need ≡ p → leb need 1000 ≡ q → p && q ≡ not (bad_count need || ltb (need - 1) count)
  go true true e f =
      let low = ltb-true count need e in
      let high = leb-true need 1000 f in
      rw (ne_eqb need 0 (λ z. omega arith), le-ltb 1000 need high, le-ltb (need - 1) count (omega arith))
  go true false e f = let high = leb-false need 1000 f in rw (ne_eqb need 0 (λ z. omega arith), lt-ltb 1000 need high)
  go false q e f =
      dite (dec_lt 0 need)
      (λ z. rw (lt-ltb (need - 1) count (omega (arith, ltb-false count need e)), or-true))
      (λ z. rw (eq-eqb need 0 (omega arith)))

-- the one test, where the width is bad, and where it is not: `q` is that the words are inside
pub no_width : (k o : Bool) → false ≡ k && not (true || o)
no_width true o = refl
no_width false o = refl

pub with_width : (k q : Bool) → k && q ≡ k && not (false || not q)
with_width true true = refl
with_width true false = refl
with_width false q = refl

-- a voter with two counts: what row 1 and row 7 ask of each, `m` and `l`, is asked of both
pub both_counted : (m l m' l' : Bool) → not (m || l) && not (m' || l') ≡ not ((m || m') || (l || l'))
both_counted true l m' l' = refl
both_counted false true true l' = refl
both_counted false true false l' = refl
both_counted false false m' l' = refl

-- the one test, and the tests of the table: `o` of the sample's words, `s` of the state's, `l` of its counts
whole : (m w o s l : Bool) → not (m || l) && not (w || (o || s)) ≡ eqb (first (four_rows m w o (l || s))) 0
unfolding first
whole true w o s l = refl
whole false true o s true = refl
whole false true o s false = refl
whole false false true s true = refl
whole false false true s false = refl
whole false false false s true = refl
whole false false false true false = refl
whole false false false false false = refl

-- one more reason for row 7: in the table, and in the one test
more : (m w o d p : Bool) → or_else (first (four_rows m w o d)) 7 p ≡ first (four_rows m w o (d || p))
unfolding first
more true w o d p = refl
more false true o d p = refl
more false false true d p = refl
more false false false true p = refl
more false false false false true = refl
more false false false false false = refl

-- a number stays where there is one, and one more reason gives none where it is false
more_tests : (r : ℕ) (p : Bool) → eqb (or_else r 7 p) 0 ≡ eqb r 0 && not p
more_tests r p = go (eqb r 0) p refl where
  go : (z p : Bool) → eqb r 0 ≡ z → eqb (if z then (if p then 7 else 0) else r) 0 ≡ z && not p
  go true true e = refl
  go true false e = refl
  go false p e = e

module _ (m : Bool) (n : ℕ) (o d : Bool) where
  pub one_reason_more : (p : Bool) → or_else (first (step_rows m n o d)) 7 p ≡ first (step_rows m n o (d || p))
  one_reason_more = more m (bad_width n) o d

  pub one_test_more : (p : Bool) → eqb (first (step_rows m n o d)) 0 && not p ≡ eqb (first (step_rows m n o (d || p))) 0
  one_test_more p = sym (more_tests (first (step_rows m n o d)) p) ∙ rw (one_reason_more p)

  -- the number of a step that is not taken
  pub refused_number : eqb (first (step_rows m n o d)) 0 ≡ false → first (step_rows m n o d) ≡ first (step_rows m n o true)
  refused_number e = rw (e, or-true) at (one_reason_more true)

-- and it is a refusal's own
own_of : (m w o : Bool) → number (refusal_of (first (four_rows m w o true))) ≡ first (four_rows m w o true)
unfolding first refusal_of
own_of true w o = refl
own_of false true o = refl
own_of false false true = refl
own_of false false false = refl

pub step_own : (m : Bool) (n : ℕ) (o : Bool) → number (refusal_of (first (step_rows m n o true))) ≡ first (step_rows m n o true)
step_own m n o = own_of m (bad_width n) o

-- so code that has the sample's words in one, and takes the last row as true, refuses as the table does
pub not_taken_lem :
    (m : Bool) (n sample : ℕ) {o : Bool} (d : Bool) → outside n sample ≡ o → {A : Type 0} (refuse : Refusal → A) (work : A)
    → eqb (first (step_rows m n o d)) 0 ≡ false → refuse (refusal_of (first (step_rows m n (outside n sample) true))) ≡ answer (first (step_rows m n o d)) refuse work
not_taken_lem m n sample {o} d outlying refuse work e = rw (outlying, e, refused_number m n o d e)

-- `m` is row 1's test and `l` what row 7 asks of the counts, the sample's words are in one and the state's in another; `o` and `d`
-- are what the table asks of them
module _
    (m l : Bool) (n sample stored : ℕ) {counts o d : Bool}
    (counting : counts ≡ not (m || l)) (outlying : outside n sample ≡ o) (spoilt : l || outside n stored ≡ d)
  where
    abbrev rows : List Row
    rows = step_rows m n o d

    pub admits_exactly : admits counts n (bit_or sample stored) ≡ eqb (first rows) 0
    admits_exactly =
        rw (counting, ← outlying, ← spoilt, outside_or n sample stored) (whole m (bad_width n) (outside n sample) (outside n stored) l)

    -- the two ways to answer, as code finds them by the one test
    pub by_one_test :
        {A : Type 0} (refuse : Refusal → A) (work : A)
        → (admits counts n (bit_or sample stored) ≡ true → work ≡ answer (first rows) refuse work)
        × (admits counts n (bit_or sample stored) ≡ false → refuse (refusal_of (first (step_rows m n (outside n sample) true))) ≡ answer (first rows) refuse work)
    by_one_test refuse work = (λ e. rw (← admits_exactly, e), λ e. not_taken_lem m n sample d outlying refuse work (sym admits_exactly ∙ e))
