-- What the reader leaves of an accepted recording is fit for a run: each unit that is present has its column on the first places of
-- its slice, a word for each sample, all inside the width.
use mathlib.Core.Path.{◌≡◌}
use mathlib.Core.Bool.{false}
use mathlib.Core.List.{List}
use mathlib.Core.Logic.{◌⊎◌, ⊎_elim}
use Prim.Native.Nat.{ℕ, ◌+◌, ◌≤◌, ◌<◌}
use native.Mathlib.Omega.{arith}
use lib.ListN.{length, take, drop}
use lib.Seq.{take_at}
use borrow.Author.Tests.{le-ltb, eq-eqb, ne_eqb}
use Rattle.rules.specs.Limits.{outside}
use Rattle.rules.proofs.Signals.{list_length, list_at, not_at}
use Rattle.trace.proofs.Samples.{nowhere, nowhere_if}
use Rattle.recording.specs.declared.Header.{Header}
use Rattle.recording.specs.Recording.{header_of, sample_at, outside_at, numbers, slice_after}
use Rattle.recording.proofs.Shapes.{one_two_four}
use Rattle.recording.proofs.Taken.{Accepted}
use Rattle.listing.specs.Listing.{units_text, unit}
use Rattle.listing.specs.Runnable.{Column, Runnable, Units}

-- the first places of a slice hold its column
take_filled : (s : List ℕ) (h : Header) (k : ℕ) (lent : List ℕ) → k ≤ h.units → take h.samples (slice_after s h k lent) ≡ unit s h k
take_filled s h k lent l =
    rw (le-ltb h.units k l) (take_at (unit s h k) (drop h.samples lent) h.samples (list_length (sample_at s h.samples k) h.samples))

module _ (s : List ℕ) (ok : Accepted false s) where
  abbrev h : Header
  h = header_of s

  pub runnable : Runnable h
  runnable =
      let p = ok.shape in
      record { few = p.laid.few; counted = p.counted; wide = p.wide; word_in = p.word_in }

  sample_in : (k i : ℕ) → k < h.units → i < h.samples → outside h.n (sample_at s h.samples (k + 1) i) ≡ false
  sample_in k i u l =
      let there : i < length (numbers h) = rw (list_length (λ j. j) h.samples) l in
      let none = nowhere (outside_at s h) (numbers h) 0 ok.samples_in i there in
      not_at (λ j. outside h.n (sample_at s h.samples (j + 1) i)) h.units (rw (list_at (λ j. j) h.samples i l) at none) k u

  pub column : (k : ℕ) → k < h.units → Column h (unit s h (k + 1))
  column k u =
      let long = list_length (sample_at s h.samples (k + 1)) h.samples in
      record {
        whole = long;
        inside = nowhere_if (outside h.n) (unit s h (k + 1)) 0 (λ i l. let m : i < h.samples = rw long at l in rw (list_at (sample_at s h.samples (k + 1)) h.samples i m) (sample_in k i u m));
      }

  module _ (one two three four : List ℕ) where
    abbrev cut : ℕ → List ℕ → List ℕ
    cut k lent = take h.samples (slice_after s h k lent)

    filled_column : (k : ℕ) (lent : List ℕ) → k < h.units → Column h (cut (k + 1) lent)
    filled_column k lent u = rw (take_filled s h (k + 1) lent (omega arith)) (column k u)

    known : (h.units ≡ 1) ⊎ ((h.units ≡ 2) ⊎ (h.units ≡ 4))
    known = one_two_four h.units ok.shape.head.units_known

    some : 1 ≤ h.units
    some = ⊎_elim (λ e. omega arith) (⊎_elim (λ e. omega arith) (λ e. omega arith)) known

    pub fit : Units h (cut 1 one) (cut 2 two) (cut 3 three) (cut 4 four)
    fit =
        record {
          known = known;
          first = filled_column 0 one (omega (arith, some));
          second = λ l. filled_column 1 two (omega arith);
          third = λ l. filled_column 2 three (omega arith);
          fourth = λ l. filled_column 3 four (omega arith);
        }

    -- the text is that of the units' own columns; of an absent unit nothing is listed
    pub same_text : units_text h (cut 1 one) (cut 2 two) (cut 3 three) (cut 4 four) ≡ units_text h (unit s h 1) (unit s h 2) (unit s h 3) (unit s h 4)
    same_text = ⊎_elim by_one (⊎_elim by_two by_four) known where
      by_one : h.units ≡ 1 → units_text h (cut 1 one) (cut 2 two) (cut 3 three) (cut 4 four) ≡ units_text h (unit s h 1) (unit s h 2) (unit s h 3) (unit s h 4)
      by_one e = rw (eq-eqb h.units 1 e, take_filled s h 1 one (omega arith))

      by_two : h.units ≡ 2 → units_text h (cut 1 one) (cut 2 two) (cut 3 three) (cut 4 four) ≡ units_text h (unit s h 1) (unit s h 2) (unit s h 3) (unit s h 4)
      by_two e = rw (ne_eqb h.units 1 (λ q. omega arith), eq-eqb h.units 2 e, take_filled s h 1 one (omega arith), take_filled s h 2 two (omega arith))

      by_four : h.units ≡ 4 → units_text h (cut 1 one) (cut 2 two) (cut 3 three) (cut 4 four) ≡ units_text h (unit s h 1) (unit s h 2) (unit s h 3) (unit s h 4)
      by_four e =
          rw (
            ne_eqb h.units 1 (λ q. omega arith),
            ne_eqb h.units 2 (λ q. omega arith),
            take_filled s h 1 one (omega arith),
            take_filled s h 2 two (omega arith),
            take_filled s h 3 three (omega arith),
            take_filled s h 4 four (omega arith),
          )
