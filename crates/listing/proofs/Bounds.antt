-- How long a text is: line by line, a whole listing, and that none is longer than the longest, which some listing is.
use mathlib.Core.Path.{◌≡◌, refl, ◌∙◌}
use mathlib.Core.Bool.{Bool, true, false}
use mathlib.Core.List.{List}
use Prim.Native.Nat.{ℕ, zero, suc, ◌+◌, ◌-◌, ◌*◌, ◌≤◌, ◌<◌}
use native.Mathlib.Omega.{arith}
use lib.Dec.{ltb, lit≤}
use lib.ListN.{length, get_or, length-append}
use borrow.Author.Tests.{ltb-true, ltb-false}
use Rattle.text.specs.Text.{bytes, places_up_to, places}
use Rattle.text.proofs.Digits.{decimal_length, places_most, places_few, line_length}
use Rattle.listing.specs.declared.Kind.{Kind}
use Rattle.listing.specs.declared.Kind.TheVariants.{Confirm, Pair, Reserve}
use Rattle.listing.specs.Listing.{name, heading, letter, joined, line_at, listing_of, refused_text, longest}

-- the lines of the samples below k
unfoldable pub lines_length : ℕ → ℕ
lines_length zero = 0
lines_length (suc k) = lines_length k + (places k + 21)

module _ (kind : Kind) (words marks lasts : List ℕ) where
  lines_length_lem : (k : ℕ) → length (joined k (line_at kind words marks lasts)) ≡ lines_length k
  unfolding joined lines_length
  lines_length_lem zero = refl
  lines_length_lem (suc k) =
      length-append (joined k (line_at kind words marks lasts)) (line_at kind words marks lasts k)
      ∙ rw (lines_length_lem k, line_length k (get_or words k 0) (letter kind (get_or marks k 0)) (get_or lasts k 0))

  pub listing_length :
      (n need : ℕ)
      → length (listing_of kind n need words marks lasts)
      ≡ (length (bytes (name kind)) + places (length words) + places n + places need + 4) + lines_length (length words)
  unfolding listing_of heading bytes
  listing_length n need =
      simp (length-append, decimal_length, lines_length_lem (length words)) (omega arith)

-- a number below ten, a hundred, a thousand has so many places; each further line is so much longer
places_by : (k : ℕ) → k < 10000 → (p q r : Bool) → ltb k 10 ≡ p → ltb k 100 ≡ q → ltb k 1000 ≡ r
    → places k + (k - 10) + (k - 100) + (k - 1000) ≤ 1 + (suc k - 10) + (suc k - 100) + (suc k - 1000)
places_by k l true q r e f g = omega (arith, places_few 0 k (ltb-true k 10 e))
places_by k l false true r e f g = omega (arith, places_few 1 k (ltb-true k 100 f), ltb-false k 10 e)
places_by k l false false true e f g = omega (arith, places_few 2 k (ltb-true k 1000 g), ltb-false k 10 e, ltb-false k 100 f)
places_by k l false false false e f g = omega (arith, places_few 3 k l, ltb-false k 10 e, ltb-false k 100 f, ltb-false k 1000 g)

lines_most : (k : ℕ) → k ≤ 10000 → lines_length k ≤ 22 * k + (k - 10) + (k - 100) + (k - 1000)
unfolding lines_length
lines_most zero l = omega arith
lines_most (suc k) l = omega (arith, lines_most k (omega arith), places_by k (omega arith) (ltb k 10) (ltb k 100) (ltb k 1000) refl refl refl)

name_most : (kind : Kind) → length (bytes (name kind)) ≤ 7
unfolding bytes
name_most Confirm = lit≤ tt
name_most Pair = lit≤ tt
name_most Reserve = lit≤ tt

pub listing_most :
    (kind : Kind) (n need : ℕ) (words marks lasts : List ℕ) → length words ≤ 2048 → n ≤ 32 → need ≤ 1000
    → length (listing_of kind n need words marks lasts) ≤ longest
listing_most kind n need words marks lasts a b c =
    omega (
      arith,
      listing_length kind words marks lasts n need,
      name_most kind,
      places_few 3 (length words) (omega arith),
      places_few 1 n (omega arith),
      places_few 3 need (omega arith),
      lines_most (length words) (omega arith),
    )

pub refused_most : (number sample : ℕ) → length (refused_text number sample) ≤ longest
unfolding refused_text bytes
refused_most number sample = simp (length-append, decimal_length) (omega (arith, places_most number, places_most sample))

-- and some listing is as long
pub longest_reached : (words marks lasts : List ℕ) → length words ≡ 2048 → length (listing_of Confirm 32 1000 words marks lasts) ≡ longest
unfolding lines_length places_up_to bytes
longest_reached words marks lasts e = listing_length Confirm words marks lasts 32 1000 ∙ rw e
