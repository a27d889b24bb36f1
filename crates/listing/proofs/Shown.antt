-- What holds of every listing of as many words as a recording has samples holds of the text of its units, however many they are.
use mathlib.Core.Path.{◌≡◌, sym, ◌∙◌}
use mathlib.Core.Bool.{Bool, true, false}
use mathlib.Core.List.{List, map, zip}
use Prim.Native.Nat.{ℕ}
use lib.Dec.{eqb}
use lib.ListN.{length, length-map}
use Rattle.std.specs.Prelude.{if◌then◌else◌}
use Rattle.trace.proofs.Steps.{trace_length}
use Rattle.trace.proofs.Columns.{zip_length, four_length}
use Rattle.confirm.specs.Confirm as confirm
use Rattle.confirm.specs.Run as confirm_run
use Rattle.tuple.specs.Run as tuple_run
use Rattle.reserve.specs.Reserve as reserve
use Rattle.reserve.specs.Run as reserve_run
use Rattle.recording.specs.declared.Header.{Header}
use Rattle.listing.specs.declared.Kind.{Kind}
use Rattle.listing.specs.declared.Kind.TheVariants.{Confirm, Pair, Reserve}
use Rattle.listing.specs.Listing.{listing_of, confirm_text, pair_steps, pair_text, reserve_text, units_text}

-- as many samples of two units, or of four, as there are in each
pub two_long : {k : ℕ} (one two : List ℕ) → length one ≡ k → length two ≡ k → length (zip one two) ≡ k
two_long one two a b = zip_length one two (a ∙ sym b) ∙ a

pub four_long :
    {k : ℕ} (one two three four : List ℕ) → length one ≡ k → length two ≡ k → length three ≡ k → length four ≡ k
    → length (reserve_run.samples_of one two three four) ≡ k
four_long one two three four a b c d = four_length one two three four (a ∙ sym b) (a ∙ sym c) (a ∙ sym d) ∙ a

module _
    (h : Header) (P : List ℕ → Type 0)
    (each : (kind : Kind) (words marks lasts : List ℕ) → length words ≡ h.samples → P (listing_of kind h.n h.need words marks lasts))
    (one two three four : List ℕ)
  where
    pub units_shown :
        length one ≡ h.samples → length two ≡ h.samples → length three ≡ h.samples → length four ≡ h.samples
        → P (units_text h one two three four)
    units_shown a b c d = go (eqb h.units 1) (eqb h.units 2) where
      -- a column of what the steps show is as long as the trace
      shown : {T : Type 0} (ts : List T) (show : T → ℕ) → length ts ≡ h.samples → length (map show ts) ≡ h.samples
      shown ts show e = length-map ts show ∙ e

      go :
          (p q : Bool)
          → P (if p then confirm_text h.n h.need h.word one else if q then pair_text h.n h.need h.word one two else reserve_text h.n h.need h.word one two three four)
      go true q = each Confirm _ _ _ (shown (confirm_run.steps (confirm.fresh h.n h.need h.word) one) confirm_run.shown_word (trace_length _ _ _ one ∙ a))
      go false true =
          each Pair _ _ _
          (shown (pair_steps h.n h.need h.word one two) tuple_run.shown_word (trace_length _ _ _ (zip one two) ∙ two_long one two a b))
      go false false =
          let xs = reserve_run.samples_of one two three four in
          each Reserve _ _ _
          (shown (reserve_run.steps (reserve.fresh h.n h.need h.word) xs) reserve_run.shown_word
          (trace_length _ _ _ xs ∙ four_long one two three four a b c d))
