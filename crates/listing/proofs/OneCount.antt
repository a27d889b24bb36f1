-- T-02: a recording's N serves both counts, so the listing of two units is the one of the tuple vote that had one.
use mathlib.Core.Path.{◌≡◌}
use mathlib.Core.List.{List, zip}
use Prim.Native.Nat.{ℕ}
use Rattle.tuple.specs.Answers.{word_of, mask_of, mark_of}
use Rattle.tuple.specs.OneCount.{OneCount, fresh, column}
use Rattle.tuple.proofs.OneCount.{same_column}
use Rattle.listing.specs.Listing.{listing_of, pair_text}
use Rattle.listing.specs.declared.Kind.TheVariants.{Pair}

module _ (n need word : ℕ) (one two : List ℕ) where
  abbrev start : OneCount
  start = fresh n need word

  pub pair_as_before :
      pair_text n need word one two ≡ listing_of Pair n need (column word_of start (zip one two)) (column mark_of start (zip one two)) (column mask_of start (zip one two))
  pair_as_before = rw (same_column word_of start (zip one two), same_column mark_of start (zip one two), same_column mask_of start (zip one two))
