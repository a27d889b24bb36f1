-- Lines one after the other: none, and one more.
use Prim.Native.Nat.{ℕ, ◌+◌}
use mathlib.Core.Path.{◌≡◌}
use mathlib.Core.List.{List, ◌++◌}
use native.Mathlib.Numerals.{add-one}
use Rattle.text.specs.Put.{Writes}
use Rattle.text.proofs.Laws.{nothing}
use Rattle.listing.specs.Listing.{joined}

module _ (f : ℕ → List ℕ) where
  pub joined_none : {old : List ℕ} {at : ℕ} → Writes old at (joined 0 f) at old
  unfolding joined
  joined_none = nothing

  pub joined_more : (i : ℕ) → joined (i + 1) f ≡ joined i f ++ f i
  unfolding joined
  joined_more i = rw add-one
