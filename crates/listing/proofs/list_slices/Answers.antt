-- `list_slices` meets its contract: the columns are fit for a run, and each slice has a place for each sample.
use mathlib.Core.Path.{◌≡◌}
use mathlib.Core.Bool.{false}
use mathlib.Core.Logic.{◌⊎◌, ⊎_elim}
use Prim.Native.Nat.{ℕ}
use Rattle.recording.specs.Recording.{bad_units}
use Rattle.listing.proofs.list_slices.Goals as goal

known : (units : ℕ) → (units ≡ 1) ⊎ ((units ≡ 2) ⊎ (units ≡ 4)) → bad_units units ≡ false
known units = ⊎_elim (λ e. rw e) (⊎_elim (λ e. rw e) (λ e. rw e))

pub invariant_of-run-clause-known : goal.invariant_of-run-clause-known
invariant_of-run-clause-known c = known _ c.requires.units.known
