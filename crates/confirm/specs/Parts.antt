-- Serves proofs only: the loops of a run. Steps over some samples of a trace, from any state: what stands written for
-- them, and the state that they leave.
use Rattle.std.specs.Prelude.{ℕ, ◌≡◌, List, map, length}
use Rattle.trace.specs.Trace.{left}
use Rattle.confirm.specs.declared.Confirm.{Confirm}
use Rattle.confirm.specs.Confirm.{clauses}
use Rattle.confirm.specs.Run.{leaves, steps, shown_word, shown_mark, shown_count}

-- every lent slice is as long as the samples
abbrev pub AsLong : List ℕ → List ℕ → List ℕ → List ℕ → Type 0
AsLong samples words marks counts = (length samples ≡ length words) × (length samples ≡ length marks) × (length samples ≡ length counts)

-- for each sample what its step shows is written
pub record Wrote (s : Confirm) (samples words' marks' counts' : List ℕ) : Type 0 where
  pub words_shown : words' ≡ map shown_word (steps s samples)
  pub marks_shown : marks' ≡ map shown_mark (steps s samples)
  pub counts_shown : counts' ≡ map shown_count (steps s samples)

-- the state that is left
abbrev pub left_by : Confirm → List ℕ → Confirm
left_by = left clauses leaves
