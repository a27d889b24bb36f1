-- The invariant: one was found so far, or is among the samples to come, exactly when some sample is one.
use mathlib.Core.Path.{◌≡◌}
use mathlib.Core.Bool.{◌||◌}
use lib.ListN.{drop}
use Rattle.rules.specs.Limits.{differ}
use Rattle.trace.specs.Samples.{somewhere}
use Rattle.confirm.proofs.blocks.some_other.Given as goal

abbrev pub invariant-loop-sample : goal.invariant-loop-sample
invariant-loop-sample l = l.other || somewhere (differ l.word) (drop l.sample-index l.samples) ≡ somewhere (differ l.word) l.samples
