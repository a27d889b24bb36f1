-- `trace::some_outside` meets its contract. The invariant: the OR so far is outside, or a sample to come is, exactly when some sample is.
use mathlib.Core.Path.{◌≡◌}
use mathlib.Core.Bool.{◌||◌}
use lib.ListN.{drop}
use Rattle.rules.specs.Limits.{outside}
use Rattle.trace.specs.Samples.{somewhere}
use Rattle.trace.proofs.some_outside.Given as goal

abbrev pub invariant-loop-sample : goal.invariant-loop-sample
invariant-loop-sample l = outside l.n l.union || somewhere (outside l.n) (drop l.sample-index l.samples) ≡ somewhere (outside l.n) l.samples
