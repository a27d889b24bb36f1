-- `trace::some_outside` meets its contract: one more sample is looked at.
use mathlib.Core.Bool.{or_assoc}
use Rattle.rules.specs.Limits.{outside}
use Rattle.rules.proofs.Width.{outside_or}
use Rattle.trace.proofs.Samples.{somewhere_next}
use Rattle.trace.proofs.some_outside.Goals as goal

pub loop-sample-preserved : goal.loop-sample-preserved
loop-sample-preserved c =
    let a = c.args in
    rw (outside_or, or_assoc, ← somewhere_next (outside a.n) a.samples.now c.loop-sample.sample-index 0 c.loop-sample-test.true) c.loop-sample.invariant
