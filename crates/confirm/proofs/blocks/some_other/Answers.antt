-- `confirm::blocks::some_other` meets its contract: past the last sample, what was found so far is all.
use mathlib.Core.Bool.{or-false, or_assoc}
use Rattle.rules.specs.Limits.{differ}
use Rattle.trace.proofs.Samples.{somewhere_next, nowhere_more}
use Rattle.confirm.proofs.blocks.some_other.Goals as goal

pub loop-sample-preserved : goal.loop-sample-preserved
loop-sample-preserved c =
    let x = c.args in
    let l = c.loop-sample in
    rw (or_assoc, ← somewhere_next (differ x.word) x.samples.now l.sample-index 0 c.loop-sample-test.true) l.invariant

pub returns : goal.returns
returns c =
    let x = c.args in
    let l = c.loop-sample in
    simp (nowhere_more (differ x.word) x.samples.now l.sample-index c.loop-sample-test.false, or-false) at l.invariant
