-- `trace::outsider` meets its contract: where no sample is outside, the search would find none.
use mathlib.Core.Path.{sym}
use Rattle.rules.specs.Limits.{outside}
use Rattle.trace.proofs.Samples.{position_is}
use Rattle.trace.proofs.outsider.Goals as goal

pub returns-then-not-some_outside : goal.returns-then-not-some_outside
returns-then-not-some_outside c =
    let a = c.args in
    sym (rw (← c.some_outside.ensures, c.if-not-some_outside.true) at (position_is (outside a.n) a.samples.now))
