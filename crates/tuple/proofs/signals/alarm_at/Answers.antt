-- `tuple::signals::alarm_at` meets its contract.
use borrow.Author.Tests.{lt-ltb, le-ltb}
use Rattle.tuple.proofs.signals.alarm_at.Goals as goal

pub returns-then-count-last : goal.returns-then-count-last
returns-then-count-last c = rw (← c.last.ensures, lt-ltb _ _ c.if-count-last.true)

pub returns-else-count-last : goal.returns-else-count-last
returns-else-count-last c = rw (← c.last.ensures, le-ltb _ _ c.if-count-last.false)
