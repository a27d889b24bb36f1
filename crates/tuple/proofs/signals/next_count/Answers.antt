-- `tuple::signals::next_count` meets its contract.
use borrow.Author.Tests.{lt-ltb, le-ltb, ne_eqb}
use Rattle.tuple.proofs.signals.next_count.Goals as goal

pub returns-then-count-last : goal.returns-then-count-last
returns-then-count-last c = rw (ne_eqb _ _ c.if-disagrees-eq0.false, ← c.last.ensures, lt-ltb _ _ c.if-count-last.true)

pub returns-else-count-last : goal.returns-else-count-last
returns-else-count-last c = rw (ne_eqb _ _ c.if-disagrees-eq0.false, ← c.last.ensures, le-ltb _ _ c.if-count-last.false)

pub returns-then-disagrees-eq0 : goal.returns-then-disagrees-eq0
returns-then-disagrees-eq0 c = rw c.if-disagrees-eq0.true
