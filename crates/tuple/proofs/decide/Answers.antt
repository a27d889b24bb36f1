-- `tuple::decide` meets its contract: an alarm, or a step of confirmation.
use borrow.Author.Tests.{eq-eqb, ne_eqb}
use Rattle.tuple.proofs.decide.Goals as goal

pub returns-then-mask-ne0 : goal.returns-then-mask-ne0
returns-then-mask-ne0 c s v e word mask = rw (e, word, mask, ne_eqb _ _ c.if-mask-ne0.true)

pub returns : goal.returns
returns c s v e word mask = rw (e, word, mask, c.confirmed_as.ensures, c.clauses-taken.ensures, eq-eqb _ _ c.if-mask-ne0.false)
