-- `vote::still` meets its contract: the tests, in their order.
use borrow.Author.Tests.{eq-eqb, ne_eqb}
use Rattle.vote.proofs.still.Goals as goal

pub returns-then-a-word : goal.returns-then-a-word
returns-then-a-word c = rw (eq-eqb _ _ c.if-a-word.true)

pub returns-then-b-word : goal.returns-then-b-word
returns-then-b-word c = rw (ne_eqb _ _ c.if-a-word.false, eq-eqb _ _ c.if-b-word.true)

pub returns : goal.returns
returns c = rw (ne_eqb _ _ c.if-a-word.false, ne_eqb _ _ c.if-b-word.false)
