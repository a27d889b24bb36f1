-- `put_read` meets its contract.
use borrow.Author.Tests.{ne_eqb}
use Rattle.scorvemaglio.proofs.others.put_read.Goals as goal

pub returns-then-number-ne0 : goal.returns-then-number-ne0
returns-then-number-ne0 c = let told = c.tell-number.ensures in record { tells = told; header_after = rw (← told.answered, ne_eqb _ _ c.if-number-ne0.true) }

pub returns : goal.returns
returns c = let told = c.tell-number.ensures in let none = c.if-number-ne0.false in record { tells = rw none at told; header_after = rw (← told.answered, none) }
