-- `list` meets its contract: a buffer that is too short is left as it came.
use native.Mathlib.Omega.{arith}
use borrow.Author.Tests.{lt-ltb}
use Rattle.listing.proofs.list.Goals as goal

pub returns-then-out-lt-LONGEST : goal.returns-then-out-lt-LONGEST
returns-then-out-lt-LONGEST c = let short = lt-ltb _ _ c.if-out-lt-LONGEST.true in record { answered = rw short; within = omega arith; out_after = rw short }
