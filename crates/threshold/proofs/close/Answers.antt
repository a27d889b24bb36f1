-- `threshold::close` meets its contract: a magnitude is at most a bound where the value and its negation are.
use lib.Ieee.{binary64, sub}
use Rattle.threshold.proofs.Order.{both_signs}
use Rattle.threshold.proofs.close.Goals as goal

pub returns : goal.returns
returns c = both_signs (sub binary64 c.args.a c.args.b) c.args.tolerance
