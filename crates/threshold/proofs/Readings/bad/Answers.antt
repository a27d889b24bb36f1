-- `Readings::bad` meets its contract: a sum of noughts, if none is a NaN, is at most a tolerance that is not below zero.
use Rattle.threshold.proofs.Noughts.{one_test}
use Rattle.threshold.proofs.Readings.bad.Goals as goal

pub returns : goal.returns
returns c = one_test c.args.self
