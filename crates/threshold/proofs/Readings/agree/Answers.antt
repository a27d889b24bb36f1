-- `Readings::agree` meets its contract, by that of `close`.
use Rattle.threshold.proofs.Readings.agree.Goals as goal

pub returns : goal.returns
returns c = cc
