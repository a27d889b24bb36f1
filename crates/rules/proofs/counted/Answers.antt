-- `rules::counted` meets its contract.
use Rattle.rules.proofs.OneTest.{count_below}
use Rattle.rules.proofs.counted.Goals as goal

pub returns : goal.returns
returns c = count_below c.args.need c.args.count
