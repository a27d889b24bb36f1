-- `tuple::signals::voted_word` meets its contract: signal by signal.
use Rattle.tuple.proofs.Disagreement.{by_bits}
use Rattle.tuple.proofs.signals.voted_word.Goals as goal

pub returns : goal.returns
returns c n = by_bits n c.args.a c.args.agreed c.args.disagreeing
