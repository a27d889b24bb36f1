-- `tuple::signals::second_word` meets its contract: signal by signal.
use Rattle.tuple.proofs.Disagreement.{second_by_bits}
use Rattle.tuple.proofs.signals.second_word.Goals as goal

pub returns : goal.returns
returns c n = second_by_bits n c.args.a c.args.agreed c.args.disagreeing
