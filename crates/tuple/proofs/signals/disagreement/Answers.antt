-- `tuple::signals::disagreement` meets its contract: one operation makes the word.
use Rattle.tuple.proofs.Disagreement.{by_xor}
use Rattle.tuple.proofs.signals.disagreement.Goals as goal

pub returns : goal.returns
returns c n = by_xor n c.args.a c.args.b
