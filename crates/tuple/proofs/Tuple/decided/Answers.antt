-- `Tuple::decided` meets its contract.
use mathlib.Core.Path.{refl, sym}
use Rattle.tuple.proofs.Tuple.decided.Goals as goal

pub returns : goal.returns
returns c = sym (c.decide-answer.ensures c.args.self c.args.v refl refl refl)
