-- `Tuple::new` meets its contract.
use Rattle.tuple.proofs.Tuple.new.Goals as goal

pub returns : goal.returns
returns c = rw (c.from_word.ensures, c.default_word.ensures)
