-- `Reserve::new` meets its contract.
use Rattle.reserve.proofs.Reserve.new.Goals as goal

pub returns : goal.returns
returns c = rw (c.from_word.ensures, c.default_word.ensures)
