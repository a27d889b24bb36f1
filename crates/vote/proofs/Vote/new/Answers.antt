-- `Vote::new` meets its contract.
use Rattle.vote.proofs.Vote.new.Goals as goal

pub returns : goal.returns
returns c = rw (c.from_word.ensures, c.default_word.ensures)
