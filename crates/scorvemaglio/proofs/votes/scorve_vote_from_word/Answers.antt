-- `scorve_vote_from_word` meets its contract.
use Rattle.scorvemaglio.proofs.votes.scorve_vote_from_word.Goals as goal

pub returns : goal.returns
returns c = rw (← c.from_word.ensures) c.put_made.ensures
