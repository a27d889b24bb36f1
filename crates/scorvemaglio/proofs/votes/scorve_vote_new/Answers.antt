-- `scorve_vote_new` meets its contract.
use Rattle.scorvemaglio.proofs.votes.scorve_vote_new.Goals as goal

pub returns : goal.returns
returns c = rw (← c.new.ensures) c.put_made.ensures
