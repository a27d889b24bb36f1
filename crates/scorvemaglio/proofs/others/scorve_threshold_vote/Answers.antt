-- `scorve_threshold_vote` meets its contract.
use Rattle.scorvemaglio.proofs.others.scorve_threshold_vote.Goals as goal

pub returns : goal.returns
returns c = rw (← c.vote.ensures) c.put_vote.ensures
