-- `scorve_vote_step` meets its contract.
use Rattle.scorvemaglio.proofs.votes.scorve_vote_step.Goals as goal

pub returns : goal.returns
returns c = rw (← c.of-s.ensures, ← c.step.ensures.value) c.put_step.ensures
