-- `scorve_confirm_step` meets its contract.
use Rattle.scorvemaglio.proofs.confirms.scorve_confirm_step.Goals as goal

pub returns : goal.returns
returns c = rw (← c.of-s.ensures, ← c.step.ensures) c.put_step.ensures
