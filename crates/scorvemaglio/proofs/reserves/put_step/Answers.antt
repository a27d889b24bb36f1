-- `put_step` meets its contract, for reserve.
use Rattle.scorvemaglio.proofs.reserves.put_step.Goals as goal

pub returns : goal.returns
returns c = record { state_after = c.numbers.ensures; answer_after = rw (c.from-which.ensures, c.which.ensures, c.from-mark.ensures, c.mark.ensures) }
