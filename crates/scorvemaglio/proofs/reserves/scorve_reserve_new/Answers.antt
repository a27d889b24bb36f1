-- `scorve_reserve_new` meets its contract.
use Rattle.scorvemaglio.proofs.reserves.scorve_reserve_new.Goals as goal

pub returns : goal.returns
returns c = rw (← c.new.ensures) c.put_made.ensures
