-- `scorve_tuple_new` meets its contract.
use Rattle.scorvemaglio.proofs.tuples.scorve_tuple_new.Goals as goal

pub returns : goal.returns
returns c = rw (← c.new.ensures) c.put_made.ensures
