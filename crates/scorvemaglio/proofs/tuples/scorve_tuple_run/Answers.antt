-- `scorve_tuple_run` meets its contract.
use Rattle.scorvemaglio.proofs.tuples.scorve_tuple_run.Goals as goal

pub returns : goal.returns
returns c =
    let e = c.run.ensures in
    record { told = rw (← e.answered) c.tell.ensures; ran = rw (← e.answered) e }
