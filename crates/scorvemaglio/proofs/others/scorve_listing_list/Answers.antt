-- `scorve_listing_list` meets its contract.
use Rattle.scorvemaglio.proofs.others.scorve_listing_list.Goals as goal

pub returns : goal.returns
returns c =
    let e = c.list.ensures in
    record { told = rw (← e.answered) c.put_listed.ensures; listed = rw (← e.answered) e }
