-- `scorve_recording_read` meets its contract.
use Rattle.scorvemaglio.proofs.others.scorve_recording_read.Goals as goal

pub returns : goal.returns
returns c =
    let e = c.read.ensures in
    let p = c.put_read.ensures in
    record { told = rw (← e.answered) p.tells; header_after_is = rw (← e.answered) p.header_after; was_read = rw (← e.answered) e }
