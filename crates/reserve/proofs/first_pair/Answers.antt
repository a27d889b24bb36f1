-- `reserve::first_pair` meets its contract.
use Rattle.reserve.proofs.first_pair.Goals as goal

pub returns : goal.returns
returns c = rw c.phase_after-phase.ensures
