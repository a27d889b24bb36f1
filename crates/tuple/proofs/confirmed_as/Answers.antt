-- `tuple::confirmed_as` meets its contract, case by case.
use Rattle.tuple.proofs.confirmed_as.Goals as goal

pub returns-in-Confirmed : goal.returns-in-Confirmed
returns-in-Confirmed c = cc

pub returns-in-Held : goal.returns-in-Held
returns-in-Held c = cc

pub returns-in-Refused : goal.returns-in-Refused
returns-in-Refused c = cc
