-- `Reserve::clauses` meets its contract: each phase is the choice of the definition.
use Rattle.reserve.specs.Reserve.{clauses}
use Rattle.reserve.proofs.Reserve.clauses.Goals as goal

pub returns-in-Primary : goal.returns-in-Primary
unfolding clauses
returns-in-Primary c = rw (c.first_pair.ensures, c.clauses.ensures, c.in-Primary.is)

pub returns-in-TakingOver : goal.returns-in-TakingOver
unfolding clauses
returns-in-TakingOver c = rw (c.second_pair.ensures, c.clauses-in-TakingOver.ensures, c.in-TakingOver.is)

pub returns-in-Reserve : goal.returns-in-Reserve
unfolding clauses
returns-in-Reserve c = rw (c.second_pair-in-Reserve.ensures, c.clauses-in-Reserve.ensures, c.in-Reserve.is)
